use Rattle.std.proofs.Common.{arith}
use Rattle.region_tree.proofs.BelowLaws.{within-last}
use Rattle.region_tree.proofs.tree.Regions.within.Goals as goal

pub returns : goal.returns
returns c =
    within-last _ c.within_over.ensures.good c.args.region.0 c.args.first c.args.count c.saturating_add-last.result
    (omega (arith, c.saturating_add-last.ensures, c.saturating_sub.ensures)) c.in_default.ensures.within _ c.within_over-2.ensures.within
