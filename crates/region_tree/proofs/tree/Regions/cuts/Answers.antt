use Rattle.std.proofs.Common.{◌+◌, sym, ◌∙◌, arith}
use Rattle.region_tree.proofs.PlaceLaws.{seen, out-cuts, cuts-last, none-cut_empty}
use Rattle.region_tree.proofs.tree.Regions.cuts.Goals as goal

pub returns-then-count-eq0 : goal.returns-then-count-eq0
returns-then-count-eq0 c = sym (none-cut_empty _ c.args.region.0 c.args.first c.args.count (omega (arith, c.if-count-eq0.true)))

pub returns-then-at_first : goal.returns-then-at_first
returns-then-at_first c =
    c.if-at_first.true
    ∙ sym (out-cuts _ _ (seen c.self.view_is c.self.invariant) c.args.region.0 c.args.first c.args.first (c.args.first + c.args.count) (omega arith) (omega (arith, c.if-count-eq0.false))
    (c.reaches_out-at_first.ensures.0 c.if-at_first.true))

pub returns-else-at_first : goal.returns-else-at_first
returns-else-at_first c =
    cuts-last _ _ (seen c.self.view_is c.self.invariant) c.args.region.0 c.args.first (c.args.first + c.args.count) _ _ (omega (arith, c.if-count-eq0.false))
    c.reaches_out-at_first.ensures c.if-at_first.false c.reaches_out-at_last.ensures
