use Rattle.std.proofs.Common.{arith}
use Rattle.pair_map.proofs.ExtentLaws.{open-last}
use Rattle.pair_map.proofs.extent_map.ExtentMap.is_open.Goals as goal

pub returns-in-Some : goal.returns-in-Some
returns-in-Some g c =
    open-last _ c.len-apart.ensures.apart c.args.list c.args.first c.args.count _ c.in-Some.start c.in-Some.extent (omega arith)
    c.saturating_add.ensures c.in-Some.ensures
