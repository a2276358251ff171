use Rattle.std.proofs.Common.{arith}
use Rattle.pair_map.proofs.PartLaws.{head-of, open-behind}
use Rattle.pair_map.proofs.extent_map.ExtentMap.split.Goals as goal

pub shorten-requires-clause-head : goal.shorten-requires-clause-head
shorten-requires-clause-head g c =
    let order = c.requires.order in
    head-of _ c.len-apart.ensures.apart c.args.list c.args.first c.args.end c.requires.extent c.args.from (omega (arith, order.1, order.2))

pub insert-requires-clause-free : goal.insert-requires-clause-free
insert-requires-clause-free g c =
    let order = c.requires.order in
    open-behind _ c.len-apart.ensures.apart c.args.list c.args.first c.args.end c.requires.extent _ _ _ c.shorten.ensures.extents c.args.to
    (omega (arith, order.0, order.1)) order.2
