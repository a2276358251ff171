use Rattle.std.proofs.Common.{refl}
use Rattle.pair_map.proofs.ExtentLaws.{gap-none, gap-first}
use Rattle.pair_map.proofs.extent_map.ExtentMap.first_gap.Goals as goal

pub returns-in_err-gap : goal.returns-in_err-gap
returns-in_err-gap g c =
    rw c.from_residual.ensures (gap-none c.self.view_is c.self.invariant c.len-rising.ensures.rising c.args.list c.args.from c.args.count c.args.limit
    c.requires.some c.requires.limit c.pair_rank.ensures c.from.ensures c.pair_rank-2.ensures c.in_err-gap.ensures)

pub returns : goal.returns
returns g c =
    gap-first c.self.view_is c.self.invariant c.len-rising.ensures.rising c.args.list c.args.from c.args.count c.args.limit
    c.requires.some c.requires.limit c.pair_rank.ensures c.from.ensures c.pair_rank-2.ensures c.in_ok-gap.gap c.pair_rank-3.result _
    c.pair_rank-3.ensures refl c.in_ok-gap.ensures
