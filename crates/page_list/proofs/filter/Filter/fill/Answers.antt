use Rattle.std.proofs.Common.{refl, sym, arith}
use Rattle.page_list.proofs.FillLaws.{below-start, below-next, below-end, below-last, next-from}
use Rattle.page_list.proofs.filter.Filter.fill.Goals as goal

pub loop-row-init : goal.loop-row-init
loop-row-init c = below-start c.args.tree.now c.args.self.now

pub loop-row-smaller : goal.loop-row-smaller
loop-row-smaller c =
    let from = next-from c.args.tree.now _ c.in-Some.row c.len-rising.ensures.rising (sym c.in-Some.ensures) in
    omega (arith, c.in-Some-checked_add.ensures, c.pair_rank.ensures)

pub loop-row-preserved : goal.loop-row-preserved
loop-row-preserved c =
    below-next c.args.tree.now c.in-Some.row c.pair_rank.result _ c.len-rising.ensures.rising c.loop-row.invariant c.set.ensures.more (sym c.in-Some.ensures)
    (omega arith) c.set.ensures.set c.pair_rank.ensures (omega (arith, c.in-Some-checked_add.ensures))

pub returns-in_default-checked_add : goal.returns-in_default-checked_add
returns-in_default-checked_add c =
    below-last c.args.tree.now c.len-rising.ensures.rising
    (below-next c.args.tree.now c.in-Some.row c.pair_rank.result _ c.len-rising.ensures.rising c.loop-row.invariant c.set.ensures.more (sym c.in-Some.ensures)
    (omega arith) c.set.ensures.set c.pair_rank.ensures refl)
    (omega (arith, c.in_default-checked_add.ensures))

pub returns : goal.returns
returns c = below-end c.args.tree.now c.loop-row.invariant (sym c.in_default.ensures)
