use Rattle.std.proofs.Common.{sym, ap, length, arith}
use Rattle.std.proofs.lemmas.Grind.{common_steps}
use Rattle.source_vm.proofs.Many.{order_of_many}
use Rattle.source_vm.proofs.reading.order.Goals as goal

pub returns-then-is_full : goal.returns-then-is_full
returns-then-is_full c =
    let all = ap length c.loop-word.invariant in
    let more = ap length c.in-Some.ensures.words in
    sym (order_of_many _ (grind (arith, common_steps, all, more, c.if-is_full.ensures)))
