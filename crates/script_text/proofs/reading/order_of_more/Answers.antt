use Rattle.std.proofs.Common.{sym, ap, length, arith}
use Rattle.std.proofs.lemmas.Grind.{common_steps}
use Rattle.script_text.proofs.Many.{command_of_many}
use Rattle.script_text.proofs.reading.order_of_more.Goals as goal

pub returns-then-is_full : goal.returns-then-is_full
returns-then-is_full c =
    let all = ap length c.loop-argument.invariant in
    let more = ap length c.in-Some.ensures.words in
    sym (command_of_many _ _ (grind (arith, common_steps, all, more, c.if-is_full.ensures)))
