use Rattle.std.proofs.Common.{◌∙◌}
use Rattle.transcript.proofs.HearLaws.{host_heard, same_text}
use Rattle.transcript.proofs.answering.hear_order.Goals as goal

pub returns-then-eq : goal.returns-then-eq
returns-then-eq c = λ frames before pending stands e.
    host_heard frames c.args.own.now pending before c.args.line.now _ c.may_want_memory.result c.ends_if.result stands e ((same_text c.args.line.now _ c.eq.result c.eq.ensures).0 c.if-eq.true ∙ c.as_slice.ensures) c.may_want_memory.ensures c.ends_if.ensures
