use Rattle.checker_machine.specs.Machine.{checker_machine_of}
use Rattle.transcript.proofs.SeenLaws.{frees_none}
use Rattle.transcript.proofs.answering.hear_call.Goals as goal

pub hear_reply-requires-clause-freed : goal.hear_reply-requires-clause-freed
hear_reply-requires-clause-freed c = λ good. frees_none (checker_machine_of c.args.own.now.machine) c.args.call.now _ c.in_default.not-VmoUnpin
