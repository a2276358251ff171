use Rattle.std.proofs.Common.{sym, subst, List, ℕ}
use Rattle.checker_machine.specs.Machine.{checker_machine_of}
use Rattle.transcript.specs.Seen.{HasFrames}
use Rattle.transcript.proofs.SeenLaws.{frees_pin}
use Rattle.transcript.proofs.answering.hear_unpin.Goals as goal

pub hear_reply-requires-clause-freed : goal.hear_reply-requires-clause-freed
hear_reply-requires-clause-freed c = λ good.
    let own = checker_machine_of c.args.own.now.machine in
    frees_pin own c.args.call.now c.args.pin _ c.requires.unpins (subst (λ (ts : List ℕ). HasFrames own c.args.pin.0 ts) (sym c.as_slice.ensures.value) (c.frames_of-freed.ensures good))
