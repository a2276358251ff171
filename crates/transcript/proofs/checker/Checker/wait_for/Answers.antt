use Rattle.transcript.proofs.CheckLaws.{blank_at}
use Rattle.transcript.proofs.checker.Checker.wait_for.Goals as goal

pub returns-then-is_blank : goal.returns-then-is_blank
returns-then-is_blank c = λ frames tells is.
    blank_at frames c.args.self.now tells c.args.script.now is c.requires.filled c.requires.idle (c.is_blank.ensures.0 c.if-is_blank.true)
