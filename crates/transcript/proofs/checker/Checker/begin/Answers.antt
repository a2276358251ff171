use Rattle.std.proofs.Common.{refl}
use Rattle.transcript.proofs.CheckLaws.{filled_at}
use Rattle.transcript.proofs.checker.Checker.begin.Goals as goal

pub returns : goal.returns
returns c = λ frames tells is.
    (filled_at frames c.args.self.now tells (record { machine = c.fill.new.self; numbers = c.in_ok-numbers.numbers }) is c.if-self.false c.in_ok-fill.ensures.filled c.in_ok-numbers.ensures, refl)
