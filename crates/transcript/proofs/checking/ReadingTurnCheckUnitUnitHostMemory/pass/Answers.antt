use Rattle.std.proofs.Common.{arith}
use Rattle.transcript.proofs.ReportLaws.{passed}
use Rattle.transcript.proofs.checking.ReadingTurnCheckUnitUnitHostMemory.pass.Goals as goal

pub pass-requires : goal.pass-requires
pass-requires c = omega (arith, c.requires.few)

pub returns : goal.returns
returns c = record {
  taken = λ line long frames lines h. c.pass.ensures.checked frames lines line h long;
  next = (passed c.args.check.now c.pass.new.self c.requires.holds c.pass.ensures.checked, omega (arith, c.pass.ensures.lines));
}
