use Rattle.std.proofs.Common.{arith}
use Rattle.transcript.proofs.HearLaws.{address_told, address_none}
use Rattle.transcript.proofs.lines.address_in.Goals as goal

pub returns-in-Some : goal.returns-in-Some
returns-in-Some c = λ b l f. address_told c.in-Some.address b _ (omega (arith, c.if-prove.false)) c.in-Some.ensures l f

pub returns-in-None : goal.returns-in-None
returns-in-None c = λ b l f. absurd (address_none b _ c.in-None.ensures l f)
