use Rattle.std.proofs.Common.{arith}
use Rattle.transcript.proofs.ReportLaws.{read-next}
use Rattle.transcript.proofs.checking.ReadingTurnCheckUnitUnitHostMemory.take.Goals as goal

pub read-requires : goal.read-requires
read-requires c =
    let h = c.requires.holds in
    record { short = c.requires.short; checked = (h.0, h.1, h.2, omega (arith, c.requires.few, h.2.count)) }

pub returns : goal.returns
returns c =
    let it = read-next c.args.check.now c.read.new.self c.args.line.now c.read.result c.requires.holds c.read.ensures.checked c.read.ensures.lines in
    record { taken = it.0; next = it.1 }
