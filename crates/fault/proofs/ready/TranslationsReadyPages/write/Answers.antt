use Rattle.std.proofs.Common.{ap}
use Rattle.std.proofs.lemmas.Result.{MatchResult-weaker}
use Rattle.fault.specs.Table.{ready_of}
use Rattle.fault.proofs.ready.TranslationsReadyPages.write.Goals as goal

pub returns-clause-outcome : goal.returns-clause-outcome
returns-clause-outcome g c =
    MatchResult-weaker c.mem_write.result c.mem_write.ensures.outcome (λ faults writes. writes) (λ refusal denied. (denied.0, denied.1, ap ready_of denied.2))
