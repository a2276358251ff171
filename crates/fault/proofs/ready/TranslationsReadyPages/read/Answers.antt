use Rattle.std.proofs.Common.{ap}
use Rattle.std.proofs.lemmas.Result.{MatchResult-weaker}
use Rattle.fault.specs.Table.{ready_of}
use Rattle.fault.proofs.ready.TranslationsReadyPages.read.Goals as goal

pub returns-clause-outcome : goal.returns-clause-outcome
returns-clause-outcome g c =
    MatchResult-weaker c.mem_read_into.result c.mem_read_into.ensures.outcome (λ pair reads. reads) (λ refusal denied. (denied.0, ap ready_of denied.1))
