use Rattle.std.proofs.Common.{length}
use Rattle.transcript.proofs.answering.+forget.Given as goal

abbrev pub decreases-forget : goal.decreases-forget
decreases-forget l = length l.freed.now
