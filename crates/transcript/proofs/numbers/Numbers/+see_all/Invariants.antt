use Rattle.std.proofs.Common.{length}
use Rattle.transcript.proofs.numbers.Numbers.+see_all.Given as goal

abbrev pub decreases-see_all : goal.decreases-see_all
decreases-see_all l = length l.frames.now
