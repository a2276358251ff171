use Rattle.std.proofs.Common.{length}
use Rattle.reply_text.proofs.SpaceLaws.{IsRead}
use Rattle.reply_text.proofs.reading.numbers_of.Given as goal

abbrev pub invariant-loop-rest : goal.invariant-loop-rest
invariant-loop-rest l = IsRead l.text l.numbers l.rest

abbrev pub decreases-loop-rest : goal.decreases-loop-rest
decreases-loop-rest l = length l.rest
