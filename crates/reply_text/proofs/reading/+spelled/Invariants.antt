use Rattle.std.proofs.Common.{length}
use Rattle.reply_text.proofs.reading.+spelled.Given as goal

abbrev pub decreases-spelled : goal.decreases-spelled
decreases-spelled l = length l.word.now
