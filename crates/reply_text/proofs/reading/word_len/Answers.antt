use Rattle.std.proofs.Common.{◌∙◌, ap, ℕ, length, Option}
use Rattle.std.specs.Prelude.{unwrap_or}
use Rattle.reply_text.proofs.SpaceLaws.{len_of_place}
use Rattle.reply_text.proofs.reading.word_len.Goals as goal

pub returns-clause-len : goal.returns-clause-len
returns-clause-len c = c.unwrap_or.ensures ∙ (ap (λ (o : Option ℕ). unwrap_or o (length c.args.text.now)) c.first_space.ensures ∙ len_of_place c.args.text.now)
