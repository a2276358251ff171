use Rattle.std.proofs.Common.{sym, ◌∙◌}
use Rattle.script_text.proofs.FrequentLaws.{three-more, three-only}
use Rattle.script_text.proofs.frequent.three_words.Goals as goal

pub returns-then-not-has_no_word : goal.returns-then-not-has_no_word
returns-then-not-has_no_word c =
    sym (three-more c.args.line.now _ _ _ _ _ _ c.in_ok-first.ensures.words c.in_ok-second.ensures.words
    c.in_ok-third.ensures.words (sym c.has_no_word.ensures ∙ c.if-not-has_no_word.true))

pub returns : goal.returns
returns c =
    sym (three-only c.args.line.now _ _ _ _ _ _ c.in_ok-first.ensures.words c.in_ok-second.ensures.words
    c.in_ok-third.ensures.words (sym c.has_no_word.ensures ∙ c.if-not-has_no_word.false))
