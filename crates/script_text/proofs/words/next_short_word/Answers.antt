use Rattle.std.proofs.Common.{◌≢◌, length, sym, ◌∙◌}
use Rattle.std.proofs.lemmas.Bool.{eqb-false}
use Rattle.script_text.proofs.Cutting.{IsCut-begun, words-empty}
use Rattle.script_text.proofs.words.next_short_word.Goals as goal

pub returns-then-is_empty-clause-words : goal.returns-then-is_empty-clause-words
returns-then-is_empty-clause-words c =
    let behind = c.behind_blanks-line in
    words-empty c.args.line.now behind.result.now behind.ensures.words (sym c.is_empty.ensures ∙ c.if-is_empty.true)

pub returns : goal.returns
returns c =
    let behind = c.behind_blanks-line in
    let some : length behind.result.now ≢ 0 = eqb-false _ _ (sym c.is_empty.ensures ∙ c.if-is_empty.false) in
    let cut = IsCut-begun c.args.line.now behind.result.now c.short_word_len.result behind.ensures.words
    behind.ensures.at_most some behind.ensures.begun c.short_word_len.ensures.len in
    rw (c.split_at.ensures.front, c.split_at.ensures.back) record { words = cut.words; shorter = cut.shorter }
