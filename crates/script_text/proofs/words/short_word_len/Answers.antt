use Rattle.std.proofs.Common.{sym, ◌∙◌, arith}
use Rattle.std.proofs.lemmas.List.Sums.{position_or_len_is}
use Rattle.vm_model.specs.Language.Reading.{is_blank}
use Rattle.script_text.proofs.words.short_word_len.Goals as goal

pub returns-then-is_blank-clause-len : goal.returns-then-is_blank-clause-len
returns-then-is_blank-clause-len c =
    sym (position_or_len_is is_blank c.args.line.now c.loop-place.place 0 (omega (arith, c.loop-place-test.true))
    c.loop-place.invariant (λ _. sym c.is_blank.ensures ∙ c.if-is_blank.true))

pub returns-clause-len : goal.returns-clause-len
returns-clause-len c =
    sym (position_or_len_is is_blank c.args.line.now _ 0 (omega arith)
    (λ k less. c.loop-place.invariant k (omega (arith, less, c.loop-place-test.false)))
    (λ less. absurd (omega (arith, less))))
