-- What the reader has seen at each exit is one law on words of digits.
use Rattle.std.proofs.Common.{◌∙◌, sym, arith}
use Rattle.std.proofs.lemmas.Bool.{eqb-true, eqb-false}
use Rattle.reply_text.proofs.DigitLaws.{too_long, no_digits, no_digit, is_digit, no_front, appended_is}
use Rattle.reply_text.proofs.reading.+spelled.Goals as goal

pub returns-then-word-gt-MOST_DIGITS : goal.returns-then-word-gt-MOST_DIGITS
returns-then-word-gt-MOST_DIGITS t c = too_long c.args.base c.requires.base c.args.word.now (omega (arith, c.if-word-gt-MOST_DIGITS.true))

pub returns-in_default : goal.returns-in_default
returns-in_default t c = no_digits c.args.base c.requires.base c.args.word.now c.in_default.ensures.cases

pub returns-in_default-digit_of : goal.returns-in_default-digit_of
returns-in_default-digit_of t c =
    no_digit c.args.base c.requires.base c.args.word.now c.in-Some.front.now c.in-Some.last.now c.in-Some.ensures.cases.0 c.in_default-digit_of.ensures

pub returns-then-is_empty : goal.returns-then-is_empty
returns-then-is_empty t c =
    is_digit c.args.base c.requires.base c.args.word.now c.in-Some.front.now c.in-Some.last.now c.in-Some.ensures.cases.0 c.in-Some-digit_of.digit
    (eqb-true _ 0 (sym c.is_empty.ensures ∙ c.if-is_empty.true)) c.in-Some-digit_of.ensures.0 c.in-Some-digit_of.ensures.1

pub returns-in_default-spelled : goal.returns-in_default-spelled
returns-in_default-spelled t c =
    no_front c.args.base c.requires.base c.args.word.now c.in-Some.front.now c.in-Some.last.now c.in-Some.ensures.cases.0
    (eqb-false _ 0 (sym c.is_empty.ensures ∙ c.if-is_empty.false)) c.in_default-spelled.ensures

pub returns : goal.returns
returns t c =
    appended_is c.args.base c.requires.base c.args.word.now c.in-Some.front.now c.in-Some.last.now c.in-Some.ensures.cases.0 c.in-Some-spelled.high c.in-Some-digit_of.digit c.appended.result
    (eqb-false _ 0 (sym c.is_empty.ensures ∙ c.if-is_empty.false)) c.in-Some-digit_of.ensures.0 c.in-Some-digit_of.ensures.1 c.in-Some-spelled.ensures c.appended.ensures
