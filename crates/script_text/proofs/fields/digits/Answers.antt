-- A number that does not fit stays so, whatever digits follow.
use Rattle.std.proofs.Common.{◌^◌, ◌+◌, ◌*◌, ◌≤◌, sym, ◌∙◌, ap, arith}
use Rattle.vm_model.specs.Language.Reading.{below}
use Rattle.script_text.specs.inside.Radixes.{base_of, value_in}
use Rattle.script_text.proofs.Horner.{digits_from-overflow}
use Rattle.script_text.proofs.Bases.{base_of-pos}
use Rattle.script_text.proofs.fields.digits.Goals as goal

pub returns-in_err-checked_mul : goal.returns-in_err-checked_mul
returns-in_err-checked_mul c =
    let over : 2 ^ 64 ≤ c.loop-byte.number * c.base.result + c.in_ok-digit.digit =
    omega (arith, c.in_err-checked_mul.ensures) in
    let none = digits_from-overflow (2 ^ 64) (base_of c.args.radix) c.loop-byte.number c.in_ok-digit.digit
    (value_in c.args.radix) c.args.word.now c.loop-byte.byte-index (base_of-pos c.args.radix) c.loop-byte-test.true
    (sym c.value.ensures ∙ c.in_ok-digit.was) (rw c.base.ensures at over) in
    c.from_residual-in_err-checked_mul.ensures ∙ sym none ∙ ap (below (2 ^ 64)) c.loop-byte.invariant.rest

pub returns-in_err-number : goal.returns-in_err-number
returns-in_err-number c =
    let over : 2 ^ 64 ≤ c.loop-byte.number * c.base.result + c.in_ok-digit.digit =
    omega (arith, c.in_err-number.ensures, c.in_ok-checked_mul.ensures) in
    let none = digits_from-overflow (2 ^ 64) (base_of c.args.radix) c.loop-byte.number c.in_ok-digit.digit
    (value_in c.args.radix) c.args.word.now c.loop-byte.byte-index (base_of-pos c.args.radix) c.loop-byte-test.true
    (sym c.value.ensures ∙ c.in_ok-digit.was) (rw c.base.ensures at over) in
    c.from_residual-in_err-number.ensures ∙ sym none ∙ ap (below (2 ^ 64)) c.loop-byte.invariant.rest
