use Rattle.std.proofs.Common.{◌≡◌, get_or, take, length, true, false, refl, sym, ap, ◌∙◌, arith, nat_eq}
use Rattle.std.specs.Cmp.Lexicographic.{pointwise}
use Rattle.std.proofs.lemmas.List.{ext_get_or, get_or-take, length-take-le}
use Rattle.std.proofs.lemmas.Slice.Eq.{bytes_eq-Decides}
use Rattle.script_text.proofs.words.begins_with.Goals as goal

pub returns-then-line-place : goal.returns-then-line-place
returns-then-line-place c =
    let line = c.args.line.now in
    let front = c.args.front.now in
    let place = c.loop-place.place in
    let less = c.loop-place-test.true in
    elim (pointwise nat_eq (take (length front) line) front)
    as (λ b. pointwise nat_eq (take (length front) line) front ≡ b → false ≡ b) [
      | true ↦ λ same. absurd (c.if-line-place.true (sym (get_or-take (length front) line place 0 less)
          ∙ ap (λ l. get_or l place 0) ((bytes_eq-Decides _ _).0 same)))
      | false ↦ λ _. refl
    ] refl

pub returns : goal.returns
returns c =
    let line = c.args.line.now in
    let front = c.args.front.now in
    let fits : length (take (length front) line) ≡ length front = length-take-le (length front) line c.if-line-front.false in
    sym ((bytes_eq-Decides _ _).1 (ext_get_or 0 (take (length front) line) front fits
    (λ k less. get_or-take (length front) line k 0 (omega (arith, less, fits))
    ∙ c.loop-place.invariant k (omega (arith, less, fits, c.loop-place-test.false)))))
