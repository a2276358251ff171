-- A number that is read digit by digit.
use Rattle.std.proofs.Common.{◌≡◌, ℕ, ◌+◌, ◌*◌, ◌<◌, ◌≤◌, List, [], ◌∷◌, length, drop, get_or, refl, arith}
use Rattle.std.specs.Prelude.{Option, Some, None, option_and_then}
use Rattle.std.proofs.Math.Nat.{le-mul_of_pos_right}
use Rattle.std.proofs.lemmas.Bool.Decides.{nat_tests}
use Rattle.std.proofs.lemmas.List.{at_drop_more}
use Rattle.vm_model.specs.Language.Reading.{digits_from, below}

-- a number that has reached the bound stays there
below-digits_from : (bound base before : ℕ) (value : ℕ → Option ℕ) (bs : List ℕ) → 1 ≤ base → bound ≤ before
    → below bound (digits_from base value before bs) ≡ None
unfolding digits_from
below-digits_from bound base before value [] b h = grind (arith, nat_tests)
below-digits_from bound base before value (x ∷ bs) b h =
    elim (value x) as (λ o. below bound (option_and_then (λ d. digits_from base value (before * base + d) bs) o)
    ≡ None) [
      | None ↦ refl
      | Some d ↦ below-digits_from bound base (before * base + d) value bs b
          (omega (arith, le-mul_of_pos_right before b))
    ]

-- one digit more
digits_from-drop : (base before : ℕ) (value : ℕ → Option ℕ) (xs : List ℕ) (i : ℕ) → i < length xs
    → digits_from base value before (drop i xs)
    ≡ option_and_then (λ d. digits_from base value (before * base + d) (drop (i + 1) xs)) (value (get_or xs i 0))
unfolding digits_from
digits_from-drop base before value xs i h = at_drop_more (digits_from base value before) xs i 0 h

-- a digit that takes the number to the bound
pub digits_from-overflow : (bound base before d : ℕ) (value : ℕ → Option ℕ) (xs : List ℕ) (i : ℕ) → 1 ≤ base
    → i < length xs → value (get_or xs i 0) ≡ Some d → bound ≤ before * base + d
    → below bound (digits_from base value before (drop i xs)) ≡ None
digits_from-overflow bound base before d value xs i one h e over =
    rw (digits_from-drop base before value xs i h, e)
    (below-digits_from bound base (before * base + d) value (drop (i + 1) xs) one over)
