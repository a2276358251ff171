-- Hexadecimal digits: the last one, and how many there are.
use Rattle.std.proofs.Common.{◌≡◌, ℕ, zero, suc, ◌+◌, ◌/◌, ◌%◌, ◌^◌, ◌<◌, ◌≤◌, false, cond, List, [], ◌∷◌, ◌++◌}
use Rattle.std.proofs.Common.{length, refl, sym, ap, ◌∙◌, append_assoc, length-append, arith, eq-eqb, ne_eqb, ⊎_elim}
use Rattle.std.specs.Fmt.{digits, digits_onto, digit_glyph}
use Rattle.std.proofs.lemmas.Fmt.{hex_one_digit}
use Rattle.std.proofs.lemmas.Bool.{cases_lt}

abbrev onto : ℕ → ℕ → List ℕ → List ℕ
onto k n acc = digits_onto k 16 false n acc

abbrev last_glyph : ℕ → ℕ
last_glyph n = digit_glyph false (n % 16)

onto_last : (k n : ℕ) (acc : List ℕ) → n < 16 → onto (suc k) n acc ≡ last_glyph n ∷ acc
onto_last k n acc h = ap (λ t. cond t (last_glyph n ∷ acc) (onto k (n / 16) (last_glyph n ∷ acc)))
    (eq-eqb (n / 16) 0 (omega arith))

onto_next : (k n : ℕ) (acc : List ℕ) → 16 ≤ n → onto (suc k) n acc ≡ onto k (n / 16) (last_glyph n ∷ acc)
onto_next k n acc h = ap (λ t. cond t (last_glyph n ∷ acc) (onto k (n / 16) (last_glyph n ∷ acc)))
    (ne_eqb (n / 16) 0 (λ e. omega arith))

onto-append : (k n : ℕ) (acc : List ℕ) → onto k n acc ≡ onto k n [] ++ acc
onto-append zero n acc = refl
onto-append (suc k) n acc = ⊎_elim
    (λ l. onto_last k n acc l ∙ ap (λ x. x ++ acc) (sym (onto_last k n [] l)))
    (λ l. onto_next k n acc l ∙ onto-append k (n / 16) (last_glyph n ∷ acc)
    ∙ sym (append_assoc (onto k (n / 16) []) (last_glyph n ∷ []) acc)
    ∙ ap (λ x. x ++ acc) (sym (onto_next k n [] l ∙ onto-append k (n / 16) (last_glyph n ∷ []))))
    (cases_lt n 16)

-- the limit on the digits says nothing once it is large enough
onto_enough : (j k n : ℕ) (acc : List ℕ) → n < 16 ^ suc j → n < 16 ^ suc k → onto (suc j) n acc ≡ onto (suc k) n acc
onto_enough zero k n acc p q = onto_last zero n acc (omega arith) ∙ sym (onto_last k n acc (omega arith))
onto_enough (suc j) zero n acc p q = onto_last (suc j) n acc (omega arith) ∙ sym (onto_last zero n acc (omega arith))
onto_enough (suc j) (suc k) n acc p q = ⊎_elim
    (λ l. onto_last (suc j) n acc l ∙ sym (onto_last (suc k) n acc l))
    (λ l. onto_next (suc j) n acc l ∙ onto_enough j k (n / 16) (last_glyph n ∷ acc) (omega arith) (omega arith)
    ∙ sym (onto_next (suc k) n acc l))
    (cases_lt n 16)

onto_digits : (n : ℕ) → onto 64 n [] ≡ digits 16 false n
unfolding digits
onto_digits n = refl

-- the digits of a number of at least two digits end in that of its lowest four bits
pub hex_step : (n : ℕ) → 16 ≤ n → n < 2 ^ 64
    → digits 16 false n ≡ digits 16 false (n / 16) ++ digit_glyph false (n % 16) ∷ []
hex_step n more fits =
    sym (onto_digits n) ∙ onto_next 63 n [] more
    ∙ onto_enough 62 63 (n / 16) (last_glyph n ∷ []) (omega arith) (omega arith)
    ∙ onto-append 64 (n / 16) (last_glyph n ∷ []) ∙ ap (λ x. x ++ last_glyph n ∷ []) (onto_digits (n / 16))

pub length-hex_step : (n : ℕ) → 16 ≤ n → n < 2 ^ 64 → length (digits 16 false n) ≡ length (digits 16 false (n / 16)) + 1
length-hex_step n more fits =
    ap length (hex_step n more fits) ∙ length-append (digits 16 false (n / 16)) (digit_glyph false (n % 16) ∷ [])

-- a number below 16 ^ k has at most k digits
length-hex-le : (k n : ℕ) → 0 < k → n < 16 ^ k → n < 2 ^ 64 → length (digits 16 false n) ≤ k
length-hex-le zero n some small fits = absurd (omega arith)
length-hex-le (suc zero) n some small fits =
    let one = ap length (hex_one_digit false n (omega arith)) in omega arith
length-hex-le (suc (suc j)) n some small fits = ⊎_elim
    (λ l. let one = ap length (hex_one_digit false n l) in omega arith)
    (λ l.
    let front = length-hex-le (suc j) (n / 16) (omega arith) (omega arith) (omega arith) in
    omega (arith, length-hex_step n l fits))
    (cases_lt n 16)

-- a word of 64 bits has at most 16 digits
pub hex_short : (n : ℕ) → n < 2 ^ 64 → length (digits 16 false n) ≤ 16
hex_short n fits = length-hex-le 16 n (omega arith) (omega arith) fits
