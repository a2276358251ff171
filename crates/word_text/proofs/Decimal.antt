-- How many digits a number has in decimal.
use Rattle.std.proofs.Common.{◌≡◌, ℕ, zero, suc, ◌+◌, ◌*◌, ◌/◌, ◌%◌, ◌^◌, ◌<◌, ◌≤◌, max, [], ◌∷◌, length, ap, ◌∙◌}
use Rattle.std.proofs.Common.{length-append, arith}
use Rattle.std.proofs.lemmas.Fmt.{decimal_digit, decimal_step}
use Rattle.std.specs.Fmt.{decimal}

-- a number between two powers of ten, where zero counts as one
pub length-decimal : (k n : ℕ) → 10 ^ k ≤ max n 1 → n < 10 * 10 ^ k → n < 2 ^ 64 → length (decimal n) ≡ k + 1
length-decimal zero n low high fits = ap length (decimal_digit n (omega arith))
length-decimal (suc k) n low high fits =
    let many : 10 ≤ n = omega arith in
    let front : length (decimal (n / 10)) ≡ k + 1 = length-decimal k (n / 10) (omega arith) (omega arith) (omega arith) in
    let whole : length (decimal n) ≡ length (decimal (n / 10)) + 1 = ap length (decimal_step n many fits)
    ∙ length-append (decimal (n / 10)) ((48 + n % 10) ∷ []) in
    omega (arith, front, whole)
