-- The table of digit values, and the byte of two digits by it.
use Rattle.std.proofs.Common.{◌≡◌, ℕ, zero, suc, ◌+◌, ◌*◌, ◌/◌, ◌%◌, ◌<◌, ◌≤◌, List, [], ◌∷◌, length, get_or, false, Option, Some, None, Ok, is_ok, unwrap_or, IfSome, refl, ap, ◌∙◌, Result, Err, take, drop, slice_index, codes, arith}
use Rattle.std.proofs.lemmas.Bool.Decides.{nat_tests}
use Rattle.hex.proofs.Pairs.{prepend, decode_err}
use Rattle.hex.specs.declared.error.FromHexError.{FromHexError}
use Rattle.hex.specs.Hex.{decode_pairs, lower_digits, hex_digit_value, digit_or_error, pair_value, ◌>>=◌}

-- what the table holds for a byte
abbrev pub digit_value : ℕ → ℕ
digit_value c = unwrap_or (hex_digit_value c) 256

-- the values of n bytes from c on
values_from : ℕ → ℕ → List ℕ
values_from c zero = []
values_from c (suc n) = digit_value c ∷ values_from (c + 1) n

values_from-at : (n c i : ℕ) → i < n → get_or (values_from c n) i 0 ≡ digit_value (c + i)
unfolding values_from
values_from-at zero c i within = absurd (omega arith)
values_from-at (suc n) c zero within =
    let same : c ≡ c + 0 = omega arith in
    ap digit_value same
values_from-at (suc n) c (suc i) within =
    let next : c + 1 + i ≡ c + suc i = omega arith in
    values_from-at n (c + 1) i (omega arith) ∙ ap digit_value next

abbrev pub table : List ℕ
table = 256 ∷ 256 ∷ 256 ∷ 256 ∷ 256 ∷ 256 ∷ 256 ∷ 256 ∷ 256 ∷ 256 ∷ 256 ∷ 256 ∷ 256 ∷ 256 ∷ 256 ∷ 256 ∷ 256 ∷ 256 ∷ 256 ∷ 256 ∷ 256 ∷ 256 ∷ 256 ∷ 256 ∷ 256 ∷ 256 ∷ 256 ∷ 256 ∷ 256 ∷ 256 ∷ 256 ∷ 256 ∷ 256 ∷ 256 ∷ 256 ∷ 256 ∷ 256 ∷ 256 ∷ 256 ∷ 256 ∷ 256 ∷ 256 ∷ 256 ∷ 256 ∷ 256 ∷ 256 ∷ 256 ∷ 256 ∷ 0 ∷ 1 ∷ 2 ∷ 3 ∷ 4 ∷ 5 ∷ 6 ∷ 7 ∷ 8 ∷ 9 ∷ 256 ∷ 256 ∷ 256 ∷ 256 ∷ 256 ∷ 256 ∷ 256 ∷ 10 ∷ 11 ∷ 12 ∷ 13 ∷ 14 ∷ 15 ∷ 256 ∷ 256 ∷ 256 ∷ 256 ∷ 256 ∷ 256 ∷ 256 ∷ 256 ∷ 256 ∷ 256 ∷ 256 ∷ 256 ∷ 256 ∷ 256 ∷ 256 ∷ 256 ∷ 256 ∷ 256 ∷ 256 ∷ 256 ∷ 256 ∷ 256 ∷ 256 ∷ 256 ∷ 256 ∷ 256 ∷ 10 ∷ 11 ∷ 12 ∷ 13 ∷ 14 ∷ 15 ∷ 256 ∷ 256 ∷ 256 ∷ 256 ∷ 256 ∷ 256 ∷ 256 ∷ 256 ∷ 256 ∷ 256 ∷ 256 ∷ 256 ∷ 256 ∷ 256 ∷ 256 ∷ 256 ∷ 256 ∷ 256 ∷ 256 ∷ 256 ∷ 256 ∷ 256 ∷ 256 ∷ 256 ∷ 256 ∷ 256 ∷ 256 ∷ 256 ∷ 256 ∷ 256 ∷ 256 ∷ 256 ∷ 256 ∷ 256 ∷ 256 ∷ 256 ∷ 256 ∷ 256 ∷ 256 ∷ 256 ∷ 256 ∷ 256 ∷ 256 ∷ 256 ∷ 256 ∷ 256 ∷ 256 ∷ 256 ∷ 256 ∷ 256 ∷ 256 ∷ 256 ∷ 256 ∷ 256 ∷ 256 ∷ 256 ∷ 256 ∷ 256 ∷ 256 ∷ 256 ∷ 256 ∷ 256 ∷ 256 ∷ 256 ∷ 256 ∷ 256 ∷ 256 ∷ 256 ∷ 256 ∷ 256 ∷ 256 ∷ 256 ∷ 256 ∷ 256 ∷ 256 ∷ 256 ∷ 256 ∷ 256 ∷ 256 ∷ 256 ∷ 256 ∷ 256 ∷ 256 ∷ 256 ∷ 256 ∷ 256 ∷ 256 ∷ 256 ∷ 256 ∷ 256 ∷ 256 ∷ 256 ∷ 256 ∷ 256 ∷ 256 ∷ 256 ∷ 256 ∷ 256 ∷ 256 ∷ 256 ∷ 256 ∷ 256 ∷ 256 ∷ 256 ∷ 256 ∷ 256 ∷ 256 ∷ 256 ∷ 256 ∷ 256 ∷ 256 ∷ 256 ∷ 256 ∷ 256 ∷ 256 ∷ 256 ∷ 256 ∷ 256 ∷ 256 ∷ 256 ∷ 256 ∷ 256 ∷ 256 ∷ 256 ∷ 256 ∷ 256 ∷ 256 ∷ 256 ∷ 256 ∷ 256 ∷ 256 ∷ 256 ∷ 256 ∷ 256 ∷ 256 ∷ 256 ∷ 256 ∷ 256 ∷ 256 ∷ 256 ∷ 256 ∷ 256 ∷ 256 ∷ 256 ∷ 256 ∷ 256 ∷ 256 ∷ 256 ∷ 256 ∷ 256 ∷ 256 ∷ 256 ∷ 256 ∷ []

table-values : table ≡ values_from 0 256
unfolding values_from
table-values = refl

-- the table at a byte
pub table-at : (c : ℕ) → c < 256 → get_or table c 0 ≡ digit_value c
table-at c within =
    let same : 0 + c ≡ c = omega arith in
    ap (λ (l : List ℕ). get_or l c 0) table-values ∙ values_from-at 256 0 c within ∙ ap digit_value same

-- a digit is worth less than sixteen
hex_digit_value-small : (c : ℕ) → IfSome (hex_digit_value c) (λ v. v < 16)
hex_digit_value-small c = grind (arith, nat_tests)

bound-of : (o : Option ℕ) → IfSome o (λ v. v < 16) → unwrap_or o 256 ≤ 256
bound-of (Some v) small = omega (arith, small)
bound-of None small = omega arith

pub digit_value-bound : (c : ℕ) → digit_value c ≤ 256
digit_value-bound c = bound-of (hex_digit_value c) (hex_digit_value-small c)

-- two digits, read one after the other
read-of : (high low i : ℕ) (a b : Option ℕ) → 16 * unwrap_or a 256 + unwrap_or b 256 < 256
    → (digit_or_error high i a >>= (λ h. digit_or_error low (i + 1) b >>= (λ l. Ok (h * 16 + l)))) ≡ Ok (16 * unwrap_or a 256 + unwrap_or b 256)
read-of high low i (Some a) (Some b) small = ap Ok (omega arith)
read-of high low i (Some a) None small = absurd (omega (arith, small))
read-of high low i None b small = absurd (omega (arith, small))

pub pair_value-read : (high low i : ℕ) → 16 * digit_value high + digit_value low < 256
    → pair_value high low i ≡ Ok (16 * digit_value high + digit_value low)
pair_value-read high low i small = read-of high low i (hex_digit_value high) (hex_digit_value low) small

refused-of : (high low i : ℕ) (a b : Option ℕ) → IfSome a (λ v. v < 16) → IfSome b (λ v. v < 16)
    → 256 ≤ 16 * unwrap_or a 256 + unwrap_or b 256
    → is_ok (digit_or_error high i a >>= (λ h. digit_or_error low (i + 1) b >>= (λ l. Ok (h * 16 + l)))) ≡ false
refused-of high low i (Some a) (Some b) first second large = absurd (omega (arith, first, second, large))
refused-of high low i (Some a) None first second large = refl
refused-of high low i None b first second large = refl

pub pair_value-refused : (high low i : ℕ) → 256 ≤ 16 * digit_value high + digit_value low
    → is_ok (pair_value high low i) ≡ false
pair_value-refused high low i large =
    refused-of high low i (hex_digit_value high) (hex_digit_value low) (hex_digit_value-small high) (hex_digit_value-small low) large

refused-by : (s out : List ℕ) (i : ℕ) (r : Result ℕ FromHexError) → 2 * i + 1 < length s
    → pair_value (slice_index s (2 * i)) (slice_index s (2 * i + 1)) (2 * i) ≡ r → is_ok r ≡ false
    → decode_pairs 0 s ≡ prepend (take i out) (decode_pairs (2 * i) (drop (2 * i) s))
    → is_ok (decode_pairs 0 s) ≡ false
refused-by s out i (Ok v) within is bad inv = absurd cc
refused-by s out i (Err e) within is bad inv = ap is_ok (decode_err s out i e within is inv)

-- a text with a pair that does not read is refused
pub decode-refused : (s out : List ℕ) (i : ℕ) → 2 * i + 1 < length s
    → is_ok (pair_value (slice_index s (2 * i)) (slice_index s (2 * i + 1)) (2 * i)) ≡ false
    → decode_pairs 0 s ≡ prepend (take i out) (decode_pairs (2 * i) (drop (2 * i) s))
    → is_ok (decode_pairs 0 s) ≡ false
decode-refused s out i within bad inv = refused-by s out i _ within refl bad inv

-- ---- the digits of a byte

-- the digits of n bytes from c on
pairs_from : ℕ → ℕ → List ℕ
pairs_from c zero = []
pairs_from c (suc n) = slice_index lower_digits (c / 16) ∷ slice_index lower_digits (c % 16) ∷ pairs_from (c + 1) n

pairs_from-at : (n c i : ℕ) → i < n
    → (get_or (pairs_from c n) (2 * i) 0 ≡ slice_index lower_digits ((c + i) / 16))
    × (get_or (pairs_from c n) (2 * i + 1) 0 ≡ slice_index lower_digits ((c + i) % 16))
unfolding pairs_from
pairs_from-at zero c i within = absurd (omega (arith, within))
pairs_from-at (suc n) c zero within =
    let same : c ≡ c + 0 = omega arith in
    (ap (λ (k : ℕ). slice_index lower_digits (k / 16)) same, ap (λ (k : ℕ). slice_index lower_digits (k % 16)) same)
pairs_from-at (suc n) c (suc i) within =
    let next : c + 1 + i ≡ c + suc i = omega arith in
    let rest = pairs_from-at n (c + 1) i (omega (arith, within)) in
    let even : 2 * suc i ≡ suc (suc (2 * i)) = omega arith in
    let odd : 2 * suc i + 1 ≡ suc (suc (2 * i + 1)) = omega arith in (
      ap (λ (k : ℕ). get_or (pairs_from c (suc n)) k 0) even ∙ rest.0 ∙ ap (λ (k : ℕ). slice_index lower_digits (k / 16)) next,
      ap (λ (k : ℕ). get_or (pairs_from c (suc n)) k 0) odd ∙ rest.1 ∙ ap (λ (k : ℕ). slice_index lower_digits (k % 16)) next,
    )

abbrev pub pairs : List ℕ
pairs = codes "000102030405060708090a0b0c0d0e0f101112131415161718191a1b1c1d1e1f202122232425262728292a2b2c2d2e2f303132333435363738393a3b3c3d3e3f404142434445464748494a4b4c4d4e4f505152535455565758595a5b5c5d5e5f606162636465666768696a6b6c6d6e6f707172737475767778797a7b7c7d7e7f808182838485868788898a8b8c8d8e8f909192939495969798999a9b9c9d9e9fa0a1a2a3a4a5a6a7a8a9aaabacadaeafb0b1b2b3b4b5b6b7b8b9babbbcbdbebfc0c1c2c3c4c5c6c7c8c9cacbcccdcecfd0d1d2d3d4d5d6d7d8d9dadbdcdddedfe0e1e2e3e4e5e6e7e8e9eaebecedeeeff0f1f2f3f4f5f6f7f8f9fafbfcfdfeff"

pairs-digits : pairs ≡ pairs_from 0 256
unfolding pairs_from
pairs-digits = refl

-- the digits that stand for a byte
pub pairs-at : (b : ℕ) → b < 256
    → (get_or pairs (2 * b) 0 ≡ slice_index lower_digits (b / 16)) × (get_or pairs (2 * b + 1) 0 ≡ slice_index lower_digits (b % 16))
pairs-at b within =
    let same : 0 + b ≡ b = omega arith in
    let at = pairs_from-at 256 0 b within in (
      ap (λ (l : List ℕ). get_or l (2 * b) 0) pairs-digits ∙ at.0 ∙ ap (λ (k : ℕ). slice_index lower_digits (k / 16)) same,
      ap (λ (l : List ℕ). get_or l (2 * b + 1) 0) pairs-digits ∙ at.1 ∙ ap (λ (k : ℕ). slice_index lower_digits (k % 16)) same,
    )
