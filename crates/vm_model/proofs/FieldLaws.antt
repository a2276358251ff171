-- Each field of a command, spelled canonically, is one word, of few bytes, and is read back.
use Rattle.std.proofs.Common.{◌≡◌, ℕ, zero, suc, ◌+◌, ◌*◌, ◌/◌, ◌%◌, ◌^◌, ◌<◌, ◌≤◌, ◌==◌, inl, inr, true, false, not, ◌&&◌, List, [], ◌∷◌, length, get_or, slice_index, Option, Some, refl, ap, ◌∙◌, arith}
use Rattle.std.specs.Prelude.{decimal, nat_lt, nat_le, nat_eq, All}
use Rattle.std.specs.Char.{digit_value}
use Rattle.std.specs.Str.Parse.{AllDigits, digits_value_after}
use Rattle.std.proofs.lemmas.Bool.{cases_eq, cases_lt, agree_below_at, lt-ltb, le-leb}
use Rattle.std.proofs.lemmas.Bool.Decides.{nat_tests}
use Rattle.std.proofs.lemmas.Fmt.{decimal_is_IsNumeral, decimal_digit, first_decimal, length-decimal-le}
use Rattle.std.proofs.lemmas.List.{get_or_past}
use Rattle.std.proofs.lemmas.Str.Parse.{digit_from_value}
use Rattle.hex.specs.Hex.{encode_lower, encode_with, lower_digits, IsBytes}
use Rattle.hex.proofs.HexLemmas.{decode_of-encode_lower, length-encode_with}
use Rattle.vm_base.specs.declared.names.VmoName.{VmoName}
use Rattle.vm_base.specs.declared.names.RegionName.{RegionName}
use Rattle.vm_base.specs.declared.names.PinName.{PinName}
use Rattle.vm_base.specs.declared.flags.Perm.{Perm}
use Rattle.vm_base.specs.declared.limits.TheConstants.{DATA_BYTES}
use Rattle.vm_model.specs.declared.command.ChildKind.{ChildKind}
use Rattle.vm_model.specs.declared.command.ChildKind.TheVariants.{Snapshot, Slice, Reference}
use Rattle.vm_model.specs.Language.Reading.{is_blank, digit, digits_from, digits, below, is_hex, number, has_leading_zero, name_behind, vmo, region, pin, byte_data, byte, perm, child_kind, is_word}
use Rattle.vm_model.specs.Language.Text.{data_text, perm_text}
use Rattle.vm_model.specs.Language.Spelling.{vmo_word, region_word, pin_word, kind_word}
use Rattle.vm_model.proofs.WordLaws.{is_solid, is_one_word}

-- ---- decimal digits

-- a digit, as the two definitions have it
digit-from_value : (c : ℕ) → digit_value c < 10 → digit c ≡ Some (digit_value c)
digit-from_value c h = let range = digit_from_value c h in grind (arith, nat_tests)

-- digits are read as std reads them
digits_from-decimal : (before : ℕ) (ds : List ℕ) → AllDigits 10 ds → digits_from 10 digit before ds ≡ Some (digits_value_after 10 before ds)
unfolding digits_from
digits_from-decimal before [] all = refl
digits_from-decimal before (c ∷ cs) all = rw (digit-from_value c all.0) (digits_from-decimal (before * 10 + digit_value c) cs all.1)

-- digits are no blanks
is_solid-digits : (ds : List ℕ) → AllDigits 10 ds → is_solid ds ≡ true
is_solid-digits [] all = refl
is_solid-digits (c ∷ cs) all =
    let range = digit_from_value c all.0 in
    let solid : not (is_blank c) ≡ true = grind (arith, nat_tests) in
    rw solid (is_solid-digits cs all.1)

-- digits of a number have no `x` in them
is_hex-digits : (ds : List ℕ) → AllDigits 10 ds → is_hex ds ≡ false
is_hex-digits [] all = refl
is_hex-digits (c ∷ []) all = refl
is_hex-digits (c ∷ d ∷ ds) all =
    let range = digit_from_value d all.1.0 in
    grind (arith, nat_tests)

is_one_word-solid : (ds : List ℕ) → 0 < length ds → is_solid ds ≡ true → is_one_word ds ≡ true
is_one_word-solid [] some s = absurd (omega arith)
is_one_word-solid (d ∷ ds) some s = s

digits-from : (base : ℕ) (value : ℕ → Option ℕ) (ds : List ℕ) → 0 < length ds → digits base value ds ≡ digits_from base value 0 ds
digits-from base value [] some = absurd (omega arith)
digits-from base value (d ∷ ds) some = refl

below-some : (bound n : ℕ) → n < bound → below bound (Some n) ≡ Some n
below-some bound n h = rw (lt-ltb n bound h) refl

-- a number in decimal digits
pub digits-decimal : (n : ℕ) → n < 2 ^ 64 → digits 10 digit (decimal n) ≡ Some n
digits-decimal n h =
    let numeral = decimal_is_IsNumeral n h in
    digits-from 10 digit (decimal n) numeral.0.0 ∙ digits_from-decimal 0 (decimal n) numeral.0.1 ∙ ap Some numeral.1

pub decimal_word : (n : ℕ) → n < 2 ^ 64 → is_one_word (decimal n) ≡ true
decimal_word n h =
    let numeral = decimal_is_IsNumeral n h in
    is_one_word-solid (decimal n) numeral.0.0 (is_solid-digits (decimal n) numeral.0.1)

pub length-decimal : (n : ℕ) → n < 2 ^ 64 → length (decimal n) ≤ 20
length-decimal n h = length-decimal-le 20 n (omega arith) (omega arith) h

pub number-decimal : (n : ℕ) → n < 2 ^ 64 → number (decimal n) ≡ Some n
unfolding number
number-decimal n h =
    let numeral = decimal_is_IsNumeral n h in
    rw (is_hex-digits (decimal n) numeral.0.1, digits-decimal n h) (below-some (2 ^ 64) n h)

pub byte-decimal : (n : ℕ) → n < 256 → byte (decimal n) ≡ Some n
byte-decimal n h = rw (number-decimal n (omega arith)) (below-some 256 n h)

-- ---- names

leading_zero-first : (ds : List ℕ) → 48 < get_or ds 0 0 → has_leading_zero ds ≡ false
leading_zero-first [] h = refl
leading_zero-first (c ∷ []) h = refl
leading_zero-first (c ∷ d ∷ ds) h = grind (arith, nat_tests)

has_leading_zero-decimal : (n : ℕ) → n < 2 ^ 64 → has_leading_zero (decimal n) ≡ false
has_leading_zero-decimal n h = elim (cases_eq n 0) [
  | inl e ↦ rw (decimal_digit n (omega arith)) refl
  | inr some ↦ leading_zero-first (decimal n) (first_decimal n (omega arith) h)
]

-- the number of a name, behind its letter
pub name_behind-decimal : (letter n : ℕ) → n < 2 ^ 32 → name_behind letter (letter ∷ decimal n) ≡ Some n
name_behind-decimal letter n h =
    let wide : n < 2 ^ 64 = omega arith in
    let same : (letter == letter) ≡ true = grind (arith, nat_tests) in
    rw (same, has_leading_zero-decimal n wide, digits-decimal n wide) (below-some (2 ^ 32) n h)

pub name_word : (letter n : ℕ) → is_blank letter ≡ false → n < 2 ^ 32 → is_one_word (letter ∷ decimal n) ≡ true
name_word letter n solid h =
    let numeral = decimal_is_IsNumeral n (omega arith) in
    rw solid (is_solid-digits (decimal n) numeral.0.1)

pub vmo-vmo_word : (name : VmoName) → name.0 < 2 ^ 32 → vmo (vmo_word name) ≡ Some name
unfolding vmo
vmo-vmo_word name h = rw (name_behind-decimal 118 name.0 h) refl

pub region-region_word : (name : RegionName) → name.0 < 2 ^ 32 → region (region_word name) ≡ Some name
unfolding region
region-region_word name h = rw (name_behind-decimal 114 name.0 h) refl

pub pin-pin_word : (name : PinName) → name.0 < 2 ^ 32 → pin (pin_word name) ≡ Some name
unfolding pin
pin-pin_word name h = rw (name_behind-decimal 112 name.0 h) refl

-- ---- byte data

-- a hex digit is no blank
is_blank-lower_digits : (d : ℕ) → d < 16 → not (is_blank (slice_index lower_digits d)) ≡ true
is_blank-lower_digits d h = agree_below_at (λ k. not (is_blank (slice_index lower_digits k))) (λ k. true) 16 d refl h

is_solid-encode_lower : (bytes : List ℕ) → IsBytes bytes → is_solid (encode_lower bytes) ≡ true
unfolding encode_with
is_solid-encode_lower [] all = refl
is_solid-encode_lower (b ∷ bs) all =
    let small : b < 256 = all 0 in
    let high = is_blank-lower_digits (b / 16) (omega arith) in
    let low = is_blank-lower_digits (b % 16) (omega arith) in
    rw (high, low) (is_solid-encode_lower bs (λ i. all (suc i)))

-- bytes, as the two definitions have them
pub IsBytes-from_All : (bytes : List ℕ) → All (λ b. b < 256) bytes → IsBytes bytes
IsBytes-from_All bytes all i = elim (cases_lt i (length bytes)) [
  | inl inside ↦ all i 0 inside
  | inr outside ↦ rw (get_or_past bytes i 0 outside) (omega arith)
]

-- two digits or more are not one dash
is_word-longer : (w : List ℕ) (c : ℕ) → 1 < length w → is_word w (c ∷ []) ≡ false
is_word-longer [] c h = absurd (omega arith)
is_word-longer (a ∷ []) c h = absurd (omega arith)
is_word-longer (a ∷ b ∷ bs) c h = elim (nat_eq a c) as (λ v. (v && false) ≡ false) [ true ↦ refl | false ↦ refl ]

pub byte_data-data_text : (bytes : List ℕ) → length bytes ≤ DATA_BYTES → IsBytes bytes → byte_data (data_text bytes) ≡ Some bytes
unfolding byte_data
byte_data-data_text [] few all = refl
byte_data-data_text (b ∷ bs) few all =
    let len = length-encode_with lower_digits (b ∷ bs) in
    let longer = is_word-longer (encode_lower (b ∷ bs)) 45 (omega arith) in
    let some : nat_lt 0 (length (encode_lower (b ∷ bs))) ≡ true = lt-ltb _ _ (omega arith) in
    let fit : nat_le (length (encode_lower (b ∷ bs))) (2 * DATA_BYTES) ≡ true = le-leb _ _ (omega arith) in
    rw (longer, some, fit, decode_of-encode_lower (b ∷ bs) all) refl

pub data_word : (bytes : List ℕ) → IsBytes bytes → is_one_word (data_text bytes) ≡ true
data_word [] all = refl
data_word (b ∷ bs) all =
    let len = length-encode_with lower_digits (b ∷ bs) in
    is_one_word-solid (encode_lower (b ∷ bs)) (omega arith) (is_solid-encode_lower (b ∷ bs) all)

pub length-data_text : (bytes : List ℕ) → length bytes ≤ DATA_BYTES → length (data_text bytes) ≤ 2 * DATA_BYTES
length-data_text [] few = omega arith
length-data_text (b ∷ bs) few = omega (arith, length-encode_with lower_digits (b ∷ bs))

-- ---- kinds and permissions

pub child_kind-kind_word : (kind : ChildKind) → child_kind (kind_word kind) ≡ Some kind
unfolding child_kind
child_kind-kind_word Snapshot = refl
child_kind-kind_word Slice = refl
child_kind-kind_word Reference = refl

pub kind_is_word : (kind : ChildKind) → is_one_word (kind_word kind) ≡ true
kind_is_word Snapshot = refl
kind_is_word Slice = refl
kind_is_word Reference = refl

pub length-kind_word : (kind : ChildKind) → length (kind_word kind) ≤ 9
length-kind_word Snapshot = omega arith
length-kind_word Slice = omega arith
length-kind_word Reference = omega arith

perm-perm_text_of : (n : ℕ) → n < 8 → perm (perm_text n) ≡ Some (record { 0 = n })
unfolding perm
perm-perm_text_of zero h = refl
perm-perm_text_of (suc zero) h = refl
perm-perm_text_of (suc (suc zero)) h = refl
perm-perm_text_of (suc (suc (suc zero))) h = refl
perm-perm_text_of (suc (suc (suc (suc zero)))) h = refl
perm-perm_text_of (suc (suc (suc (suc (suc zero))))) h = refl
perm-perm_text_of (suc (suc (suc (suc (suc (suc zero)))))) h = refl
perm-perm_text_of (suc (suc (suc (suc (suc (suc (suc zero))))))) h = refl
perm-perm_text_of (suc (suc (suc (suc (suc (suc (suc (suc n)))))))) h = absurd (omega arith)

pub perm-perm_text : (allowed : Perm) → allowed.0 < 8 → perm (perm_text allowed.0) ≡ Some allowed
perm-perm_text allowed h = perm-perm_text_of allowed.0 h

pub perm_word : (n : ℕ) → n < 8 → is_one_word (perm_text n) ≡ true
perm_word n h = agree_below_at (λ k. is_one_word (perm_text k)) (λ k. true) 8 n refl h

pub length-perm_text : (n : ℕ) → n < 8 → nat_le (length (perm_text n)) 4 ≡ true
length-perm_text n h = agree_below_at (λ k. nat_le (length (perm_text k)) 4) (λ k. true) 8 n refl h
