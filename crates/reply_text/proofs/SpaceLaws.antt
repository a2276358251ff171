-- Texts of numbers behind spaces: where the first number ends, and that they are read in one way.
use Rattle.std.proofs.Common.{◌≡◌, ◌≢◌, ℕ, suc, ◌+◌, ◌^◌, ◌<◌, ◌≤◌, Bool, true, false, not, cond, ◌||◌, ◌==◌, List, [], ◌∷◌, ◌++◌, length, take, drop, Option, None, Some, refl, sym, ap, ◌∙◌, one-add, append-nil, append_assoc, inl, inr, arith}
use Rattle.std.specs.Prelude.{nat_lt, position, unwrap_or}
use Rattle.std.specs.List.{AllByRecursion, list_all, position_or_len}
use Rattle.std.proofs.lemmas.Bool.{cases_lt, lt-ltb, le-ltb, and_parts, and_from, not-true, both_ways}
use Rattle.std.specs.Fmt.{decimal}
use Rattle.vm_model.specs.Language.Reading.{is_blank}
use Rattle.std.proofs.lemmas.Grind.{flat_map-append}
use Rattle.std.proofs.lemmas.List.{take-append-drop}
use Rattle.vm_model.proofs.WordLaws.{is_one_word}
use Rattle.vm_model.proofs.FieldLaws.{decimal_word}
use Rattle.reply_text.proofs.DigitLaws.{same_digits}
use Rattle.reply_text.specs.Spaces.{is_space, begins_space, spaced_number, all_spaced}

-- the bytes hold no space
abbrev pub is_solid : List ℕ → Bool
is_solid bs = list_all (λ b. not (is_space b)) bs

-- ---- cutting at the first space

cut_solid : (xs : List ℕ) → is_solid (take (position_or_len is_space xs) xs) ≡ true
cut_solid [] = refl
cut_solid (b ∷ bs) = go (is_space b) refl (cut_solid bs) where
  go : (s : Bool) → is_space b ≡ s → is_solid (take (position_or_len is_space bs) bs) ≡ true → is_solid (take (cond (not s) (1 + position_or_len is_space bs) 0) (b ∷ bs)) ≡ true
  go true e rest = refl
  go false e rest = ap (λ (n : ℕ). is_solid (take n (b ∷ bs))) (one-add (position_or_len is_space bs)) ∙ and_from (not (is_space b)) _ (ap not e) rest

cut_begins : (xs : List ℕ) → begins_space (drop (position_or_len is_space xs) xs) ≡ true
cut_begins [] = refl
cut_begins (b ∷ bs) = go (is_space b) refl (cut_begins bs) where
  go : (s : Bool) → is_space b ≡ s → begins_space (drop (position_or_len is_space bs) bs) ≡ true → begins_space (drop (cond (not s) (1 + position_or_len is_space bs) 0) (b ∷ bs)) ≡ true
  go true e rest = e
  go false e rest = ap (λ (n : ℕ). begins_space (drop n (b ∷ bs))) (one-add (position_or_len is_space bs)) ∙ rest

-- ---- one way

heads : (a b : ℕ) (xs ys : List ℕ) → a ∷ xs ≡ b ∷ ys → (a ≡ b) × (xs ≡ ys)
heads a b xs ys e = (cc, cc)

-- what has no space in front of a space, or of nothing, is so in one way
solid_same : (xs ys us vs : List ℕ) → is_solid xs ≡ true → is_solid ys ≡ true → begins_space us ≡ true → begins_space vs ≡ true → xs ++ us ≡ ys ++ vs → (xs ≡ ys) × (us ≡ vs)
solid_same [] [] us vs s t b c e = (refl, e)
solid_same [] (y ∷ ys) us vs s t b c e = absurd (meet us y (ys ++ vs) b (and_parts (not (is_space y)) (is_solid ys) t).0 e) where
  meet : (ws : List ℕ) (z : ℕ) (zs : List ℕ) → begins_space ws ≡ true → not (is_space z) ≡ true → ws ≡ z ∷ zs → ⊥
  meet ws z zs f g h = both_ways (is_space z) (not-true (is_space z) g) (sym (ap begins_space h) ∙ f)
solid_same (x ∷ xs) [] us vs s t b c e = absurd (meet vs x (xs ++ us) c (and_parts (not (is_space x)) (is_solid xs) s).0 (sym e)) where
  meet : (ws : List ℕ) (z : ℕ) (zs : List ℕ) → begins_space ws ≡ true → not (is_space z) ≡ true → ws ≡ z ∷ zs → ⊥
  meet ws z zs f g h = both_ways (is_space z) (not-true (is_space z) g) (sym (ap begins_space h) ∙ f)
solid_same (x ∷ xs) (y ∷ ys) us vs s t b c e =
    let parts = heads x y (xs ++ us) (ys ++ vs) e in
    let rest = solid_same xs ys us vs (and_parts (not (is_space x)) (is_solid xs) s).1 (and_parts (not (is_space y)) (is_solid ys) t).1 b c parts.1 in
    ((λ i. parts.0 i ∷ rest.0 i), rest.1)

-- digits have no space
decimal_solid : (n : ℕ) → n < 2 ^ 64 → is_solid (decimal n) ≡ true
decimal_solid n h = solid (decimal n) (decimal_word n h) where
  no_space : (b : ℕ) → not (is_blank b) ≡ true → not (is_space b) ≡ true
  no_space b e = go (is_space b) refl where
    go : (s : Bool) → is_space b ≡ s → not s ≡ true
    go false f = refl
    go true f = absurd (both_ways (is_blank b) (not-true (is_blank b) e) (ap (λ (s : Bool). (s || (b == 9)) || (b == 13)) f))

  each : (bs : List ℕ) → list_all (λ b. not (is_blank b)) bs ≡ true → is_solid bs ≡ true
  each [] e = refl
  each (b ∷ bs) e =
      let parts = and_parts (not (is_blank b)) (list_all (λ b. not (is_blank b)) bs) e in
      and_from (not (is_space b)) (is_solid bs) (no_space b parts.0) (each bs parts.1)

  solid : (bs : List ℕ) → is_one_word bs ≡ true → is_solid bs ≡ true
  solid [] e = refl
  solid (b ∷ bs) e = each (b ∷ bs) e

-- ---- one number at the front

module _ (text behind : List ℕ) (first : ℕ) (parts : text ≡ first ∷ behind) where
  abbrev len : ℕ
  len = position_or_len is_space behind

  -- its word spells no number
  pub no_number_word : ((n : ℕ) → n < 2 ^ 64 → take len behind ≢ decimal n) → (n : ℕ) (more : List ℕ) → n < 2 ^ 64 → begins_space more ≡ true → text ≢ spaced_number n ++ more
  no_number_word none n more h b e =
      none n h (solid_same (take len behind) (decimal n) (drop len behind) more (cut_solid behind) (decimal_solid n h) (cut_begins behind) b
      (take-append-drop len behind ∙ (heads first 32 behind (decimal n ++ more) (sym parts ∙ e)).1)).0

  -- it spells one
  pub is_number : (n : ℕ) → first ≡ 32 → take len behind ≡ decimal n → (text ≡ spaced_number n ++ drop len behind) × (begins_space (drop len behind) ≡ true)
  is_number n space word = (parts ∙ (λ i. space i ∷ (sym (take-append-drop len behind) ∙ ap (λ (xs : List ℕ). xs ++ drop len behind) word) i), cut_begins behind)

-- ---- all numbers

-- Of a text, these numbers were read, and this is left: whatever numbers it is of begins with these, and the rest is of the others.
pub record IsRead (text numbers rest : List ℕ) : Type 0 where
  pub front : text ≡ all_spaced numbers ++ rest
  pub only : (all : List ℕ) → AllByRecursion (λ n. n < 2 ^ 64) all → text ≡ all_spaced all → (left : List ℕ) × (all ≡ numbers ++ left) × AllByRecursion (λ n. n < 2 ^ 64) left × (rest ≡ all_spaced left)

-- numbers are followed by a space, or by nothing
spaced_begins : (numbers : List ℕ) → begins_space (all_spaced numbers) ≡ true
spaced_begins [] = refl
spaced_begins (n ∷ numbers) = refl

module _ (text numbers rest : List ℕ) (read : IsRead text numbers rest) where
  -- another number
  pub IsRead-more : (n : ℕ) (more : List ℕ) → rest ≡ spaced_number n ++ more → begins_space more ≡ true → n < 2 ^ 64 → IsRead text (numbers ++ n ∷ []) more
  IsRead-more n more e b h = record {
    front = read.front ∙ (ap (λ (xs : List ℕ). all_spaced numbers ++ xs) e ∙ (sym (append_assoc (all_spaced numbers) (spaced_number n) more)
        ∙ ap (λ (xs : List ℕ). xs ++ more) (sym (flat_map-append spaced_number numbers (n ∷ []) ∙ ap (λ (xs : List ℕ). all_spaced numbers ++ xs) (append-nil (spaced_number n))))));
    only = λ all fits is.
        let known = read.only all fits is in
        next all known.0 known.1 known.2 (sym e ∙ known.3);
  } where
    next : (all left : List ℕ) → all ≡ numbers ++ left → AllByRecursion (λ m. m < 2 ^ 64) left → spaced_number n ++ more ≡ all_spaced left
        → (later : List ℕ) × (all ≡ (numbers ++ n ∷ []) ++ later) × AllByRecursion (λ m. m < 2 ^ 64) later × (more ≡ all_spaced later)
    next all [] f fits g = absurd cc
    next all (m ∷ left) f fits g =
        let same = solid_same (decimal n) (decimal m) more (all_spaced left) (decimal_solid n h) (decimal_solid m fits.0) b (spaced_begins left) (heads 32 32 _ _ g).1 in
        let number : m ≡ n = same_digits 10 m n (inl refl) fits.0 h (sym same.0) in
        (left, f ∙ ((λ i. numbers ++ number i ∷ left) ∙ sym (append_assoc numbers (n ∷ []) left)), fits.1, same.1)

  -- what is left begins with no number
  pub IsRead-none : length rest ≢ 0 → ((n : ℕ) (more : List ℕ) → n < 2 ^ 64 → begins_space more ≡ true → rest ≢ spaced_number n ++ more)
      → (all : List ℕ) → AllByRecursion (λ n. n < 2 ^ 64) all → text ≢ all_spaced all
  IsRead-none some none all fits e = let known = read.only all fits e in go known.0 known.2 known.3 where
    go : (left : List ℕ) → AllByRecursion (λ n. n < 2 ^ 64) left → rest ≡ all_spaced left → ⊥
    go [] f g = some (ap length g)
    go (m ∷ left) f g = none m (all_spaced left) f.0 (spaced_begins left) g

-- ---- where the first space is

len_le : (xs : List ℕ) → position_or_len is_space xs ≤ length xs
len_le [] = omega arith
len_le (b ∷ bs) = go (is_space b) (len_le bs) where
  go : (s : Bool) → position_or_len is_space bs ≤ length bs → cond (not s) (1 + position_or_len is_space bs) 0 ≤ suc (length bs)
  go true rest = omega arith
  go false rest = omega (arith, rest)

-- the place of the first space, or the length
pub len_of_place : (xs : List ℕ) → unwrap_or (position is_space xs) (length xs) ≡ position_or_len is_space xs
len_of_place xs = go (position_or_len is_space xs) (length xs) (len_le xs) where
  go : (k n : ℕ) → k ≤ n → unwrap_or (cond {A = Option ℕ} (nat_lt k n) (Some k) None) n ≡ k
  go k n h = elim (cases_lt k n) [
    | inl less ↦ ap (λ (b : Bool). unwrap_or (cond {A = Option ℕ} b (Some k) None) n) (lt-ltb k n less)
    | inr past ↦ ap (λ (b : Bool). unwrap_or (cond {A = Option ℕ} b (Some k) None) n) (le-ltb k n past) ∙ omega (arith, h, past)
  ]
