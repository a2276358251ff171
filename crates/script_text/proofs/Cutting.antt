-- Cutting the first word off a line.
use Rattle.std.proofs.Common.{◌≡◌, ◌≢◌, ◌-◌, ℕ, suc, ◌<◌, ◌≤◌, Bool, true, false, not, List, [], ◌∷◌, length, take, drop}
use Rattle.std.proofs.Common.{get_or, refl, sym, ◌∙◌, ap, arith, length-drop, position, unwrap_or}
use Rattle.std.proofs.Common.{one-add}
use Rattle.std.specs.Prelude.{Option, Some, None, IfSome, slice_get, ◌==◌, if◌then◌else◌}
use Rattle.std.specs.List.{position_or_len}
use Rattle.std.proofs.lemmas.Bool.Decides.{nat_tests}
use Rattle.std.proofs.lemmas.List.Quantifiers.{position-Some}
use Rattle.std.proofs.lemmas.List.{drop_all, take_all}
use Rattle.std.proofs.lemmas.Bool.{eqb-true, false_from_ne_true}
use Rattle.std.proofs.lemmas.List.Sums.{position_or_len_is}
use Rattle.memchr.specs.Find.{IsFirstByte, is_byte3}
use Rattle.vm_model.specs.Language.Reading.{words, is_blank, begins_blank, before_first, reading_of_words}
use Rattle.vm_model.specs.Language.Reading.{order_or_outside, Blank}
use Rattle.script_text.specs.Lines.{is_silent, order_in}

-- a byte of a word
abbrev pub is_solid : ℕ → Bool
is_solid b = not (is_blank b)

solid_blank : (b : ℕ) → is_solid b ≡ true → is_blank b ≡ false
solid_blank b e = elim (is_blank b) as (λ v. not v ≡ true → v ≡ false) [ true ↦ λ h. cc | false ↦ λ h. refl ] e

pub words-blank : (b : ℕ) (bs : List ℕ) → is_blank b ≡ true → words (b ∷ bs) ≡ words bs
unfolding words
words-blank b bs e = rw e

-- a line with no byte has no word
pub words-empty : (xs ys : List ℕ) → words ys ≡ words xs → (length ys == 0) ≡ true → words xs ≡ []
unfolding words
words-empty xs [] same none = sym same
words-empty xs (b ∷ bs) same none = absurd (omega (arith, eqb-true (length (b ∷ bs)) 0 none))

-- behind a blank, as a slice
pub words-behind : (xs : List ℕ) → 1 ≤ length xs → is_blank (get_or xs 0 0) ≡ true
    → words (take (length xs - 1) (drop 1 xs)) ≡ words xs
words-behind [] some e = absurd (omega arith)
words-behind (b ∷ bs) some e = ap words (take_all (length (b ∷ bs) - 1) bs (omega arith)) ∙ sym (words-blank b bs e)

pub words-alone : (b : ℕ) (bs : List ℕ) → is_blank b ≡ false → begins_blank bs ≡ true
    → words (b ∷ bs) ≡ (b ∷ []) ∷ words bs
unfolding words
words-alone b bs e f = rw (e, f)

pub words-longer : (b : ℕ) (bs : List ℕ) → is_blank b ≡ false → begins_blank bs ≡ false
    → words (b ∷ bs) ≡ before_first b (words bs)
unfolding words
words-longer b bs e f = rw (e, f)

pub len-solid : (b : ℕ) (bs : List ℕ) → is_blank b ≡ false
    → position_or_len is_blank (b ∷ bs) ≡ suc (position_or_len is_blank bs)
len-solid b bs e = rw e (one-add _)

pub len-blank : (b : ℕ) (bs : List ℕ) → is_blank b ≡ true → position_or_len is_blank (b ∷ bs) ≡ 0
len-blank b bs e = rw e

pub start-blank : (b : ℕ) (bs : List ℕ) → is_blank b ≡ true
    → position_or_len is_solid (b ∷ bs) ≡ suc (position_or_len is_solid bs)
start-blank b bs e = rw e (one-add _)

pub start-solid : (b : ℕ) (bs : List ℕ) → is_blank b ≡ false → position_or_len is_solid (b ∷ bs) ≡ 0
start-solid b bs e = rw e

-- blanks in front change nothing
words-drop_blanks : (xs : List ℕ) → words (drop (position_or_len is_solid xs) xs) ≡ words xs
words-drop_blanks [] = refl
words-drop_blanks (b ∷ bs) =
    let goal : Type 0 = words (drop (position_or_len is_solid (b ∷ bs)) (b ∷ bs)) ≡ words (b ∷ bs) in
    elim (is_blank b) as (λ v. is_blank b ≡ v → goal) [
      | true ↦ λ e. rw (start-blank b bs e) (words-drop_blanks bs ∙ sym (words-blank b bs e))
      | false ↦ λ e. rw (start-solid b bs e) refl
    ] refl

-- the first word of a line that begins with no blank
pub words-first : (b : ℕ) (bs : List ℕ) → is_blank b ≡ false → words (b ∷ bs)
    ≡ take (position_or_len is_blank (b ∷ bs)) (b ∷ bs) ∷ words (drop (position_or_len is_blank (b ∷ bs)) (b ∷ bs))
words-first b [] e = rw (len-solid b [] e) (words-alone b [] e refl)
words-first b (c ∷ cs) e =
    let n = position_or_len is_blank (b ∷ c ∷ cs) in
    let goal : Type 0 = words (b ∷ c ∷ cs) ≡ take n (b ∷ c ∷ cs) ∷ words (drop n (b ∷ c ∷ cs)) in
    elim (is_blank c) as (λ v. is_blank c ≡ v → goal) [
      | true ↦ λ f. rw (len-solid b (c ∷ cs) e, len-blank c cs f) (words-alone b (c ∷ cs) e f)
      | false ↦ λ f. rw (len-solid b (c ∷ cs) e)
          (words-longer b (c ∷ cs) e f ∙ ap (before_first b) (words-first c cs f))
    ] refl

-- a line with no byte of a word
pub words-none : (xs : List ℕ) → position is_solid xs ≡ None → words xs ≡ []
unfolding words
words-none xs e =
    let all : length xs ≤ position_or_len is_solid xs = grind (arith, nat_tests) in
    let gone = drop_all (position_or_len is_solid xs) xs all in
    sym (words-drop_blanks xs) ∙ rw gone refl

-- the byte at which the first word begins
pub words-start : (xs : List ℕ) (i : ℕ) → position is_solid xs ≡ Some i
    → (words xs ≡ words (drop i xs)) × (i < length xs) × (is_blank (get_or xs i 0) ≡ false)
words-start xs i e =
    let at = position-Some is_solid xs i 0 e in
    let same : i ≡ position_or_len is_solid xs = grind (arith, nat_tests) in
    (rw same (sym (words-drop_blanks xs)), at.0, solid_blank (get_or xs i 0) at.1)

-- what a line says, by the line from its first word on
pub reading-begun : (xs ys : List ℕ) → words ys ≡ words xs → IfSome (slice_get ys 0) (λ b. is_blank b ≡ false)
    → reading_of_words (words xs) ≡ (if is_silent ys then Blank else order_or_outside (order_in (words ys)))
unfolding words
reading-begun xs [] same begun = rw (← same) refl
reading-begun xs (b ∷ bs) same begun = rw (← same, words-first b bs begun, len-solid b bs begun) refl

-- the answer of a search for a blank, as a length
pub len_by_search : (xs : List ℕ) (r : Option ℕ) → IsFirstByte (is_byte3 32 9 13) xs r
    → unwrap_or r (length xs) ≡ position_or_len is_blank xs
len_by_search xs None nowhere =
    sym (position_or_len_is is_blank xs (length xs) 0 (omega arith)
    (λ k l. false_from_ne_true _ (nowhere k (omega arith) l)) (λ l. absurd (omega arith)))
len_by_search xs (Some n) found =
    sym (position_or_len_is is_blank xs n 0 (omega arith)
    (λ k l. false_from_ne_true _ (found.0.before k (omega arith) l)) (λ _. found.1))

-- a line is cut into its first word and the rest
pub record IsCut (xs word behind : List ℕ) : Type 0 where
  pub words : words xs ≡ word ∷ words behind
  pub shorter : length behind < length xs

pub IsCut-begun : (xs ys : List ℕ) (n : ℕ) → words ys ≡ words xs → length ys ≤ length xs → length ys ≢ 0
    → IfSome (slice_get ys 0) (λ b. is_blank b ≡ false) → n ≡ position_or_len is_blank ys
    → IsCut xs (take n ys) (drop n ys)
IsCut-begun xs [] n same few some begun len = absurd (some refl)
IsCut-begun xs (b ∷ bs) n same few some begun len = record {
  words = sym same ∙ rw len (words-first b bs begun);
  shorter = rw length-drop (omega (arith, len, len-solid b bs begun));
}
