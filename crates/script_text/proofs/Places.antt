-- Going from word to word along a line.
use Rattle.std.proofs.Common.{◌≡◌, ℕ, suc, ◌+◌, ◌-◌, ◌<◌, ◌≤◌, true, false, not, List, [], ◌∷◌, ◌++◌, length, take}
use Rattle.std.proofs.Common.{drop, get_or, refl, sym, ◌∙◌, ap, arith, drop-cons, length-drop, position}
use Rattle.std.proofs.Common.{length-append}
use Rattle.std.specs.Prelude.{Some, slice_get, slice_range}
use Rattle.std.specs.List.{position_or_len}
use Rattle.std.proofs.lemmas.Bool.Decides.{nat_tests}
use Rattle.std.proofs.lemmas.List.{drop-drop, append-nil, take-append-drop}
use Rattle.std.proofs.lemmas.List.Sums.{prefix_len-le-length}
use Rattle.std.proofs.lemmas.Option.{slice_get-get_or}
use Rattle.std.proofs.Math.Seq.{take-add, get_or-append_seam, take-append_seam}
use Rattle.vm_model.specs.Language.Reading.{words, is_blank, begins_blank, before_first}
use Rattle.script_text.specs.inside.Places.{IsWordFrom}
use Rattle.script_text.proofs.Cutting.{is_solid, words-blank, words-alone, words-longer, words-first, words-start}
use Rattle.script_text.proofs.Cutting.{len-solid, len-blank, start-blank, start-solid}

before_first-append : (a : ℕ) (vs us ws : List (List ℕ)) (w : List ℕ) → vs ≡ w ∷ ws
    → before_first a (vs ++ us) ≡ before_first a vs ++ us
before_first-append a vs us ws w e = rw e refl

-- a line may be cut before a blank
words-apart : (xs ys : List ℕ) → begins_blank ys ≡ true → words (xs ++ ys) ≡ words xs ++ words ys
unfolding words
words-apart [] ys h = refl
words-apart (a ∷ []) ys h =
    let goal : Type 0 = words (a ∷ ys) ≡ words (a ∷ []) ++ words ys in
    elim (is_blank a) as (λ v. is_blank a ≡ v → goal) [
      | true ↦ λ e. words-blank a ys e ∙ ap (λ v. v ++ words ys) (sym (words-blank a [] e))
      | false ↦ λ e. words-alone a ys e h ∙ ap (λ v. v ++ words ys) (sym (words-alone a [] e refl))
    ] refl
words-apart (a ∷ c ∷ cs) ys h =
    let goal : Type 0 = words (a ∷ c ∷ (cs ++ ys)) ≡ words (a ∷ c ∷ cs) ++ words ys in
    let rest : words (c ∷ (cs ++ ys)) ≡ words (c ∷ cs) ++ words ys = words-apart (c ∷ cs) ys h in
    elim (is_blank a) as (λ v. is_blank a ≡ v → goal) [
      | true ↦ λ e. words-blank a (c ∷ (cs ++ ys)) e ∙ rest ∙ ap (λ v. v ++ words ys) (sym (words-blank a (c ∷ cs) e))
      | false ↦ λ e. elim (is_blank c) as (λ v. is_blank c ≡ v → goal) [
        | true ↦ λ f. words-alone a (c ∷ (cs ++ ys)) e f ∙ ap (λ v. (a ∷ []) ∷ v) rest
            ∙ ap (λ v. v ++ words ys) (sym (words-alone a (c ∷ cs) e f))
        | false ↦ λ f. words-longer a (c ∷ (cs ++ ys)) e f ∙ ap (before_first a) rest
            ∙ before_first-append a (words (c ∷ cs)) (words ys) _ _ (words-first c cs f)
            ∙ ap (λ v. v ++ words ys) (sym (words-longer a (c ∷ cs) e f))
      ] refl
    ] refl

-- the blanks in front have no word
words-front_blanks : (xs : List ℕ) → words (take (position_or_len is_solid xs) xs) ≡ []
unfolding words
words-front_blanks [] = refl
words-front_blanks (b ∷ bs) =
    let goal : Type 0 = words (take (position_or_len is_solid (b ∷ bs)) (b ∷ bs)) ≡ [] in
    elim (is_blank b) as (λ v. is_blank b ≡ v → goal) [
      | true ↦ λ e. rw (start-blank b bs e)
          (words-blank b (take (position_or_len is_solid bs) bs) e ∙ words-front_blanks bs)
      | false ↦ λ e. rw (start-solid b bs e) refl
    ] refl

begins_blank-front : (xs : List ℕ) → begins_blank (take (position_or_len is_solid xs) xs) ≡ true
begins_blank-front [] = refl
begins_blank-front (b ∷ bs) =
    let goal : Type 0 = begins_blank (take (position_or_len is_solid (b ∷ bs)) (b ∷ bs)) ≡ true in
    elim (is_blank b) as (λ v. is_blank b ≡ v → goal) [
      | true ↦ λ e. rw (start-blank b bs e) e
      | false ↦ λ e. rw (start-solid b bs e) refl
    ] refl

-- what stands behind a word begins with a blank
begins_blank-behind : (xs : List ℕ) → begins_blank (drop (position_or_len is_blank xs) xs) ≡ true
begins_blank-behind [] = refl
begins_blank-behind (b ∷ bs) =
    let goal : Type 0 = begins_blank (drop (position_or_len is_blank (b ∷ bs)) (b ∷ bs)) ≡ true in
    elim (is_blank b) as (λ v. is_blank b ≡ v → goal) [
      | true ↦ λ e. rw (len-blank b bs e) e
      | false ↦ λ e. rw (len-solid b bs e) (begins_blank-behind bs)
    ] refl

-- the word behind a place, by where its first byte stands behind the place and how long it is
position-is : (xs : List ℕ) (i : ℕ) → position is_solid xs ≡ Some i → i ≡ position_or_len is_solid xs
position-is xs i e = grind (arith, nat_tests)

-- the word at a place of a line, by where its first byte stands behind the place and how long it is
pub IsWordFrom-by_positions : (line : List ℕ) (place i n : ℕ) (ys zs : List ℕ) → place ≤ length line
    → ys ≡ drop place line → position is_solid ys ≡ Some i → zs ≡ drop i ys
    → n ≡ position_or_len is_blank zs → IsWordFrom line place (place + i) (place + i + n)
IsWordFrom-by_positions line place i n ys zs h front found back len =
    let begun = words-start ys i found in
    let same : i ≡ position_or_len is_solid ys = position-is ys i found in
    let b = get_or ys i 0 in
    let bs = drop (suc i) ys in
    let head : zs ≡ b ∷ bs = back ∙ drop-cons ys i 0 begun.1 in
    let at_start : drop (place + i) line ≡ zs = sym (drop-drop i place line) ∙ ap (drop i) (sym front) ∙ sym back in
    let at_end : drop (place + i + n) line ≡ drop n zs = sym (drop-drop n (place + i) line) ∙ ap (drop n) at_start in
    let first : words zs ≡ take n zs ∷ words (drop n zs) = rw (len, head) (words-first b bs begun.2) in
    let solid : n ≡ suc (position_or_len is_blank bs) = len ∙ ap (position_or_len is_blank) head
    ∙ len-solid b bs begun.2 in
    let blank : begins_blank (take i (drop place line)) ≡ true = rw (← front, same) (begins_blank-front ys) in
    let none : words (take i (drop place line)) ≡ [] = rw (← front, same) (words-front_blanks ys) in
    let behind : begins_blank (drop (place + i + n) line) ≡ true = rw (at_end, len) (begins_blank-behind zs) in
    let width : place + i + n - (place + i) ≡ n = omega arith in
    let most : position_or_len is_blank zs ≤ length zs = prefix_len-le-length (λ x. not (is_blank x)) zs in
    let left : length ys ≡ length line - place = ap length front ∙ length-drop place line in
    let rest : length zs ≡ length ys - i = ap length back ∙ length-drop i ys in
    record {
      behind = omega arith;
      some = omega (arith, solid);
      within = omega (arith, most, len, left, rest, begun.1, h);
      first = rw (width, at_start, at_end) (ap words (sym front) ∙ begun.0 ∙ ap words (sym back) ∙ first);
      front = ap words (take-add place i line) ∙ words-apart (take place line) (take i (drop place line)) blank
          ∙ ap (λ v. words (take place line) ++ v) none ∙ append-nil (words (take place line));
      apart = ap words (sym (take-append-drop (place + i + n) line))
          ∙ words-apart (take (place + i + n) line) (drop (place + i + n) line) behind;
    }

-- how far the words are counted
pub record IsPassed (line : List ℕ) (index left passed : ℕ) : Type 0 where
  pub within : passed ≤ length line
  pub joined : words line ≡ words (take passed line) ++ words (drop passed line)
  pub counted : length (words (take passed line)) + left ≡ index

pub IsPassed-start : (line : List ℕ) (index : ℕ) → IsPassed line index index 0
unfolding words
IsPassed-start line index = record { within = omega arith; joined = refl; counted = omega arith }

pub IsPassed-next : (line : List ℕ) (index left passed start end : ℕ) → IsPassed line index left passed
    → IsWordFrom line passed start end → 0 < left → IsPassed line index (left - 1) end
IsPassed-next line index left passed start end p w some =
    let whole : length (words line) ≡ length (words (take passed line)) + length (words (drop passed line)) =
    ap length p.joined ∙ length-append _ _ in
    let cut : length (words line) ≡ length (words (take end line)) + length (words (drop end line)) = ap length w.apart
    ∙ length-append _ _ in
    let first : length (words (drop passed line)) ≡ length (slice_range line start end ∷ words (drop end line)) =
    ap length w.first in
    record { within = w.within; joined = w.apart; counted = omega arith }

-- the word that was looked for
pub record IsFound (line : List ℕ) (index start end : ℕ) : Type 0 where
  pub more : index < length (words line)
  pub word : slice_get (words line) index ≡ Some (slice_range line start end)
  pub front : words (take start line) ≡ take index (words line)

pub IsPassed-found : (line : List ℕ) (index left passed start end : ℕ) → IsPassed line index left passed
    → IsWordFrom line passed start end → left ≡ 0 → IsFound line index start end
IsPassed-found line index left passed start end p w none =
    let front = words (take passed line) in
    let word = slice_range line start end in
    let behind = words (drop end line) in
    let all : words line ≡ front ++ word ∷ behind = p.joined ∙ ap (λ v. front ++ v) w.first in
    let count : index ≡ length front = omega (arith, p.counted) in
    let size : length (words line) ≡ length front + length (word ∷ behind) = ap length all
    ∙ length-append front (word ∷ behind) in
    let at : get_or (words line) index word ≡ word = rw (count, all) (get_or-append_seam front word behind word) in
    record {
      more = omega arith;
      word = slice_get-get_or (words line) index word (omega arith) ∙ ap (λ v. Some v) at;
      front = w.front ∙ sym (rw (count, all) (take-append_seam front (word ∷ behind)));
    }
