-- Laws of the numbers that were seen, as two lists that say the same.
use Rattle.std.proofs.Common.{◌≡◌, ◌≢◌, ℕ, zero, suc, ◌<◌, Bool, true, false, cond, not, ◌&&◌, ◌==◌, List, [], ◌∷◌, length, get_or, set, replicate, ◌^◌, Fits, w64, Option, None, Some, is_none, is_some, refl, sym, ap, subst, ◌∙◌, inl, inr, arith}
use Rattle.std.specs.Prelude.{nat_lt}
use Rattle.std.specs.List.{AllByRecursion}
use Rattle.std.proofs.lemmas.Bool.{cases_eq, cond-true, cond-false, and_parts, false_from_ne_true, lt-ltb, ltb-true}
use Rattle.std.proofs.lemmas.List.{get_or-set_same, length-set}
use Rattle.vm_base.specs.Entries.{with_key, without_key, passes}
use Rattle.vm_base.proofs.EntryLaws.{some_same, passes_found, passes-some}
use Rattle.vm_base.proofs.SearchLaws.{any_below_found, any_below_at, eqb_is, eqb_same, eqb_apart}
use Rattle.moving_model.specs.Standing.{is_number_taken, may_have, may_tell, with_seen}
use Rattle.transcript.specs.Seen.{number_seen, AreInverse}

-- ---- one list

other_place : (xs : List (Option ℕ)) (i j : ℕ) (o : Option ℕ) → j ≢ i → number_seen (set xs i o) j ≡ number_seen xs j
other_place [] i j o h = refl
other_place (x ∷ xs) zero zero o h = absurd (h refl)
other_place (x ∷ xs) zero (suc j) o h = refl
other_place (x ∷ xs) (suc i) zero o h = refl
other_place (x ∷ xs) (suc i) (suc j) o h = other_place xs i j o (λ e. h (ap suc e))

-- a list with another value at a place
pub number_seen-set : (xs : List (Option ℕ)) (i j : ℕ) (o : Option ℕ) → i < length xs → number_seen (set xs i o) j ≡ cond (j == i) o (number_seen xs j)
number_seen-set xs i j o h = elim (cases_eq j i) [
  | inl same ↦
      ap (number_seen (set xs i o)) same ∙ (get_or-set_same xs i o None h ∙ sym (cond-true _ _ _ (ap (λ (n : ℕ). n == i) same ∙ eqb_same i)))
  | inr apart ↦ other_place xs i j o apart ∙ sym (cond-false _ _ _ (eqb_apart j i apart))
]

pub number_seen-seen : (xs : List (Option ℕ)) (i k : ℕ) → i < length xs → number_seen (set xs i (Some k)) ≡ with_key (number_seen xs) i k
unfolding with_key
number_seen-seen xs i k h = λ t j. number_seen-set xs i j (Some k) h t

pub number_seen-gone : (xs : List (Option ℕ)) (i : ℕ) → i < length xs → number_seen (set xs i None) ≡ without_key (number_seen xs) i
unfolding without_key
number_seen-gone xs i h = λ t j. number_seen-set xs i j None h t

-- nothing to forget
pub number_seen-none : (xs : List (Option ℕ)) (i : ℕ) → number_seen xs i ≡ None → number_seen xs ≡ without_key (number_seen xs) i
unfolding without_key
number_seen-none xs i e = λ t j. each j t where
  each : (j : ℕ) → number_seen xs j ≡ cond (j == i) None (number_seen xs j)
  each j = elim (cases_eq j i) [
    | inl same ↦ ap (number_seen xs) same ∙ (e ∙ sym (cond-true _ _ _ (ap (λ (n : ℕ). n == i) same ∙ eqb_same i)))
    | inr apart ↦ sym (cond-false _ _ _ (eqb_apart j i apart))
  ]

pub inside : (xs : List (Option ℕ)) (i k : ℕ) → number_seen xs i ≡ Some k → i < length xs
inside [] i k e = absurd cc
inside (x ∷ xs) zero k e = omega arith
inside (x ∷ xs) (suc i) k e = omega (arith, inside xs i k e)

-- ---- whether a number is taken

pub taken_is : (told frames : List (Option ℕ)) (k : ℕ) → AreInverse told frames → is_none (number_seen frames k) ≡ not (is_number_taken (length told) (number_seen told) k)
taken_is told frames k inverse = go (number_seen frames k) refl where
  test : ℕ → Bool
  test t = passes (λ (seen : ℕ). seen == k) (number_seen told t)

  go : (o : Option ℕ) → number_seen frames k ≡ o → is_none (number_seen frames k) ≡ not (is_number_taken (length told) (number_seen told) k)
  go None e =
      let free : is_number_taken (length told) (number_seen told) k ≡ false = false_from_ne_true _ (λ taken.
      let found = any_below_found (length told) _ taken in
      let seen = passes_found (λ (n : ℕ). n == k) (number_seen told found.0) found.2 in
      let there = inverse.there found.0 k (seen.1 ∙ ap (λ (n : ℕ). Some n) (eqb_is seen.0 k seen.2)) in
      absurd (let both = sym e ∙ there in cc)) in
      ap is_none e ∙ sym (ap not free)
  go (Some t) e =
      let seen = inverse.back t k e in
      let taken : is_number_taken (length told) (number_seen told) k ≡ true = any_below_at (length told) t _ (inside told t k seen) (passes-some (λ (n : ℕ). n == k) (number_seen told t) k seen ∙ eqb_same k) in
      ap is_none e ∙ sym (ap not taken)

-- so a frame with no number may have this one
pub may_have-none : (told frames : List (Option ℕ)) (f k : ℕ) → AreInverse told frames → number_seen told f ≡ None → k < length told → is_none (number_seen frames k) ≡ may_have (length told) (number_seen told) (number_seen told f) k
may_have-none told frames f k inverse e h =
    taken_is told frames k inverse
    ∙ (ap (λ (b : Bool). b && not (is_number_taken (length told) (number_seen told) k)) (sym (lt-ltb k (length told) h)) ∙ ap (λ (o : Option ℕ). may_have (length told) (number_seen told) o k) (sym e))

-- ---- one number more, and one less

-- The number may be this frame's: it is of no other one, and the frame has no other.
pub record IsFor (told frames : List (Option ℕ)) (f k : ℕ) : Type 0 where
  pub low : k < length told
  pub only : (t : ℕ) → number_seen frames k ≡ Some t → t ≡ f
  pub same : (j : ℕ) → number_seen told f ≡ Some j → j ≡ k

pub is_for : (told frames : List (Option ℕ)) (f k : ℕ) → AreInverse told frames → may_have (length told) (number_seen told) (number_seen told f) k ≡ true → IsFor told frames f k
is_for told frames f k inverse may = go (number_seen told f) refl may where
  go : (o : Option ℕ) → number_seen told f ≡ o → may_have (length told) (number_seen told) o k ≡ true → IsFor told frames f k
  go (Some seen) e m =
      let same = eqb_is seen k m in
      let there = inverse.there f seen e in
      let at : number_seen frames k ≡ Some f = ap (number_seen frames) (sym same) ∙ there in
      let low = inside frames k f at in
      record {
        low = omega (arith, low, inverse.size);
        only = λ t g. some_same (sym g ∙ at);
        same = λ j g. some_same (sym g ∙ e) ∙ same;
      }
  go None e m =
      let parts = and_parts (nat_lt k (length told)) (not (is_number_taken (length told) (number_seen told) k)) m in
      let free : is_none (number_seen frames k) ≡ true = taken_is told frames k inverse ∙ parts.1 in
      record {
        low = ltb-true k (length told) parts.0;
        only = λ t g. absurd (let both = sym (ap is_none g) ∙ free in cc);
        same = λ j g. absurd (let both = sym e ∙ g in cc);
      }

pub inverse-more : (told frames : List (Option ℕ)) (f k : ℕ) → AreInverse told frames → f < length told → IsFor told frames f k → AreInverse (set told f (Some k)) (set frames k (Some f))
inverse-more told frames f k inverse h may =
    let l : k < length frames = omega (arith, may.low, inverse.size) in
    record {
      size = length-set frames k (Some f) ∙ (inverse.size ∙ sym (length-set told f (Some k)));
      there = λ t j e. elim (cases_eq t f) [
        | inl same ↦
            let is : j ≡ k = some_same (sym e ∙ (ap (number_seen (set told f (Some k))) same ∙ get_or-set_same told f (Some k) None h)) in
            ap (number_seen (set frames k (Some f))) is ∙ (get_or-set_same frames k (Some f) None l ∙ ap (λ (n : ℕ). Some n) (sym same))
        | inr apart ↦
            let there = inverse.there t j (sym (other_place told f t (Some k) apart) ∙ e) in
            other_place frames k j (Some f) (λ same. apart (may.only t (ap (number_seen frames) (sym same) ∙ there))) ∙ there
      ];
      back = λ t j e. elim (cases_eq j k) [
        | inl same ↦
            let is : t ≡ f = some_same (sym e ∙ (ap (number_seen (set frames k (Some f))) same ∙ get_or-set_same frames k (Some f) None l)) in
            ap (number_seen (set told f (Some k))) is ∙ (get_or-set_same told f (Some k) None h ∙ ap (λ (n : ℕ). Some n) (sym same))
        | inr apart ↦
            let back = inverse.back t j (sym (other_place frames k j (Some f) apart) ∙ e) in
            other_place told f t (Some k) (λ same. apart (may.same j (ap (number_seen told) (sym same) ∙ back))) ∙ back
      ];
    }

pub inverse-less : (told frames : List (Option ℕ)) (f k : ℕ) → AreInverse told frames → number_seen told f ≡ Some k → AreInverse (set told f None) (set frames k None)
inverse-less told frames f k inverse seen =
    let h = inside told f k seen in
    let at = inverse.there f k seen in
    let l = inside frames k f at in
    record {
      size = length-set frames k None ∙ (inverse.size ∙ sym (length-set told f None));
      there = λ t j e. elim (cases_eq t f) [
        | inl same ↦ absurd (let none = sym e ∙ (ap (number_seen (set told f None)) same ∙ get_or-set_same told f None None h) in cc)
        | inr apart ↦
            let there = inverse.there t j (sym (other_place told f t None apart) ∙ e) in
            other_place frames k j None (λ same. apart (some_same (sym there ∙ (ap (number_seen frames) same ∙ at)))) ∙ there
      ];
      back = λ t j e. elim (cases_eq j k) [
        | inl same ↦ absurd (let none = sym e ∙ (ap (number_seen (set frames k None)) same ∙ get_or-set_same frames k None None l) in cc)
        | inr apart ↦
            let back = inverse.back t j (sym (other_place frames k j None apart) ∙ e) in
            other_place told f t None (λ same. apart (some_same (sym back ∙ (ap (number_seen told) same ∙ seen)))) ∙ back
      ];
    }

-- ---- what is read of a list

-- ---- lists of unlike lengths

pub may_of : (value told : List (Option ℕ)) (f k : ℕ) → told ≡ value → may_have (length value) (number_seen value) (number_seen value f) k ≡ true → may_have (length told) (number_seen told) (number_seen told f) k ≡ true
may_of value told f k e may = subst (λ (xs : List (Option ℕ)). may_have (length xs) (number_seen xs) (number_seen xs f) k ≡ true) (sym e) may

-- what is_none answers of what was read
pub none_read : (r : Bool) (x : Option ℕ) (b : Bool) → not r ≡ is_some x → b ≡ is_none x → r ≡ b
none_read true None b e f = sym f
none_read false None b e f = absurd cc
none_read true (Some k) b e f = absurd cc
none_read false (Some k) b e f = sym f

pub may_is : (value told : List (Option ℕ)) (f k : ℕ) (r : Bool) → told ≡ value → r ≡ may_have (length told) (number_seen told) (number_seen told f) k → r ≡ may_have (length value) (number_seen value) (number_seen value f) k
may_is value told f k r e is = subst (λ (xs : List (Option ℕ)). r ≡ may_have (length xs) (number_seen xs) (number_seen xs f) k) e is

-- numbers of 64 bits
pub wide_from : (xs : List ℕ) → ((i : ℕ) → Fits w64 (get_or xs i 0)) → AllByRecursion (λ n. n < 2 ^ 64) xs
wide_from [] each = tt
wide_from (x ∷ xs) each = (omega (arith, each 0), wide_from xs (λ i. each (suc i)))

pub number_seen-empty : (n t : ℕ) → number_seen (replicate n None) t ≡ None
number_seen-empty zero t = refl
number_seen-empty (suc n) zero = refl
number_seen-empty (suc n) (suc t) = number_seen-empty n t

-- ---- numbers that are told one after another

pub tells_end : (bound : ℕ) (numbers : ℕ → Option ℕ) (frames told : List ℕ) (r : Bool) → length frames ≡ 0 → r ≡ (length told == 0) → r ≡ may_tell bound numbers frames told
tells_end bound numbers [] [] r h e = e
tells_end bound numbers [] (k ∷ told) r h e = e ∙ eqb_apart (length (k ∷ told)) 0 (λ f. absurd (omega (arith, f)))
tells_end bound numbers (frame ∷ frames) told r h e = absurd (omega (arith, h))

pub seen_end : (numbers : ℕ → Option ℕ) (frames told : List ℕ) → length frames ≡ 0 → numbers ≡ with_seen numbers frames told
seen_end numbers [] told h = refl
seen_end numbers (frame ∷ frames) told h = absurd (omega (arith, h))

pub tells_short : (bound : ℕ) (numbers : ℕ → Option ℕ) (all told : List ℕ) (frame : ℕ) (frames : List ℕ) → all ≡ frame ∷ frames → length told ≡ 0 → false ≡ may_tell bound numbers all told
tells_short bound numbers [] told frame frames e h = absurd cc
tells_short bound numbers (x ∷ xs) [] frame frames e h = refl
tells_short bound numbers (x ∷ xs) (k ∷ told) frame frames e h = absurd (omega (arith, h))

pub tells_other : (bound : ℕ) (numbers : ℕ → Option ℕ) (all all_told : List ℕ) (frame : ℕ) (frames : List ℕ) (k : ℕ) (told : List ℕ) (r : Bool) → all ≡ frame ∷ frames → all_told ≡ k ∷ told
    → r ≡ may_have bound numbers (numbers frame) k → r ≡ false → false ≡ may_tell bound numbers all all_told
tells_other bound numbers all all_told frame frames k told r e f is off =
    sym ((λ i. may_tell bound numbers (e i) (f i)) ∙ ap (λ (b : Bool). b && may_tell bound (with_key numbers frame k) frames told) (sym is ∙ off))

pub tells_more : (bound after : ℕ) (numbers later : ℕ → Option ℕ) (all all_told : List ℕ) (frame : ℕ) (frames : List ℕ) (k : ℕ) (told : List ℕ) (r more : Bool) → all ≡ frame ∷ frames → all_told ≡ k ∷ told
    → r ≡ may_have bound numbers (numbers frame) k → r ≡ true → later ≡ with_key numbers frame k → after ≡ bound → more ≡ may_tell after later frames told → more ≡ may_tell bound numbers all all_told
tells_more bound after numbers later all all_told frame frames k told r more e f is on seen len rest =
    rest ∙ ((λ i. may_tell (len i) (seen i) frames told)
    ∙ (ap (λ (b : Bool). b && may_tell bound (with_key numbers frame k) frames told) (sym on ∙ is) ∙ sym (λ i. may_tell bound numbers (e i) (f i))))

pub seen_more : (numbers later last : ℕ → Option ℕ) (all all_told : List ℕ) (frame : ℕ) (frames : List ℕ) (k : ℕ) (told : List ℕ) → all ≡ frame ∷ frames → all_told ≡ k ∷ told → later ≡ with_key numbers frame k
    → last ≡ with_seen later frames told → last ≡ with_seen numbers all all_told
seen_more numbers later last all all_told frame frames k told e f seen rest = rest ∙ ((λ i. with_seen (seen i) frames told) ∙ sym (λ i. with_seen numbers (e i) (f i)))
