-- Laws of the numbers that a pin may tell: whether a renaming gives them is found one number after another.
use Rattle.std.proofs.Common.{◌≡◌, ℕ, ◌<◌, true, not, ◌==◌, List, [], ◌∷◌, map, Option, None, Some, refl, sym, ap, subst, ◌∙◌, inl, inr}
use Rattle.std.specs.Prelude.{nat_lt, is_some, unwrap_or}
use Rattle.std.specs.List.{AllByRecursion}
use Rattle.std.proofs.lemmas.Bool.{and_parts, and_from, both_ways, not-true, false_from_ne_true, ltb-true, lt-ltb, eq-eqb}
use Rattle.vm_base.specs.Entries.{with_key, passes}
use Rattle.vm_base.proofs.SearchLaws.{any_below_at, any_below_found, eqb_is, eqb_same}
use Rattle.vm_base.proofs.EntryLaws.{some_same, passes-some, passes_found, with_key-same, with_key-here, with_key-other, with_key-cases}
use Rattle.vm_model.specs.Machine.Machine.{Machine}
use Rattle.moving_model.specs.Renaming.{Renaming, KeepsFrom}
use Rattle.moving_model.specs.Standing.{with_seen, Fits, is_number_taken, may_have, may_tell, AreSeen}
use Rattle.moving_model.proofs.NumberLaws.{to_once, to_below}
use Rattle.moving_model.proofs.GroupLaws.{extends}
use Rattle.std.proofs.lemmas.Bool.{cases_eq}

-- numbers below the bound, each of one frame
record AreNumbers (bound : ℕ) (numbers : ℕ → Option ℕ) : Type 0 where
  pub below : (t k : ℕ) → numbers t ≡ Some k → (t < bound) × (k < bound)
  pub one : (t u k : ℕ) → numbers t ≡ Some k → numbers u ≡ Some k → t ≡ u

module _ (bound : ℕ) where
  taken_at : (numbers : ℕ → Option ℕ) (t k : ℕ) → t < bound → numbers t ≡ Some k → is_number_taken bound numbers k ≡ true
  taken_at numbers t k h e = any_below_at bound t (λ u. passes (λ (seen : ℕ). seen == k) (numbers u)) h (passes-some (λ (seen : ℕ). seen == k) (numbers t) k e ∙ eqb_same k)

  -- what it means that a frame may have a number
  record MayHave (numbers : ℕ → Option ℕ) (t k : ℕ) : Type 0 where
    pub low : k < bound
    pub same : (j : ℕ) → numbers t ≡ Some j → j ≡ k
    pub free : (u : ℕ) → numbers u ≡ Some k → u ≡ t

  may_have-parts : (numbers : ℕ → Option ℕ) (t k : ℕ) → AreNumbers bound numbers → may_have bound numbers (numbers t) k ≡ true → MayHave numbers t k
  may_have-parts numbers t k are e = go (numbers t) refl e where
    go : (o : Option ℕ) → numbers t ≡ o → may_have bound numbers o k ≡ true → MayHave numbers t k
    go (Some j) f g =
        let same = eqb_is j k g in
        let is : numbers t ≡ Some k = f ∙ ap (λ (n : ℕ). Some n) same in
        record { low = (are.below t k is).1; same = λ i h. some_same (sym h ∙ is); free = λ u h. are.one u t k h is }
    go None f g =
        let parts = and_parts (nat_lt k bound) (not (is_number_taken bound numbers k)) g in
        record {
          low = ltb-true k bound parts.0;
          same = λ i h. absurd (let none = sym f ∙ h in cc);
          free = λ u h. absurd (both_ways (is_number_taken bound numbers k) (not-true (is_number_taken bound numbers k) parts.1) (taken_at numbers u k (are.below u k h).0 h));
        }

  AreNumbers-more : (numbers : ℕ → Option ℕ) (t k : ℕ) → t < bound → AreNumbers bound numbers → MayHave numbers t k → AreNumbers bound (with_key numbers t k)
  AreNumbers-more numbers t k h are may = record {
    below = λ u j e. elim (with_key-cases numbers t k u j e) [
      | inl new ↦ (subst (λ (n : ℕ). n < bound) (sym new.0) h, subst (λ (n : ℕ). n < bound) new.1 may.low)
      | inr old ↦ are.below u j old.1
    ];
    one = λ u w j e f. elim (with_key-cases numbers t k u j e) [
      | inl new ↦ elim (with_key-cases numbers t k w j f) [
        | inl too ↦ new.0 ∙ sym too.0
        | inr old ↦ new.0 ∙ sym (may.free w (old.1 ∙ ap (λ (n : ℕ). Some n) (sym new.1)))
      ]
      | inr before ↦ elim (with_key-cases numbers t k w j f) [
        | inl too ↦ may.free u (before.1 ∙ ap (λ (n : ℕ). Some n) (sym too.1)) ∙ sym too.0
        | inr old ↦ are.one u w j before.1 old.1
      ]
    ];
  }

  -- what was seen before stays
  stays_seen : (numbers : ℕ → Option ℕ) (t k : ℕ) → MayHave numbers t k → (u j : ℕ) → numbers u ≡ Some j → with_key numbers t k u ≡ Some j
  stays_seen numbers t k may u j e = elim (cases_eq u t) [
    | inl same ↦ with_key-here numbers t k u same ∙ ap (λ (n : ℕ). Some n) (sym (may.same j (ap numbers (sym same) ∙ e)))
    | inr apart ↦ with_key-other numbers t k u apart ∙ e
  ]

  -- numbers after which these frames are seen so
  record Tell (numbers : ℕ → Option ℕ) (frames told : List ℕ) : Type 0 where
    pub are : AreNumbers bound (with_seen numbers frames told)
    pub stays : (u j : ℕ) → numbers u ≡ Some j → with_seen numbers frames told u ≡ Some j
    pub tells : (f : ℕ → ℕ) → ((t k : ℕ) → with_seen numbers frames told t ≡ Some k → f t ≡ k) → map f frames ≡ told

  tell : (frames told : List ℕ) (numbers : ℕ → Option ℕ) → AllByRecursion (λ t. t < bound) frames → AreNumbers bound numbers → may_tell bound numbers frames told ≡ true → Tell numbers frames told
  tell [] [] numbers low are e = record { are = are; stays = λ u j f. f; tells = λ f does. refl }
  tell [] (k ∷ told) numbers low are e = absurd cc
  tell (t ∷ frames) [] numbers low are e = absurd cc
  tell (t ∷ frames) (k ∷ told) numbers low are e =
      let parts = and_parts (may_have bound numbers (numbers t) k) (may_tell bound (with_key numbers t k) frames told) e in
      let may = may_have-parts numbers t k are parts.0 in
      let rest = tell frames told (with_key numbers t k) low.1 (AreNumbers-more numbers t k low.0 are may) parts.1 in
      record {
        are = rest.are;
        stays = λ u j f. rest.stays u j (stays_seen numbers t k may u j f);
        tells = λ f does. let here = does t k (rest.stays t k (with_key-same numbers t k)) in let others = rest.tells f does in λ i. here i ∷ others i;
      }

  -- and the other way: what a renaming tells may be told
  told_may : (r : Renaming) → KeepsFrom r bound → (frames : List ℕ) (numbers : ℕ → Option ℕ) → AllByRecursion (λ t. t < bound) frames → ((t k : ℕ) → numbers t ≡ Some k → k ≡ r.to t)
      → may_tell bound numbers frames (map r.to frames) ≡ true
  told_may r keeps [] numbers low known = refl
  told_may r keeps (t ∷ frames) numbers low known = and_from _ _ (here (numbers t) refl)
      (told_may r keeps frames (with_key numbers t (r.to t)) low.1 (λ u k e. elim (with_key-cases numbers t (r.to t) u k e) [
        | inl new ↦ sym new.1 ∙ ap r.to (sym new.0)
        | inr old ↦ known u k old.1
      ])) where
        here : (o : Option ℕ) → numbers t ≡ o → may_have bound numbers o (r.to t) ≡ true
        here (Some j) e = eq-eqb j (r.to t) (known t j e)
        here None e = and_from (nat_lt (r.to t) bound) _ (lt-ltb (r.to t) bound (to_below r bound t keeps low.0)) (ap not (false_from_ne_true (is_number_taken bound numbers (r.to t)) (λ f.
            let found = any_below_found bound (λ u. passes (λ (seen : ℕ). seen == r.to t) (numbers u)) f in
            let value = passes_found (λ (seen : ℕ). seen == r.to t) (numbers found.0) found.2 in
            let same = eqb_is value.0 (r.to t) value.2 in
            let frame : t ≡ found.0 = to_once r t found.0 (sym same ∙ known found.0 value.0 value.1) in
            absurd (let none = sym e ∙ (ap numbers frame ∙ value.1) in cc))))

-- ---- pins

module _ (own : Machine) (numbers : ℕ → Option ℕ) (frames told : List ℕ) (seen : AreSeen own numbers) (low : AllByRecursion (λ t. t < own.state.content.frames) frames) where
  abbrev bound : ℕ
  bound = own.state.content.frames

  -- Numbers that may be told one after another fit.
  pub fits_from : may_tell bound numbers frames told ≡ true → Fits own numbers frames told
  fits_from e =
      let all = tell bound frames told numbers low (record { below = seen.below; one = seen.one }) e in
      let later = with_seen numbers frames told in
      let number : ℕ → ℕ = λ t. unwrap_or (later t) 0 in
      let is_seen : (t : ℕ) → is_some (later t) ≡ true → later t ≡ Some (number t) = λ t h. some_number (later t) h in
      let made = extends bound (λ t. is_some (later t)) number (λ t h f. (all.are.below t (number t) (is_seen t f)).1)
      (λ t u h l f g same. all.are.one t u (number t) (is_seen t f) (is_seen u g ∙ ap (λ (n : ℕ). Some n) (sym same))) in
      let does : (t k : ℕ) → later t ≡ Some k → made.0.to t ≡ k = λ t k f.
      made.2 t (all.are.below t k f).0 (ap is_some f) ∙ ap (λ (o : Option ℕ). unwrap_or o 0) f in
      record {
        by = made.0;
        within = made.1;
        seen = λ v p held pinned f. let known = seen.each v p held pinned f in known.1 ∙ ap (λ (n : ℕ). Some n) (sym (does held.tag known.0 (all.stays held.tag known.0 known.1)));
        tells = all.tells made.0.to does;
      } where
        some_number : (o : Option ℕ) → is_some o ≡ true → o ≡ Some (unwrap_or o 0)
        some_number None h = absurd cc
        some_number (Some k) h = refl

  -- And numbers that fit may be told so.
  pub tell_from : Fits own numbers frames told → may_tell bound numbers frames told ≡ true
  tell_from fits = subst (λ (ks : List ℕ). may_tell bound numbers frames ks ≡ true) fits.tells (told_may bound fits.by fits.within frames numbers low (λ t k e.
      let page = seen.only t k e in
      some_same (sym e ∙ (ap numbers (sym page.5) ∙ (fits.seen page.0 page.1 page.2 page.3 page.4 ∙ ap (λ (n : ℕ). Some (fits.by.to n)) page.5)))))
