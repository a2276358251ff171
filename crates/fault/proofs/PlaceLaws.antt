-- The translations after several changes in a row, each of those that pass.
use Rattle.std.proofs.Common.{◌≡◌, ℕ, Bool, true, false, cond, ◌&&◌, ◌==◌, Option, None, Some, refl, sym, ap, ◌∙◌, inl, inr}
use Rattle.std.specs.Option.{option_map}
use Rattle.std.proofs.lemmas.Bool.{cases_Bool, eq-eqb, and_parts, and_from, cond-true, cond-false, false_from_ne_true}
use Rattle.vm_base.specs.Entries.{passes}
use Rattle.vm_base.proofs.EntryLaws.{some_same}
use Rattle.vm_base.proofs.SearchLaws.{eqb_is}
use Rattle.vm_model.specs.declared.space.Readiness.TheVariants.{Read}
use Rattle.vm_model.specs.Space.Readiness.{shows_in}
use Rattle.balanced_tree.specs.Pairs.{with_pair}
use Rattle.mapping_set.proofs.TableLaws.{with_pair-cases}
use Rattle.fault.specs.declared.translation.Translation.{Translation}
use Rattle.fault.specs.Table.{Places, translations_without, with_translation, with_read_only, is_translation_of, restricted as restrict_one}
use Rattle.fault.specs.declared.translation.Change.{Change}
use Rattle.fault.specs.declared.translation.Change.TheVariants.{Forget, Restrict}
use Rattle.fault.specs.inside.Walks.{become, changed_where, dropped, left_read_only, change_by, is_place}

-- a change that leaves what it made
abbrev pub IsOnce : (Translation → Option Translation) → Type 0
IsOnce change = (k : Translation) (test : Translation → Bool) → become change test (change k) ≡ change k

-- what is dropped is not changed again
pub dropped-once : IsOnce dropped
dropped-once k test = refl

-- what is for reading alone stays so
left_read_only-once : IsOnce left_read_only
left_read_only-once k test = cases (test (record k { readiness = Read }))
  where
    cases : (b : Bool) → cond b (left_read_only k) (left_read_only k) ≡ left_read_only k
    cases true = refl
    cases false = refl

-- so is each change
pub change_by-once : (change : Change) → IsOnce (change_by change)
change_by-once Forget = dropped-once
change_by-once Restrict = left_read_only-once

-- ---- changes in a row

module _ (change : Translation → Option Translation) where
  -- none passes
  stays : (test : Translation → Bool) (o : Option Translation) → ((k : Translation) → o ≡ Some k → test k ≡ false) → o ≡ become change test o
  stays test None none = refl
  stays test (Some k) none = rw (none k refl) refl

  -- a page that changes
  pub changed-place : (new places : Places) (root p : ℕ) (k : Translation) → places root p ≡ Some k → new ≡ with_pair places root p (change k)
      → new ≡ changed_where change (λ r q k. is_place root p r q) places
  unfolding changed_where
  changed-place new places root p k at e = e ∙ (λ i r q. here r q i)
    where
      as_is : (t : Bool) (o : Option Translation) → t ≡ false → o ≡ become change (λ k. t) o
      as_is t None off = refl
      as_is t (Some k) off = rw off refl

      here : (r q : ℕ) → with_pair places root p (change k) r q ≡ become change (λ k. is_place root p r q) (places r q)
      here r q = elim (with_pair-cases places root p (change k) r q) [
        | inl same ↦
            let is : places r q ≡ Some k = ap (λ n. places n q) same.0 ∙ (ap (places root) same.1 ∙ at) in
            let on : is_place root p r q ≡ true = and_from (r == root) (q == p) (eq-eqb r root same.0) (eq-eqb q p same.1) in
            same.2 ∙ (sym (cond-true (is_place root p r q) (change k) (Some k) on) ∙ ap (become change (λ k. is_place root p r q)) (sym is))
        | inr apart ↦
            let off : is_place root p r q ≡ false = false_from_ne_true (is_place root p r q) (λ on.
            let both = and_parts (r == root) (q == p) on in apart.0 (eqb_is r root both.0) (eqb_is q p both.1)) in
            apart.1 ∙ as_is (is_place root p r q) (places r q) off
      ]

  -- no translation passes
  pub changed-none : (places : Places) (test : ℕ → ℕ → Translation → Bool) → ((r p : ℕ) (k : Translation) → places r p ≡ Some k → test r p k ≡ false) → places ≡ changed_where change test places
  unfolding changed_where
  changed-none places test none = λ i r p. stays (test r p) (places r p) (none r p) i

  -- only the translations that are there count
  become-alike : (a b : Translation → Bool) (o : Option Translation) → ((k : Translation) → o ≡ Some k → a k ≡ b k) → become change a o ≡ become change b o
  become-alike a b None same = refl
  become-alike a b (Some k) same = rw (same k refl) refl

  pub changed-alike : (new places : Places) (test both : ℕ → ℕ → Translation → Bool) → ((r p : ℕ) (k : Translation) → places r p ≡ Some k → test r p k ≡ both r p k)
      → new ≡ changed_where change test places → new ≡ changed_where change both places
  unfolding changed_where
  changed-alike new places test both same e = e ∙ (λ i r p. become-alike (test r p) (both r p) (places r p) (same r p) i)

  module _ (once : IsOnce change) where
    -- what changes first, and what changes of the rest
    become-then : (first after both : Translation → Bool) (o : Option Translation) → ((k : Translation) → first k ≡ true → both k ≡ true)
        → ((k : Translation) → become change first o ≡ Some k → first k ≡ false → after k ≡ both k)
        → become change after (become change first o) ≡ become change both o
    become-then first after both None gone rest = refl
    become-then first after both (Some k) gone rest = elim (cases_Bool (first k)) [
      | inl here ↦ rw here (rw (gone k here) (once k after))
      | inr there ↦
          let now = rest k (cond-false (first k) (change k) (Some k) there) there in
          rw there (rw now refl)
    ]

    module _ (old mid : Places) (first : ℕ → ℕ → Translation → Bool) (is : mid ≡ changed_where change first old) where
      -- what changes is what changed, and what changes of the rest
      pub changed-then : (new : Places) (after both : ℕ → ℕ → Translation → Bool) → new ≡ changed_where change after mid
          → ((r p : ℕ) (k : Translation) → first r p k ≡ true → both r p k ≡ true)
          → ((r p : ℕ) (k : Translation) → mid r p ≡ Some k → first r p k ≡ false → after r p k ≡ both r p k)
          → new ≡ changed_where change both old
      unfolding changed_where
      changed-then new after both e gone rest = e ∙ (ap (changed_where change after) is ∙ (λ i r p.
          become-then (first r p) (after r p) (both r p) (old r p) (gone r p) (λ k h. rest r p k (ap (λ (m : Places). m r p) is ∙ h)) i))

      -- nothing of the rest passes
      pub changed-rest : (both : ℕ → ℕ → Translation → Bool) → ((r p : ℕ) (k : Translation) → first r p k ≡ true → both r p k ≡ true)
          → ((r p : ℕ) (k : Translation) → mid r p ≡ Some k → first r p k ≡ false → both r p k ≡ false) → mid ≡ changed_where change both old
      changed-rest both gone rest =
          changed-then mid (λ r p k. false) both (changed-none mid (λ r p k. false) (λ r p k h. refl)) gone (λ r p k h there. sym (rest r p k h there))

-- what is left stood before, and did not pass
pub dropped-left : (new places : Places) (test : ℕ → ℕ → Translation → Bool) → new ≡ changed_where dropped test places
    → (r p : ℕ) (k : Translation) → new r p ≡ Some k → (places r p ≡ Some k) × (test r p k ≡ false)
unfolding changed_where
dropped-left new places test e r p k is = go (places r p) (sym (ap (λ (m : Places). m r p) e) ∙ is) where
  go : (o : Option Translation) → become dropped (test r p) o ≡ Some k → (o ≡ Some k) × (test r p k ≡ false)
  go None f = absurd cc
  go (Some y) f = elim (cases_Bool (test r p y)) [
    | inl gone ↦ absurd (let none : ◌≡◌ {A = Option Translation} None (Some k) = rw gone at f in cc)
    | inr stays ↦ let same : y ≡ k = some_same (rw stays at f) in (ap (λ (z : Translation). Some z) same, ap (test r p) (sym same) ∙ stays)
  ]

-- where it passes, nothing is left of the place
pub dropped-gone : (new places : Places) (test : ℕ → ℕ → Translation → Bool) → new ≡ changed_where dropped test places
    → (r p : ℕ) → ((k : Translation) → places r p ≡ Some k → test r p k ≡ true) → new r p ≡ None
dropped-gone new places test e r p passing = go (new r p) refl where
  go : (o : Option Translation) → new r p ≡ o → o ≡ None
  go None f = refl
  go (Some k) f =
      let left = dropped-left new places test e r p k f in
      absurd (let no : true ≡ false = sym (passing k left.0) ∙ left.1 in cc)

-- a test that holds adds nothing
and-true : (b : Bool) → (b && true) ≡ b
and-true true = refl
and-true false = refl

-- a part of a test that always holds
module _ (change : Translation → Option Translation) (new old : Places) (test : ℕ → ℕ → Translation → Bool) where
  -- it is left out
  pub changed-all : new ≡ changed_where change (λ r p k. test r p k && true) old → new ≡ changed_where change test old
  changed-all e = e ∙ (λ i. changed_where change (λ r p k. and-true (test r p k) i) old)

  -- it is put in
  pub changed-all_of : new ≡ changed_where change test old → new ≡ changed_where change (λ r p k. test r p k && true) old
  changed-all_of e = e ∙ (λ i. changed_where change (λ r p k. sym (and-true (test r p k)) i) old)

-- ---- the changes that callers see

-- the translations without those that are dropped
pub places-without : (goes : ℕ → ℕ → Translation → Bool) (new old : Places) → new ≡ changed_where dropped goes old → new ≡ translations_without goes old
unfolding changed_where translations_without passes
places-without goes new old e = e ∙ (λ i r p. seen (goes r p) (old r p) i)
  where
    seen : (test : Translation → Bool) (o : Option Translation) → become dropped test o ≡ cond (passes test o) None o
    seen test None = refl
    seen test (Some x) = refl

-- those that show the range for reading alone
pub places-read_only : (v first end : ℕ) (new old : Places) → new ≡ changed_where left_read_only (is_translation_of v first end) old → new ≡ with_read_only v first end old
unfolding changed_where with_read_only
places-read_only v first end new old e = e ∙ (λ i r p. seen (old r p) i)
  where
    seen : (o : Option Translation) → become left_read_only (λ x. shows_in v first end x.entry) o ≡ option_map (restrict_one v first end) o
    seen None = refl
    seen (Some x) = elim (cases_Bool (shows_in v first end x.entry)) [ inl here ↦ rw here refl | inr there ↦ rw there refl ]

-- a page has another translation
pub places-set : (new old : Places) (root p : ℕ) (x : Translation) → new ≡ with_pair old root p (Some x) → new ≡ with_translation old root p x
unfolding with_pair with_translation
places-set new old root p x e = e
