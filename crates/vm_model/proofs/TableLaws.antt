-- Laws of tables whose entries change on a range of pages.
use Rattle.std.proofs.Common.{◌≡◌, ℕ, ◌<◌, ◌≤◌, ◌&&◌, ◌==◌, Option, Some, ◌⊎◌, inl, inr, sym, ap, ◌∙◌}
use Rattle.std.proofs.lemmas.Bool.{cases_Bool, cond-true, cond-false, and_parts, and_from, both_ways, false_from_ne_true}
use Rattle.vm_base.proofs.SearchLaws.{eqb_is, eqb_same}
use Rattle.vm_model.specs.declared.space.Entry.{Entry}
use Rattle.vm_model.specs.Contents.Zeroing.{is_within}
use Rattle.vm_model.specs.Space.Table.{with_pages}
use Rattle.vm_model.proofs.ZeroingLaws.{is_within-true, is_within-parts}

module _ (table : ℕ → ℕ → Option Entry) (root first end : ℕ) (now : ℕ → Option Entry) where
  -- a page of the range has its new entry
  pub with_pages-in : (p : ℕ) → first ≤ p → p < end → with_pages table root first end now root p ≡ now p
  unfolding with_pages
  with_pages-in p low high = cond-true _ _ _ (and_from (root == root) (is_within first end p) (eqb_same root) (is_within-true first end p low high))

  -- another page has the entry that it had
  pub with_pages-out : (r p : ℕ) → (r ≡ root → first ≤ p → p < end → ⊥) → with_pages table root first end now r p ≡ table r p
  unfolding with_pages
  with_pages-out r p out = cond-false _ _ _ (false_from_ne_true ((r == root) && is_within first end p) (λ inside.
      let both = and_parts (r == root) (is_within first end p) inside in
      let within = is_within-parts first end p both.1 in
      out (eqb_is r root both.0) within.0 within.1))

  -- an entry is a new one of the range, or one of another page that was there
  pub with_pages-was : (r p : ℕ) (entry : Entry) → with_pages table root first end now r p ≡ Some entry
      → ((r ≡ root) × (first ≤ p) × (p < end) × (now p ≡ Some entry)) ⊎ ((r ≡ root → first ≤ p → p < end → ⊥) × (table r p ≡ Some entry))
  with_pages-was r p entry e = elim (cases_Bool ((r == root) && is_within first end p)) [
    | inl is ↦
        let both = and_parts (r == root) (is_within first end p) is in
        let within = is_within-parts first end p both.1 in
        let same = eqb_is r root both.0 in
        inl (same, within.0, within.1, sym (with_pages-in p within.0 within.1) ∙ (ap (λ s. with_pages table root first end now s p) (sym same) ∙ e))
    | inr off ↦
        let out : r ≡ root → first ≤ p → p < end → ⊥ = λ same low high. both_ways ((r == root) && is_within first end p) off
        (and_from (r == root) (is_within first end p) (ap (λ n. n == root) same ∙ eqb_same root) (is_within-true first end p low high)) in
        inr (out, sym (with_pages-out r p out) ∙ e)
  ]
