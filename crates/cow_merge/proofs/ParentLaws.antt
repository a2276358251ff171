-- Where a VMO's node goes, alone or with its parent, each node that is left keeps its parent or has that of its parent.
use Rattle.cow_merge.proofs.Words.{◌≡◌, ◌≢◌, min, ℕ, ◌+◌, ◌-◌, ◌==◌, Bool, true, false, if◌then◌else◌, Some, inl, inr, refl, sym, ap, subst}
use Rattle.cow_merge.proofs.Words.{◌∙◌, arith, cases_eq, with_key, without_key, some_same, without_key-some, with_key-same, with_key-other}
use Rattle.cow_merge.proofs.Words.{Node, Nodes, AreFamily, link_to, IsForest, relinked, window_first, lifted, spliced, spliced_over}
use Rattle.cow_merge.proofs.Words.{StaysUnder, IsRaised, WasUnder}
use Rattle.cow_arena.proofs.RelinkLaws.{relinked-was}
use Rattle.cow_arena.proofs.SpliceForestLaws.{parent_is_hidden, sibling_parent}

-- a window that begins at page 0 does so if it is shorter
pub window_first-zero : (first seen : ℕ) → first ≡ 0 → window_first first seen ≡ 0
window_first-zero first seen none = ap (λ (n : ℕ). if seen == 0 then 0 else n) none ∙ either (seen == 0) 0
  where
    either : (b : Bool) (n : ℕ) → (if b then n else n) ≡ n
    either true n = refl
    either false n = refl

-- the node went alone
pub parents-removed : (old new : Nodes) (v : ℕ) → new ≡ without_key old v → (k x : ℕ) (now : Node) → new k ≡ Some now → now.parent ≡ link_to x → WasUnder old k x now
parents-removed old new v is k h now at up =
    let was = without_key-some old v k now (sym (ap (λ (n : Nodes). n k) is) ∙ at) in
    inl (record { node = now; at = was.1; koid = refl; parent = up; first = λ none. none })

-- and with its parent, in whose place a node came that is the sibling but for its list
module _ (old : Nodes) (lists : ℕ) (f : IsForest old lists) (v h s : ℕ) (node parent sibling : Node) (family : AreFamily old v h s node parent sibling) where
  module _ (new : Nodes) (top : Node) (koid : top.koid ≡ sibling.koid) (up : top.parent ≡ parent.parent)
      (first : sibling.first ≡ 0 → parent.first ≡ 0 → top.first ≡ 0)
      (is : new ≡ with_key (without_key (without_key (relinked old parent.parent h s) h) v) s top) where
    sibling-raised : (x : ℕ) (now : Node) → new s ≡ Some now → now.parent ≡ link_to x → IsRaised old s x now
    sibling-raised x now at under =
        let same : top ≡ now = some_same (sym (ap (λ (n : Nodes). n s) is ∙ with_key-same _ s top) ∙ at) in
        record {
          node = sibling;
          at = family.sibling_at;
          koid = ap (λ (n : Node). n.koid) (sym same) ∙ koid;
          j = h;
          between = parent;
          between_at = family.parent_at;
          hidden = parent_is_hidden old lists f.rank f.by v h s node parent sibling family;
          below = sibling_parent old lists f.rank f.by v h s node parent sibling family;
          parent = sym up ∙ (ap (λ (n : Node). n.parent) same ∙ under);
          first = λ own above. ap (λ (n : Node). n.first) (sym same) ∙ first own above;
        }

    other-stays : (k x : ℕ) (now : Node) → k ≢ s → new k ≡ Some now → now.parent ≡ link_to x → StaysUnder old k x now
    other-stays k x now apart at under =
        let first_out = without_key-some _ v k now (sym (ap (λ (n : Nodes). n k) is ∙ with_key-other _ s top k apart) ∙ at) in
        let both_out = without_key-some _ h k now first_out.1 in
        let was = relinked-was old parent.parent h s k now both_out.1 in
        record { node = was.0; at = was.1; koid = was.2.koid; parent = sym was.2.parent ∙ under; first = λ none. was.2.first ∙ none }

    parents-with : (k x : ℕ) (now : Node) → new k ≡ Some now → now.parent ≡ link_to x → WasUnder old k x now
    parents-with k x now at under = elim (cases_eq k s) [
      | inl here ↦ inr (subst (λ i. IsRaised old i x now) (sym here) (sibling-raised x now (sym (ap new here) ∙ at) under))
      | inr apart ↦ inl (other-stays k x now apart at under)
    ]

  lifted-first : sibling.first ≡ 0 → parent.first ≡ 0 → (lifted parent sibling).first ≡ 0
  lifted-first own above = window_first-zero (sibling.first + parent.first) (min sibling.seen (parent.seen - sibling.first)) (omega arith)

  pub parents-spliced : (new : Nodes) → new ≡ spliced old v h s parent sibling → (k x : ℕ) (now : Node) → new k ≡ Some now → now.parent ≡ link_to x → WasUnder old k x now
  unfolding spliced
  parents-spliced new is = parents-with new (lifted parent sibling) refl refl lifted-first is

  pub parents-over : (new : Nodes) → new ≡ spliced_over old v h s parent sibling → (k x : ℕ) (now : Node) → new k ≡ Some now → now.parent ≡ link_to x → WasUnder old k x now
  unfolding spliced_over
  parents-over new is = parents-with new (record (lifted parent sibling) { list = parent.list }) refl refl lifted-first is
