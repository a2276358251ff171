-- Maps from pairs of numbers, as one pair gets a value or loses it.
use Rattle.std.proofs.Common.{◌≡◌, ℕ, Option, None, Some, ◌⊎◌, sym, ap, ◌∙◌, inl, inr}
use Rattle.vm_base.proofs.EntryLaws.{some_same}
use Rattle.balanced_tree.specs.Pairs.{with_pair}
use Rattle.mapping_set.proofs.TableLaws.{with_pair-cases, with_pair-same}

-- what is there is not missing
pub missing : {A : Type 0} {o : Option A} {a : A} → o ≡ Some a → o ≡ None → ⊥
missing e none = absurd cc

module _ {V : Type 0} (map new : ℕ → ℕ → Option V) (a b : ℕ) where
  -- a pair that has a value still is another
  pub pair-left : new ≡ with_pair map a b None → (k q : ℕ) (v : V) → new k q ≡ Some v → (k ≡ a → q ≡ b → ⊥) × (map k q ≡ Some v)
  pair-left e k q v is = elim (with_pair-cases map a b None k q) [
    | inl here ↦ absurd (missing is (ap (λ m. m k q) e ∙ here.2))
    | inr there ↦ (there.0, sym (ap (λ m. m k q) e ∙ there.1) ∙ is)
  ]

  -- another pair keeps its value
  pub pair-other : (w : Option V) → new ≡ with_pair map a b w → (k q : ℕ) → (k ≡ a → q ≡ b → ⊥) → new k q ≡ map k q
  pair-other w e k q apart = elim (with_pair-cases map a b w k q) [
    | inl here ↦ absurd (apart here.0 here.1)
    | inr there ↦ ap (λ m. m k q) e ∙ there.1
  ]

  -- the pair has its new value
  pub pair-here : (w : Option V) → new ≡ with_pair map a b w → (k q : ℕ) → k ≡ a → q ≡ b → new k q ≡ w
  pair-here w e k q one two = ap (λ m. m k q) e ∙ with_pair-same map a b w k q one two

  -- a value is the new one, or was there
  pub pair-cases : (w : V) → new ≡ with_pair map a b (Some w) → (k q : ℕ) (v : V) → new k q ≡ Some v
      → ((k ≡ a) × (q ≡ b) × (w ≡ v)) ⊎ ((k ≡ a → q ≡ b → ⊥) × (map k q ≡ Some v))
  pair-cases w e k q v is = elim (with_pair-cases map a b (Some w) k q) [
    | inl here ↦ inl (here.0, here.1, some_same (sym here.2 ∙ (sym (ap (λ m. m k q) e) ∙ is)))
    | inr there ↦ inr (there.0, sym (ap (λ m. m k q) e ∙ there.1) ∙ is)
  ]

-- a pair keeps its value
pub with_pair-kept : {V : Type 0} (map : ℕ → ℕ → Option V) (a b : ℕ) (w : Option V) → map a b ≡ w → map ≡ with_pair map a b w
with_pair-kept {V} map a b w is = λ i k q. at k q i
  where
    at : (k q : ℕ) → map k q ≡ with_pair map a b w k q
    at k q = elim (with_pair-cases map a b w k q) [
      | inl here ↦ ap (λ n. map n q) here.0 ∙ (ap (map a) here.1 ∙ (is ∙ sym here.2))
      | inr there ↦ sym there.1
    ]
