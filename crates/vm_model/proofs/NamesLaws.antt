-- Laws of names and of the lineage of VMOs: which VMOs a name stands for, and what is kept of them after one left.
use Rattle.std.proofs.Common.{◌≡◌, ◌≢◌, ℕ, Bool, false, cond, Option, None, Some, refl, sym, ap, ◌∙◌, inl, inr}
use Rattle.std.specs.Prelude.{unwrap_or, IsSome}
use Rattle.std.specs.Option.{option_map}
use Rattle.std.proofs.lemmas.Bool.{cases_eq}
use Rattle.vm_model.specs.declared.names.Origin.TheVariants.{Created}
use Rattle.vm_model.specs.declared.names.Target.{Target}
use Rattle.vm_model.specs.Naming.Names.{Lineage, owner, parent_without, lineage_without}
use Rattle.vm_model.specs.Machine.State.{State, target_of, lineage_of}
use Rattle.vm_base.proofs.SearchLaws.{eqb_same, eqb_apart}
use Rattle.vm_base.proofs.EntryLaws.{some_is}

-- ---- what the words of a state say where a map has a value

pub target_of-at : (s : State) (n : ℕ) (target : Target) → s.names n ≡ Some target → target_of s n ≡ target
unfolding target_of
target_of-at s n target e = ap (λ (o : Option Target). unwrap_or o (owner 0 false false)) e

-- a name that is open stands for its target
pub names-open : (s : State) (n : ℕ) → IsSome (s.names n) → s.names n ≡ Some (target_of s n)
names-open s n h = let found = some_is (s.names n) h in found.1 ∙ ap (λ (t : Target). Some t) (sym (target_of-at s n found.0 found.1))

pub lineage_of-at : (s : State) (v : ℕ) (l : Lineage) → s.lineage v ≡ Some l → lineage_of s v ≡ l
unfolding lineage_of
lineage_of-at s v l e = ap (λ (o : Option Lineage). unwrap_or o (record { resizable = false; origin = Created; parent = None })) e

-- a VMO that is there has its lineage
pub lineage-known : (s : State) (v : ℕ) → IsSome (s.lineage v) → s.lineage v ≡ Some (lineage_of s v)
lineage-known s v h = let found = some_is (s.lineage v) h in found.1 ∙ ap (λ (l : Lineage). Some l) (sym (lineage_of-at s v found.0 found.1))

-- states that keep the same of a VMO
pub lineage_of-same : (s t : State) (v : ℕ) → s.lineage v ≡ t.lineage v → lineage_of s v ≡ lineage_of t v
unfolding lineage_of
lineage_of-same s t v e = ap (λ (o : Option Lineage). unwrap_or o (record { resizable = false; origin = Created; parent = None })) e

pub target_of-same : (s t : State) (n : ℕ) → s.names n ≡ t.names n → target_of s n ≡ target_of t n
unfolding target_of
target_of-same s t n e = ap (λ (o : Option Target). unwrap_or o (owner 0 false false)) e

-- ---- the lineage without a VMO

pub parent_without-none : (v : ℕ) (parent : Option ℕ) → parent_without v parent None ≡ None
unfolding parent_without
parent_without-none v parent = refl

-- a child of the VMO that left gets its parent
pub parent_without-same : (v : ℕ) (parent : Option ℕ) → parent_without v parent (Some v) ≡ parent
unfolding parent_without
parent_without-same v parent = ap (λ (b : Bool). cond {A = Option ℕ} b parent (Some v)) (eqb_same v)

-- a child of another VMO keeps its parent
pub parent_without-other : (v : ℕ) (parent : Option ℕ) (p : ℕ) → p ≢ v → parent_without v parent (Some p) ≡ Some p
unfolding parent_without
parent_without-other v parent p apart = ap (λ (b : Bool). cond {A = Option ℕ} b parent (Some p)) (eqb_apart p v apart)

-- the lineage of a VMO, after the VMO v with this parent left
abbrev pub left_by : ℕ → Option ℕ → Lineage → Lineage
left_by v parent l = record l { parent = parent_without v parent l.parent }

module _ (lineage : ℕ → Option Lineage) (v : ℕ) (parent : Option ℕ) where
  pub lineage_without-same : lineage_without lineage v parent v ≡ None
  unfolding lineage_without
  lineage_without-same = ap (λ (b : Bool). cond {A = Option Lineage} b None (option_map (left_by v parent) (lineage v))) (eqb_same v)

  pub lineage_without-other : (w : ℕ) → w ≢ v → lineage_without lineage v parent w ≡ option_map (left_by v parent) (lineage w)
  unfolding lineage_without
  lineage_without-other w apart = ap (λ (b : Bool). cond {A = Option Lineage} b None (option_map (left_by v parent) (lineage w))) (eqb_apart w v apart)

  -- a lineage that is kept now was kept before, with its old parent
  pub lineage_without-some : (w : ℕ) (l : Lineage) → lineage_without lineage v parent w ≡ Some l → (old : Lineage) × (w ≢ v) × (lineage w ≡ Some old) × (l ≡ left_by v parent old)
  lineage_without-some w l e = elim (cases_eq w v) [
    | inl same ↦
        let none : ◌≡◌ {A = Option Lineage} None (Some l) = sym (ap (lineage_without lineage v parent) same ∙ lineage_without-same) ∙ e in absurd cc
    | inr apart ↦ go apart (lineage w) refl (sym (lineage_without-other w apart) ∙ e)
  ] where
    go : w ≢ v → (o : Option Lineage) → lineage w ≡ o → option_map (left_by v parent) o ≡ Some l → (old : Lineage) × (w ≢ v) × (lineage w ≡ Some old) × (l ≡ left_by v parent old)
    go apart None f h = absurd cc
    go apart (Some old) f h =
        let here : ◌≡◌ {A = Option Lineage} (Some (left_by v parent old)) (Some l) = h in
        let is : left_by v parent old ≡ l = cc in
        (old, apart, f, sym is)
