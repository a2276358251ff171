-- The tables of page sources as their callers see them, and the state that they and their store stand for.
use Rattle.std.specs.Prelude.{◌≡◌, ℕ, ◌≤◌, ◌⊎◌, Bool, true, false, Option, None, Some, IsSome, is_some, option_map}
use Rattle.vm_base.specs.declared.names.Koid.{Koid}
use Rattle.vm_base.specs.declared.names.VmoName.{VmoName}
use Rattle.vm_model.specs.Contents.Content.{Content}
use Rattle.pair_map.specs.Maps.{values_of, spare_of}
use Rattle.source_model.specs.declared.backing.Backing.{Backing}
use Rattle.source_model.specs.declared.link.Link.{Link}
use Rattle.source_model.specs.State.{SourceState, state_over}
use Rattle.source_model.specs.Good.{IsGoodSources}
use Rattle.source_vm.specs.declared.table.SourceTable.{SourceTable}

-- the koid of each name
abbrev pub source_names_of : SourceTable → ℕ → Option ℕ
source_names_of t = λ n. option_map (λ (v : Koid). v.0) (values_of t.names 0 n)

-- the name of each VMO
abbrev pub owners_of : SourceTable → ℕ → Option ℕ
owners_of t = λ v. option_map (λ (n : VmoName). n.0) (values_of t.owners 0 v)

-- the backing of each VMO that is not loose
abbrev pub backings_of : SourceTable → ℕ → Option Backing
backings_of t = λ v. values_of t.backings 0 v

-- the link of each loose VMO
abbrev pub loose_links_of : SourceTable → ℕ → Option Link
loose_links_of t = λ v. values_of t.links 0 v

-- whether the second VMO is a loose child of the first
abbrev pub children_of : SourceTable → ℕ → ℕ → Bool
children_of t = λ p w. is_some (values_of t.children p w)

-- there is room for a name and a VMO more
pub record HasRoom (t : SourceTable) : Type 0 where
  pub names : 1 ≤ spare_of t.names
  pub owners : 1 ≤ spare_of t.owners
  pub backings : 1 ≤ spare_of t.backings
  pub links : 1 ≤ spare_of t.links
  pub children : 1 ≤ spare_of t.children

-- Each VMO that has a name is found with it, and the loose children of a VMO are those whose links lead to it.
pub record AreIndexed (names owners : ℕ → Option ℕ) (links : ℕ → Option Link) (children : ℕ → ℕ → Bool) : Type 0 where
  pub named : (n v : ℕ) → names n ≡ Some v → owners v ≡ Some n
  pub owned : (v n : ℕ) → owners v ≡ Some n → names n ≡ Some v
  pub linked : (w : ℕ) (l : Link) → links w ≡ Some l → children l.parent.0 w ≡ true
  pub child : (p w : ℕ) → children p w ≡ true → (l : Link) × (links w ≡ Some l) × (l.parent.0 ≡ p)

abbrev pub IsIndexed : SourceTable → Type 0
IsIndexed t = AreIndexed (source_names_of t) (owners_of t) (loose_links_of t) (children_of t)

-- whether a VMO has a name, or a loose child
pub record IsKeptBy (owners : ℕ → Option ℕ) (children : ℕ → ℕ → Bool) (v : ℕ) (answer : Bool) : Type 0 where
  pub kept : answer ≡ true → IsSome (owners v) ⊎ ((w : ℕ) × (children v w ≡ true))
  pub not_kept : answer ≡ false → (owners v ≡ None) × ((w : ℕ) → children v w ≡ false)

-- the state that the tables and the content of their store stand for
abbrev pub source_state_of : Content → SourceTable → SourceState
source_state_of c t = state_over c (source_names_of t) (backings_of t) (loose_links_of t)

-- they stand together for a good state
pub record SourcesAgree (c : Content) (t : SourceTable) : Type 0 where
  pub good : IsGoodSources (source_state_of c t)
  pub indexed : IsIndexed t
