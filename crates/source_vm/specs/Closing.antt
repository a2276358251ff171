-- A state in which a name was closed, and its VMO has not left yet.
use Rattle.std.specs.Prelude.{◌≡◌, ℕ, Some}
use Rattle.vm_base.specs.Entries.{without_key}
use Rattle.source_model.specs.State.{SourceState}
use Rattle.source_model.specs.Good.{IsGoodSources}

-- From a good state the name of the VMO v was closed, and nothing else was done.
pub record IsUnnamed (s : SourceState) (v : ℕ) : Type 0 where
  pub before : SourceState
  pub name : ℕ
  pub good : IsGoodSources before
  pub named : before.names name ≡ Some v
  pub is : s ≡ record before { names = without_key before.names name }
