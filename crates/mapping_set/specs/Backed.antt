-- The entries of address spaces, and the VMOs that they show.
use Rattle.std.specs.Prelude.{◌≡◌, ℕ, Option, Some, IsSome}
use Rattle.vm_model.specs.declared.space.Entry.{Entry}
use Rattle.vm_model.specs.Contents.Content.{Content, IsGood}

-- The content is a good one, and each entry shows a VMO of it.
pub record AreBacked (c : Content) (table : ℕ → ℕ → Option Entry) : Type 0 where
  pub good : IsGood c
  pub vmos : (root p : ℕ) (entry : Entry) → table root p ≡ Some entry → IsSome (c.count entry.koid.0)
