-- Two pages of an address space, one behind the other, as a write finds them.
use Rattle.std.specs.Prelude.{◌≡◌, ℕ, ◌+◌, ◌≤◌, Bool, [], ◌∷◌, Option, None}
use Rattle.vm_base.specs.declared.refusal.Refusal.{Refusal}
use Rattle.vm_model.specs.declared.space.Entry.{Entry}
use Rattle.vm_model.specs.Contents.Content.{Content, used, IsGood}
use Rattle.vm_model.specs.Contents.Owning.{need_each}
use Rattle.vm_model.specs.Machine.Access.{page_shown, refusal_at}
use Rattle.vm_model.specs.Machine.Refusals.{write_refusals}
use Rattle.vm_model.specs.Space.Rights.{writing}
use Rattle.fault.specs.declared.writable.WritablePage.{WritablePage}
use Rattle.fault.specs.Table.{Places, AreTrue}
use Rattle.ready_pages.specs.Access.{IsDenied}
use Rattle.fault.specs.inside.Writable.{IsWritable}

-- what a check for writing finds of page p, which may be written
abbrev pub FindsWritable : Content → (ℕ → ℕ → Option Entry) → Places → (root p : ℕ) → WritablePage → Type 0
FindsWritable c table places root p page = IsWritable c table places root p page × (refusal_at c writing (table root p) ≡ None)

-- page p or the one behind it refuses a write with this refusal, which comes before every other
abbrev pub RefusesTwo : Content → (ℕ → ℕ → Option Entry) → (root p : ℕ) → Refusal → Type 0
RefusesTwo c table root p refusal = (wants : Bool) → IsDenied (write_refusals c (table root) (p ∷ (p + 1) ∷ [])) wants refusal

-- page p and the one behind it may be written, and the frames are free that both need
pub record AreFound (c : Content) (table : ℕ → ℕ → Option Entry) (places : Places) (root p : ℕ) (first second : WritablePage) : Type 0 where
  pub good : IsGood c
  pub are : AreTrue c table places
  pub first_is : IsWritable c table places root p first
  pub first_may : refusal_at c writing (table root p) ≡ None
  pub second_is : IsWritable c table places root (p + 1) second
  pub second_may : refusal_at c writing (table root (p + 1)) ≡ None
  pub frames : used c + need_each c (page_shown first.entry ∷ page_shown second.entry ∷ []) ≤ c.frames
