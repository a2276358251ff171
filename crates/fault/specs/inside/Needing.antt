-- The room for a write.
use Rattle.std.specs.Prelude.{◌≡◌, ℕ, ◌+◌, ◌<◌, ◌≤◌, ◌⊎◌}
use Rattle.vm_base.specs.declared.refusal.Refusal.{Refusal}
use Rattle.vm_base.specs.declared.refusal.Refusal.TheVariants.{NoMemory, HostMemory}
use Rattle.vm_model.specs.Contents.Content.{Content, used}

-- as many frames fit in with those in use as with the other count
pub record FitsAs (c : Content) (count need : ℕ) : Type 0 where
  pub enough : used c + count ≤ c.frames → used c + need ≤ c.frames
  pub lack : c.frames < used c + count → c.frames < used c + need

-- So many frames are free, and a store and the translations have room for so many page faults.
pub record HasRoomToWrite (c : Content) (need faults rows places : ℕ) : Type 0 where
  pub free : used c + need ≤ c.frames
  pub rows_fit : faults ≤ rows
  pub places_fit : faults ≤ places

-- Why a write has no room that needs so many frames and takes so many page faults: too few frames are free, or the host
-- lacks memory.
abbrev pub LacksRoomToWrite : Content → (need faults : ℕ) → Refusal → Type 0
LacksRoomToWrite c need faults refusal =
    ((c.frames < used c + need) × (refusal ≡ NoMemory)) ⊎ ((used c + need ≤ c.frames) × (refusal ≡ HostMemory) × (0 < faults))
