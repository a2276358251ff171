-- What a pin of a range of a name takes.
use Rattle.std.specs.Prelude.{◌≡◌, ℕ, ◌+◌, ◌*◌, ◌/◌, ◌%◌, ◌≤◌}
use Rattle.vm_base.specs.declared.limits.TheConstants.{PAGE, PIN_PAGES}
use Rattle.vm_model.specs.Contents.Content.{Content, used}
use Rattle.vm_model.specs.Contents.Owning.{need}
use Rattle.vm_model.specs.Contents.Writing.{touched}
use Rattle.vm_model.specs.declared.names.Target.{Target}
use Rattle.vm_model.specs.Naming.Pins.{Pin}
use Rattle.vmo_ops.specs.Costs.{AsksToOwn}
use Rattle.vmo_ops.specs.Targets.{IsPlaced}

-- a range of whole pages, from 1 to PIN_PAGES of them
abbrev pub IsPinRange : ℕ → ℕ → Type 0
IsPinRange offset len = (offset % PAGE ≡ 0) × (len % PAGE ≡ 0) × (1 ≤ len) × (len ≤ PIN_PAGES * PAGE)

-- the pin of the pages of a range of a VMO
abbrev pub pin_in : ℕ → ℕ → ℕ → Pin
pin_in v at len = record { koid = v; first = at / PAGE; count = len / PAGE }

-- a pin of a range of a name, at this place in its VMO, may take the pages: the frames are free, and room is asked for
-- this many rows
pub record IsPinnable (c : Content) (target : Target) (offset len at rows : ℕ) : Type 0 where
  pub range : IsPinRange offset len
  pub placed : IsPlaced c target offset len at
  pub asked : AsksToOwn c target.koid.0 (touched at len) rows
  pub frames : used c + need c target.koid.0 (touched at len) ≤ c.frames
