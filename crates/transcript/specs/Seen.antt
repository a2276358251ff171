-- Which numbers that were seen are forgotten.
use Rattle.std.specs.Prelude.{◌≡◌, ℕ, ◌==◌, true, List, length, get_or, Option, None, Some}
use Rattle.std.specs.List.{AllByRecursion, list_any}
use Rattle.vm_model.specs.Machine.Words.{Command}
use Rattle.vm_model.specs.declared.command.Command.TheVariants.{VmoUnpin}
use Rattle.vm_model.specs.Machine.Machine.{Machine}
use Rattle.checker_machine.specs.Machine.{HasPinnedFrame, pinned_frame}

-- the numbers that were seen, as a map from own frames
abbrev pub number_seen : List (Option ℕ) → ℕ → Option ℕ
number_seen seen frame = get_or seen frame None

-- These are all frames of the pin with this name.
abbrev pub HasFrames : Machine → ℕ → List ℕ → Type 0
HasFrames m pin frames = (at frame : ℕ) → pinned_frame m.state (m.state.pins pin) at ≡ Some frame → list_any (λ x. x == frame) frames ≡ true

-- These are all frames of a pin that the command takes away.
abbrev pub Frees : Machine → Command → List ℕ → Type 0
Frees m (VmoUnpin pin) freed = HasFrames m pin.0 freed
Frees m command freed = Unit {0}

-- Of the numbers, those of these frames are gone that no pinned page has.
pub record IsCleared (m : Machine) (was later : ℕ → Option ℕ) (freed : List ℕ) : Type 0 where
  pub sub : (frame k : ℕ) → later frame ≡ Some k → was frame ≡ Some k
  pub kept : (frame : ℕ) → HasPinnedFrame m frame → later frame ≡ was frame
  pub gone : AllByRecursion (λ frame. (k : ℕ) → later frame ≡ Some k → HasPinnedFrame m frame) freed

-- The numbers of frames, and the frames of numbers: each list says the same.
pub record AreInverse (told frames : List (Option ℕ)) : Type 0 where
  pub size : length frames ≡ length told
  pub there : (frame k : ℕ) → number_seen told frame ≡ Some k → number_seen frames k ≡ Some frame
  pub back : (frame k : ℕ) → number_seen frames k ≡ Some frame → number_seen told frame ≡ Some k
