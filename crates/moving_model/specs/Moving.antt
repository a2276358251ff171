-- The machine of a kernel that moves pages to other frames. After each step the pages that no pin covers may have moved.
use Rattle.std.specs.Prelude.{◌≡◌, ◌≢◌, ℕ, ◌<◌, Bool, true, false, List, [], ◌∷◌, ◌++◌, Some}
use Rattle.vm_base.specs.declared.refusal.Refusal.TheVariants.{Syntax}
use Rattle.vm_model.specs.Machine.Words.{Command, Reply}
use Rattle.vm_model.specs.declared.command.Command.TheVariants.{VmoPin, VmarAllocate, VmarMap}
use Rattle.vm_model.specs.declared.reply.Reply.TheVariants.{Refused, Pins}
use Rattle.vm_model.specs.Contents.Content.{Page, shown, is_held}
use Rattle.vm_model.specs.Naming.Pins.{is_pinned}
use Rattle.vm_model.specs.Language.Reading.{Reading, Blank, Order, Outside, reading}
use Rattle.vm_model.specs.Language.Text.{texts}
use Rattle.vm_model.specs.Machine.State.{State}
use Rattle.vm_model.specs.Machine.Machine.{Machine, empty_machine}
use Rattle.vm_model.specs.Machine.MachineStep.{MachineStep}
use Rattle.moving_model.specs.Renaming.{Renaming, KeepsFrom, KeepsPinned, machine_renamed}

-- From old, the machine may give this reply to the command, move pages that no pin covers to other frames, and be new then.
pub record MovingStep (old : Machine) (command : Command) (reply : Reply) (new : Machine) : Type 0 where
  pub mid : Machine
  pub step : MachineStep old command reply mid
  pub moves : Renaming
  pub within : KeepsFrom moves mid.state.content.frames
  pub pinned : KeepsPinned moves mid.state
  pub moved : new ≡ machine_renamed moves mid

-- The same move, page by page. Each page shows the bytes that it showed and is held where it was. Pages that had one frame have
-- one, and no others have one. All frames are frames of the machine, and pinned pages keep theirs.
pub record HasMoved (old new : State) : Type 0 where
  pub rest : new ≡ record old { content = record (old.content) { page = new.content.page } }
  pub held : (v p : ℕ) → is_held new.content v p ≡ is_held old.content v p
  pub bytes : (v p : ℕ) → shown new.content v p ≡ shown old.content v p
  pub together : (v p w q : ℕ) (a b c d : Page) → old.content.page v p ≡ Some a → old.content.page w q ≡ Some b
      → new.content.page v p ≡ Some c → new.content.page w q ≡ Some d → a.tag ≡ b.tag → c.tag ≡ d.tag
  pub apart : (v p w q : ℕ) (a b c d : Page) → old.content.page v p ≡ Some a → old.content.page w q ≡ Some b
      → new.content.page v p ≡ Some c → new.content.page w q ≡ Some d → c.tag ≡ d.tag → a.tag ≡ b.tag
  pub tags : (v p : ℕ) (held : Page) → new.content.page v p ≡ Some held → held.tag < new.content.frames
  pub pinned : (v p : ℕ) (before after : Page) → is_pinned old.pins v p ≡ true → old.content.page v p ≡ Some before
      → new.content.page v p ≡ Some after → after.tag ≡ before.tag

-- what a line that is read so may give, where pages move
abbrev pub MovingGivesAs : Reading → Machine → List Reply → Machine → Type 0
MovingGivesAs Blank old replies new = (replies ≡ []) × (new ≡ old)
MovingGivesAs (Order command) old replies new = (reply : Reply) × (replies ≡ reply ∷ []) × MovingStep old command reply new
MovingGivesAs Outside old replies new = (replies ≡ Refused Syntax ∷ []) × (new ≡ old)

-- from old, the line may give these replies and lead to new, where pages move
pub record MovingGives (line : List ℕ) (old : Machine) (replies : List Reply) (new : Machine) : Type 0 where
  pub answer : MovingGivesAs (reading line) old replies new

-- from old, the lines may give these replies and lead to new, where pages move
abbrev pub MovingRun : Machine → List (List ℕ) → List Reply → Machine → Type 0
MovingRun old [] replies new = (replies ≡ []) × (new ≡ old)
MovingRun old (line ∷ lines) replies new =
    (mid : Machine) × (now later : List Reply) × MovingGives line old now mid × MovingRun mid lines later new × (replies ≡ now ++ later)

-- On a machine with this many frames and nothing else, the lines may be answered by this text where pages move. The machine that
-- they lead to is one of many, so it is told of no one.
pub record MovingLegal (frames : ℕ) (lines : List (List ℕ)) (out : List ℕ) : Type 0 where
  pub last : Machine
  pub replies : List Reply
  pub run : MovingRun (empty_machine frames) lines replies last
  pub text : out ≡ texts replies

-- the reply tells no frames
abbrev pub TellsNoFrames : Reply → Type 0
TellsNoFrames reply = (numbers : List ℕ) → reply ≢ Pins numbers

-- the command is one whose reply tells a choice of the machine: a place, or frames
abbrev pub tells_choice : Command → Bool
tells_choice (VmoPin pin name offset len) = true
tells_choice (VmarAllocate region parent offset len flags caps) = true
tells_choice (VmarMap region offset name vmo_offset len perm flags) = true
tells_choice command = false

-- the command is one whose reply tells a place
abbrev pub tells_place : Command → Bool
tells_place (VmarAllocate region parent offset len flags caps) = true
tells_place (VmarMap region offset name vmo_offset len perm flags) = true
tells_place command = false
