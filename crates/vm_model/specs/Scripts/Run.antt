-- Running a script: its lines, one after another.
use Rattle.std.specs.Prelude.{◌≡◌, ℕ, ◌==◌, List, [], ◌∷◌, ◌++◌, if◌then◌else◌}
use Rattle.vm_base.specs.declared.refusal.Refusal.TheVariants.{Syntax}
use Rattle.vm_model.specs.Machine.Words.{Reply}
use Rattle.vm_model.specs.declared.reply.Reply.TheVariants.{Refused}
use Rattle.vm_model.specs.Machine.Machine.{Machine, empty_machine}
use Rattle.vm_model.specs.Machine.MachineStep.{MachineStep}
use Rattle.vm_model.specs.Language.Reading.{Reading, Blank, Order, Outside, reading}
use Rattle.vm_model.specs.Language.Text.{texts}

-- a byte before the first line, or a line of its own
abbrev pub onto_first : ℕ → List (List ℕ) → List (List ℕ)
onto_first b [] = (b ∷ []) ∷ []
onto_first b (line ∷ lines) = (b ∷ line) ∷ lines

-- the lines of a script: each ends with a line feed, and a last piece that is not empty is a line too
unfoldable pub lines_of : List ℕ → List (List ℕ)
lines_of [] = []
lines_of (b ∷ bs) = if b == 10 then [] ∷ lines_of bs else onto_first b (lines_of bs)

-- a byte before the first line, if there is one
abbrev pub before_whole : ℕ → List (List ℕ) → List (List ℕ)
before_whole b [] = []
before_whole b (line ∷ lines) = (b ∷ line) ∷ lines

-- the lines of a script that a line feed ends: a last piece without one is no line
unfoldable pub whole_lines : List ℕ → List (List ℕ)
whole_lines [] = []
whole_lines (b ∷ bs) = if b == 10 then [] ∷ whole_lines bs else before_whole b (whole_lines bs)

-- what a line that is read so may give: a blank line gives no reply, a line outside the grammar its refusal, and a
-- command one step
abbrev pub GivesAs : Reading → Machine → List Reply → Machine → Type 0
GivesAs Blank old replies new = (replies ≡ []) × (new ≡ old)
GivesAs (Order command) old replies new = (reply : Reply) × (replies ≡ reply ∷ []) × MachineStep old command reply new
GivesAs Outside old replies new = (replies ≡ Refused Syntax ∷ []) × (new ≡ old)

-- from old, the line may give these replies and lead to new
pub record Gives (line : List ℕ) (old : Machine) (replies : List Reply) (new : Machine) : Type 0 where
  pub answer : GivesAs (reading line) old replies new

-- from old, the lines may give these replies and lead to new
abbrev pub Run : Machine → List (List ℕ) → List Reply → Machine → Type 0
Run old [] replies new = (replies ≡ []) × (new ≡ old)
Run old (line ∷ lines) replies new =
    (mid : Machine) × (now later : List Reply) × Gives line old now mid × Run mid lines later new × (replies ≡ now ++ later)

-- On a machine with this many frames and nothing else, the lines may be answered by this text and lead to last.
pub record Legal (frames : ℕ) (lines : List (List ℕ)) (out : List ℕ) (last : Machine) : Type 0 where
  pub replies : List Reply
  pub run : Run (empty_machine frames) lines replies last
  pub text : out ≡ texts replies
