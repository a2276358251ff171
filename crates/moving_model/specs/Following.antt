-- When an own machine and the numbers that were seen stand for all that a transcript so far may have led to.
use Rattle.std.specs.Prelude.{◌≡◌, ℕ, Option, List, [], ◌∷◌, ◌++◌}
use Rattle.std.specs.List.{flat_map}
use Rattle.vm_model.specs.Machine.Words.{Reply}
use Rattle.vm_model.specs.Language.Text.{reply_lines}
use Rattle.vm_model.specs.Machine.Machine.{Machine, empty_machine}
use Rattle.moving_model.specs.Moving.{MovingGives}
use Rattle.moving_model.specs.Transcript.{Told, Turn, turns_told, Turns, IsWhole}
use Rattle.moving_model.specs.Standing.{StandsFor}

-- The lines are whole turns. They may have led to exactly the machines that the own one stands for, and each whole transcript that
-- begins with them goes on from one of these.
pub record Follows (frames : ℕ) (own : Machine) (numbers : ℕ → Option ℕ) (lines : List Told) : Type 0 where
  pub some : (other : Machine) × StandsFor own numbers other
  pub reach : (other : Machine) → StandsFor own numbers other → IsWhole frames lines other
  pub only : (turns : List Turn) (last : Machine) (rest : List Told) → Turns (empty_machine frames) turns last → turns_told turns ≡ lines ++ rest
      → (later : List Turn) × (other : Machine) × StandsFor own numbers other × Turns other later last × (turns_told later ≡ rest)

-- the first of lines, and that of a reply
abbrev pub first_of_lines : List (List ℕ) → List ℕ
first_of_lines [] = []
first_of_lines (line ∷ lines) = line

abbrev pub first_line : Reply → List ℕ
first_line reply = first_of_lines (reply_lines reply)

-- A reply line that may come is the first of replies of a machine that the own one stands for.
pub record MayAnswer (own : Machine) (numbers : ℕ → Option ℕ) (line first : List ℕ) : Type 0 where
  pub other : Machine
  pub stands : StandsFor own numbers other
  pub replies : List Reply
  pub new : Machine
  pub gives : MovingGives line other replies new
  pub lines : List (List ℕ)
  pub begins : flat_map reply_lines replies ≡ first ∷ lines
