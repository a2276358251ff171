-- How far a checker has come in a transcript.
use Rattle.std.specs.Prelude.{◌≡◌, ◌≢◌, ℕ, ◌+◌, ◌≤◌, ◌<◌, List, [], ◌∷◌, ◌++◌, length, map, take, Option}
use Rattle.std.specs.List.{flat_map}
use Rattle.vm_model.specs.Machine.Words.{Reply}
use Rattle.vm_model.specs.Language.Reading.{reading, Blank}
use Rattle.vm_model.specs.Language.Text.{reply_lines}
use Rattle.vm_model.specs.Machine.Machine.{Machine, IsGoodMachine}
use Rattle.moving_model.specs.Moving.{MovingGives}
use Rattle.moving_model.specs.Transcript.{Told, Asked, Answered}
use Rattle.moving_model.specs.Standing.{StandsFor, AreSeen}
use Rattle.moving_model.specs.Following.{Follows, first_line}

-- The lines so far are whole turns, and the own machine, with the numbers that were seen, stands for all that they may have led to.
pub record Stands (frames : ℕ) (own : Machine) (numbers : ℕ → Option ℕ) (tells : List Told) : Type 0 where
  pub follows : Follows frames own numbers tells
  pub good : IsGoodMachine own
  pub seen : AreSeen own numbers
  pub frames_are : own.state.content.frames ≡ frames
  pub next : own.state.content.next ≤ length tells + 1

-- The last line is one of the script that is not blank, and none of its reply was told.
pub record IsDue (frames : ℕ) (own : Machine) (numbers : ℕ → Option ℕ) (pending : List ℕ) (tells : List Told) : Type 0 where
  pub before : List Told
  pub stands : Stands frames own numbers before
  pub asks : reading pending ≢ Blank
  pub is : tells ≡ before ++ Asked pending ∷ []

-- The own machine has given this reply to a pending line behind these turns, and its step is what each machine did that may have
-- told the first line of it.
pub record HasAnswered (frames : ℕ) (own : Machine) (numbers : ℕ → Option ℕ) (pending : List ℕ) (reply : Reply) (before : List Told) : Type 0 where
  pub old : Machine
  pub was : ℕ → Option ℕ
  pub stands : Stands frames old was before
  pub ends : Stands frames own numbers (before ++ Asked pending ∷ map Answered (reply_lines reply))
  pub only : (other new : Machine) (replies : List Reply) (rest : List (List ℕ)) → StandsFor old was other → MovingGives pending other replies new
      → flat_map reply_lines replies ≡ first_line reply ∷ rest → flat_map reply_lines replies ≡ reply_lines reply

-- A part of the lines of a reply was told: the first `count` of them, one at least, and not all.
pub record IsListing (frames : ℕ) (own : Machine) (numbers : ℕ → Option ℕ) (pending : List ℕ) (reply : Reply) (count : ℕ) (tells : List Told) : Type 0 where
  pub before : List Told
  pub answered : HasAnswered frames own numbers pending reply before
  pub some : 1 ≤ count
  pub left : count < length (reply_lines reply)
  pub is : tells ≡ before ++ Asked pending ∷ map Answered (take count (reply_lines reply))
