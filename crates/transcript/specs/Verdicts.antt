-- What a checker has read, and what it answers to a line.
use Rattle.std.specs.Prelude.{◌≡◌, ◌≢◌, ℕ, ◌≤◌, true, false, Bool, List, [], ◌∷◌, ◌++◌, length, None}
use Rattle.vm_base.specs.declared.limits.TheConstants.{FRAMES}
use Rattle.vm_model.specs.Machine.Machine.{empty_machine}
use Rattle.moving_model.specs.Transcript.{Told, told, MayBegin, AllTold, ArePossible}
use Rattle.checker_machine.specs.Machine.{checker_machine_of}
use Rattle.transcript.specs.declared.checker.Phase.{Phase}
use Rattle.transcript.specs.declared.checker.Phase.TheVariants.{Idle, Due, Listing}
use Rattle.transcript.specs.declared.checker.Checker.{Checker}
use Rattle.transcript.specs.declared.verdict.Verdict.{Verdict}
use Rattle.transcript.specs.declared.verdict.Verdict.TheVariants.{Fine, Illegal, Malformed}
use Rattle.transcript.specs.Checking.{Stands, IsDue, IsListing}
use Rattle.transcript.specs.Seen.{number_seen}

-- the lines so far tell this, by the phase of a checker
abbrev pub IsIn : Phase → ℕ → Checker → List Told → Type 0
IsIn Idle frames checker tells = Stands frames (checker_machine_of checker.own.machine) (number_seen checker.own.numbers) tells
IsIn Due frames checker tells = IsDue frames (checker_machine_of checker.own.machine) (number_seen checker.own.numbers) checker.pending.items tells
IsIn Listing frames checker tells =
    IsListing frames (checker_machine_of checker.own.machine) (number_seen checker.own.numbers) checker.pending.items checker.listed checker.count tells

-- the same, by whether the checker has its frames. It takes them at the first line
abbrev pub HasTold : Bool → ℕ → Checker → List Told → Type 0
HasTold true frames checker tells = (length checker.own.numbers ≡ frames) × IsIn checker.phase frames checker tells
HasTold false frames checker tells = (tells ≡ []) × (checker_machine_of checker.own.machine ≡ empty_machine 0) × (checker.phase ≡ Idle)

-- The checker is of a machine with this many frames, and the lines so far tell this.
pub record IsAt (frames : ℕ) (checker : Checker) (tells : List Told) : Type 0 where
  pub some : 1 ≤ frames
  pub few : frames ≤ FRAMES
  pub frames_are : checker.frames ≡ frames
  pub has_told : HasTold checker.filled frames checker tells

-- A checker of transcripts on a machine with this many frames has read these lines, and a transcript may begin with them.
pub record HasRead (frames : ℕ) (checker : Checker) (lines : List (List ℕ)) : Type 0 where
  pub tells : List Told
  pub told_are : AllTold lines tells
  pub is_at : IsAt frames checker tells

-- what is said of a line that tells this, and what the checker has read then
abbrev pub IsJudged : ℕ → Checker → List Told → Told → Verdict → Type 0
IsJudged frames new tells one Fine = IsAt frames new (tells ++ one ∷ [])
IsJudged frames new tells one Illegal = MayBegin frames (tells ++ one ∷ []) → ⊥
IsJudged frames new tells one Malformed = ⊥

-- What a verdict says of a line behind lines that were read, on a machine with this many frames: a transcript may begin so; none
-- does, though the line has the form of one; or it has not.
abbrev pub IsVerdict : ℕ → List (List ℕ) → List ℕ → Verdict → Type 0
IsVerdict frames lines line Fine = ArePossible frames (lines ++ line ∷ [])
IsVerdict frames lines line Illegal = (told line ≢ None) × (ArePossible frames (lines ++ line ∷ []) → ⊥)
IsVerdict frames lines line Malformed = told line ≡ None
