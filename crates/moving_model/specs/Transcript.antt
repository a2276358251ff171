-- A transcript: the lines of a script, each with the lines of its replies behind it. What it stands for, and what may be the
-- beginning of one, where pages move.
use Rattle.std.specs.Prelude.{◌≡◌, ℕ, ◌==◌, nat_lt, List, [], ◌∷◌, ◌++◌, length, map, codes, if◌then◌else◌, Option, None, Some}
use Rattle.std.specs.List.{flat_map}
use Rattle.vm_base.specs.declared.limits.TheConstants.{LINE_BYTES}
use Rattle.vm_model.specs.Machine.Words.{Reply}
use Rattle.vm_model.specs.Language.Text.{reply_lines}
use Rattle.vm_model.specs.Machine.Machine.{Machine, empty_machine}
use Rattle.moving_model.specs.Moving.{MovingGives}

-- A line of a transcript tells a line of the script, or a line of a reply. The latter has its line feed here, as replies have.
pub data Told : Type 0 where
  Asked : (line : List ℕ) → Told
  Answered : (line : List ℕ) → Told

-- what a line tells by its first two bytes, `> ` or `< `
abbrev pub told_by : List ℕ → Option Told
told_by (a ∷ b ∷ line) =
    if b == 32 then (if a == 62 then Some (Asked line) else (if a == 60 then Some (Answered (line ++ codes "\n")) else None)) else None
told_by (a ∷ []) = None
told_by [] = None

-- what a line tells, without its line feed. A line that is over the limit, or begins otherwise, is malformed: it tells nothing
unfoldable pub told : List ℕ → Option Told
told line = if nat_lt LINE_BYTES (length line) then None else told_by line

-- a line of the script, and its replies
pub record Turn : Type 0 where
  pub line : List ℕ
  pub replies : List Reply

-- what the lines of a turn tell: the line of the script, and behind it those of its replies
abbrev pub turn_told : Turn → List Told
turn_told turn = Asked turn.line ∷ map Answered (flat_map reply_lines turn.replies)

abbrev pub turns_told : List Turn → List Told
turns_told turns = flat_map turn_told turns

-- from old, the turns may lead to new, where pages move
abbrev pub Turns : Machine → List Turn → Machine → Type 0
Turns old [] new = new ≡ old
Turns old (turn ∷ turns) new = (mid : Machine) × MovingGives turn.line old turn.replies mid × Turns mid turns new

-- The lines are whole turns of a machine with this many frames and nothing else, and lead to last.
pub record IsWhole (frames : ℕ) (lines : List Told) (last : Machine) : Type 0 where
  pub turns : List Turn
  pub run : Turns (empty_machine frames) turns last
  pub is : turns_told turns ≡ lines

-- whole turns may begin with these lines
pub record MayBegin (frames : ℕ) (lines : List Told) : Type 0 where
  pub rest : List Told
  pub last : Machine
  pub whole : IsWhole frames (lines ++ rest) last

-- the script that lines tell
abbrev pub script_of : List Told → List (List ℕ)
script_of [] = []
script_of (Asked line ∷ lines) = line ∷ script_of lines
script_of (Answered line ∷ lines) = script_of lines

-- and the text of the replies
abbrev pub answers_of : List Told → List ℕ
answers_of [] = []
answers_of (Asked line ∷ lines) = answers_of lines
answers_of (Answered line ∷ lines) = line ++ answers_of lines

-- ---- lines of bytes

-- each line tells this, so none is malformed
abbrev pub AllTold : List (List ℕ) → List Told → Type 0
AllTold [] [] = Unit {0}
AllTold (line ∷ lines) (one ∷ rest) = (told line ≡ Some one) × AllTold lines rest
AllTold lines rest = ⊥

-- a transcript may begin with these lines
pub record ArePossible (frames : ℕ) (lines : List (List ℕ)) : Type 0 where
  pub tells : List Told
  pub told_are : AllTold lines tells
  pub begins : MayBegin frames tells

-- these lines are a transcript
pub record AreWhole (frames : ℕ) (lines : List (List ℕ)) : Type 0 where
  pub tells : List Told
  pub told_are : AllTold lines tells
  pub last : Machine
  pub whole : IsWhole frames tells last
