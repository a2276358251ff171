-- What a reply line is to a reply that the own machine gave.
use Rattle.std.specs.Prelude.{◌≡◌, ◌≢◌, ℕ, ◌^◌, ◌<◌, ◌≤◌, Bool, true, false, List, [], ◌∷◌, ◌++◌, length, Option}
use Rattle.std.specs.List.{AllByRecursion}
use Rattle.vm_base.specs.declared.limits.TheConstants.{FRAMES, PIN_PAGES}
use Rattle.vm_model.specs.Machine.Words.{Reply}
use Rattle.vm_model.specs.declared.reply.Reply.TheVariants as Reply
use Rattle.vm_model.specs.Language.Text.{reply_lines}
use Rattle.moving_model.specs.Transcript.{Told, Asked, Answered}
use Rattle.moving_model.specs.Standing.{may_tell, with_seen}
use Rattle.moving_model.specs.Following.{MayAnswer, first_line}
use Rattle.checker_machine.specs.Machine.{checker_machine_of}
use Rattle.transcript.specs.Checking.{Stands, HasAnswered}
use Rattle.transcript.specs.Seen.{number_seen}
use Rattle.transcript.specs.declared.answering.Heard.{Heard}
use Rattle.transcript.specs.declared.answering.Heard.TheVariants.{Ends, Begins, Never}
use Rattle.transcript.specs.declared.answering.Own.{Own}

-- the line is the whole reply, or the first of its runs, or neither
abbrev pub Hears : Reply → List ℕ → Heard → Type 0
Hears reply line Ends = reply_lines reply ≡ line ∷ []
Hears reply line (Begins runs) = (reply ≡ Reply.Runs runs) × (first_line reply ≡ line) × (1 ≤ length runs)
Hears reply line Never = first_line reply ≢ line

-- nothing changed
pub record IsSame (old new : Own) : Type 0 where
  pub machine : checker_machine_of new.machine ≡ checker_machine_of old.machine
  pub numbers : new.numbers ≡ old.numbers

-- ---- a reply line that is due

-- the own machine and its numbers, behind whole turns
pub record OwnStands (frames : ℕ) (own : Own) (tells : List Told) : Type 0 where
  pub stands : Stands frames (checker_machine_of own.machine) (number_seen own.numbers) tells
  pub size : length own.numbers ≡ frames
  pub few : frames ≤ FRAMES

-- What a reply line is to the line of the script that waits for it: its whole reply, the first of runs of which there is one at
-- least, or one that never comes.
abbrev pub IsHeard : (frames : ℕ) (old new : Own) (pending : List ℕ) (before : List Told) (line : List ℕ) → Heard → Type 0
IsHeard frames old new pending before line Ends = OwnStands frames new (before ++ Asked pending ∷ Answered line ∷ [])
IsHeard frames old new pending before line (Begins runs) =
    HasAnswered frames (checker_machine_of new.machine) (number_seen new.numbers) pending (Reply.Runs runs) before
    × (first_line (Reply.Runs runs) ≡ line) × (1 ≤ length runs) × (length new.numbers ≡ frames)
IsHeard frames old new pending before line Never = MayAnswer (checker_machine_of old.machine) (number_seen old.numbers) pending line → ⊥

-- Whether a line tells numbers that these frames of a pin may have, after the numbers `was`. If so, they are seen then.
abbrev pub AreHeard : (bound : ℕ) (was later : ℕ → Option ℕ) (frames line : List ℕ) → Bool → Type 0
AreHeard bound was later frames line true =
    (told : List ℕ) × (reply_lines (Reply.Pins told) ≡ line ∷ []) × (may_tell bound was frames told ≡ true) × (later ≡ with_seen was frames told)
AreHeard bound was later frames line false =
    (told : List ℕ) → length told ≤ PIN_PAGES → AllByRecursion (λ n. n < 2 ^ 64) told → first_line (Reply.Pins told) ≡ line → may_tell bound was frames told ≡ false
