-- The plain machine, as one that answers the lines of a script by text.
use Rattle.std.specs.Prelude.{◌≡◌, ℕ, List}
use Rattle.vm_model.specs.Machine.Words.{Reply}
use Rattle.vm_model.specs.Machine.Machine.{Machine, IsGoodMachine, empty_machine}
use Rattle.vm_model.specs.Language.Text.{texts}
use Rattle.vm_model.specs.Scripts.Run.{Gives}
use Rattle.line_server.specs.Answering.{Answering}

-- from old, the line may give replies of this text and lead to new
pub record GivesText (line : List ℕ) (old : Machine) (out : List ℕ) (new : Machine) : Type 0 where
  pub replies : List Reply
  pub gives : Gives line old replies new
  pub text : out ≡ texts replies

-- The plain machine. A run of it in which lines are answered by a text is a legal run (
-- `answered_lines_are_a_legal_run`).
abbrev pub plain : Answering Machine
plain = record { start = empty_machine; content = λ s. s.state.content; IsGood = IsGoodMachine; Gives = GivesText }
