use Rattle.std.proofs.Common.{◌≡◌, ◌≤◌, length}
use Rattle.vm_model.specs.Language.Reading.{words}
use Rattle.script_text.proofs.words.behind_blanks.Given as goal

abbrev pub invariant-loop-rest : goal.invariant-loop-rest
invariant-loop-rest l = (words l.rest ≡ words l.fn.line) × (length l.rest ≤ length l.fn.line)

abbrev pub decreases-loop-rest : goal.decreases-loop-rest
decreases-loop-rest l = length l.rest
