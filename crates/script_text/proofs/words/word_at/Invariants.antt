use Rattle.std.proofs.Common.{◌-◌, length}
use Rattle.script_text.proofs.Places.{IsPassed}
use Rattle.script_text.proofs.words.word_at.Given as goal

abbrev pub invariant-loop-start : goal.invariant-loop-start
invariant-loop-start l = IsPassed l.line l.index l.left l.passed

abbrev pub decreases-loop-start : goal.decreases-loop-start
decreases-loop-start l = length l.line - l.passed
