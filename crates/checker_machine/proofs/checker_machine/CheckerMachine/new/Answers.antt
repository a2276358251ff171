use Rattle.std.proofs.Common.{◌≡◌, ap, ◌∙◌}
use Rattle.vm_model.specs.Machine.Machine.{empty_machine}
use Rattle.checker_ready.specs.Notes.{rows_of}
use Rattle.checker_machine.specs.Machine.{CheckerParts, checker_machine_of}
use Rattle.checker_machine.proofs.StartLaws.{checker_machine_of-start, empty_sound}
use Rattle.checker_machine.proofs.checker_machine.CheckerMachine.new.Goals as goal

-- what is made
abbrev made : goal.After-new-3 → CheckerParts
made c = record { pages = c.new.result; machine = c.new-3.result }

start : (c : goal.After-new-3) → checker_machine_of (made c) ≡ empty_machine 0
start c = checker_machine_of-start (made c) c.new.ensures.content c.new-3.ensures.bare (ap rows_of c.new-3.ensures.ready ∙ c.new-2.ensures.rows)

pub invariant_of-result : goal.invariant_of-result
invariant_of-result c = empty_sound (made c) 0 (start c)

pub returns-clause-empty : goal.returns-clause-empty
returns-clause-empty c = start c

pub returns-clause-good : goal.returns-clause-good
unfolding checker_machine_of
returns-clause-good c = (empty_sound (made c) 0 (start c)).good
