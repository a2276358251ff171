use Rattle.std.proofs.Common.{◌≡◌, ◌++◌, length, map}
use Rattle.vm_model.specs.Language.Reading.{words}
use Rattle.source_vm.proofs.reading.order.Given as goal

abbrev pub invariant-loop-word : goal.invariant-loop-word
invariant-loop-word l = map (λ w. w.now) l.found.items ++ words l.rest ≡ words l.fn.line

abbrev pub decreases-loop-word : goal.decreases-loop-word
decreases-loop-word l = length l.rest
