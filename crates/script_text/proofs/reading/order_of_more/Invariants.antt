use Rattle.std.proofs.Common.{◌≡◌, ◌∷◌, ◌++◌, length, map}
use Rattle.vm_model.specs.Language.Reading.{words}
use Rattle.script_text.proofs.reading.order_of_more.Given as goal

abbrev pub invariant-loop-argument : goal.invariant-loop-argument
invariant-loop-argument l = map (λ a. a.now) l.arguments.items ++ words l.left ≡ l.fn.first ∷ l.fn.second ∷ words l.fn.rest

abbrev pub decreases-loop-argument : goal.decreases-loop-argument
decreases-loop-argument l = length l.left
