use Rattle.std.proofs.Common.{◌≡◌, length, map}
use Rattle.vm_model.specs.Language.Reading.{stands}
use Rattle.script_text.proofs.flags.stands.Given as goal

abbrev pub invariant-loop-rest : goal.invariant-loop-rest
invariant-loop-rest l = stands l.word (map (λ w. w.now) l.rest) ≡ stands l.word (map (λ w. w.now) l.words)

abbrev pub decreases-loop-rest : goal.decreases-loop-rest
decreases-loop-rest l = length l.rest
