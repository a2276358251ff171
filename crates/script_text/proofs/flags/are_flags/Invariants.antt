use Rattle.std.proofs.Common.{◌≡◌, length, map}
use Rattle.vm_model.specs.Language.Reading.{are_flags}
use Rattle.script_text.proofs.flags.are_flags.Given as goal

abbrev pub invariant-loop-rest : goal.invariant-loop-rest
invariant-loop-rest l = are_flags (map (λ w. w.now) l.known) (map (λ w. w.now) l.rest)
    ≡ are_flags (map (λ w. w.now) l.known) (map (λ w. w.now) l.words)

abbrev pub decreases-loop-rest : goal.decreases-loop-rest
decreases-loop-rest l = length l.rest
