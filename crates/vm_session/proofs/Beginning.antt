-- The first koid of a workload.
use Rattle.std.proofs.Common.{◌≡◌, ℕ, ap, ◌∙◌}
use Rattle.vm_model.specs.Machine.Machine.{Machine, empty_machine}
use Rattle.vm_model.proofs.StepLaws.{next-empty}

-- the first koid of an empty machine
pub first_koid : (frames : ℕ) (now : Machine) → now ≡ empty_machine frames → now.state.content.next ≡ 1
unfolding empty_machine
first_koid frames now e = ap (λ (m : Machine). m.state.content.next) e ∙ next-empty frames
