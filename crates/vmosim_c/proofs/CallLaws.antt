-- What the clause of a line says where it was done, and where the machine is closed.
use Rattle.std.proofs.Common.{◌≡◌, ℕ, List, Option, Some, None, Result, Ok, Err, refl, sym, ap, subst, ◌∙◌}
use Rattle.vm_session.specs.Plain.{plain}
use Rattle.held_vm.specs.declared.held.AnswerError.{AnswerError}
use Rattle.held_vm.specs.declared.held.AnswerError.TheVariants.{OutOfRoom, OutOfKoids}
use Rattle.held_vm.specs.declared.told.TheConstants.{DONE, CLOSED}
use Rattle.held_vm.specs.declared.told.Answered.{Answered}
use Rattle.held_vm.specs.Held.{Answers}
use Rattle.held_vm.specs.Told.{line_told}
use Rattle.vmosim_c.specs.declared.opening.KeptVm.{KeptVm}
use Rattle.vmosim_c.specs.Kept.{machine_kept, AnswersKept}
use Rattle.vmosim_c.specs.Calls.{LineSays, IsDone}

-- what was told as done is a whole reply
is_whole : (r : Option (Result ℕ AnswerError)) (n : ℕ) → (line_told r).status ≡ DONE → (line_told r).len ≡ n → r ≡ Some (Ok n)
is_whole None n is same = absurd cc
is_whole (Some (Ok m)) n is same = ap (λ k. Some (Ok k)) same
is_whole (Some (Err OutOfRoom)) n is same = absurd cc
is_whole (Some (Err OutOfKoids)) n is same = absurd cc

done_by : (r : Option (Result ℕ AnswerError)) (n : ℕ) (line : List ℕ) (old new : Option KeptVm) (before after : List ℕ)
    → r ≡ Some (Ok n) → AnswersKept r line old new before after → IsDone n line old new after
done_by r n line None new before after is says = absurd cc
done_by r n line (Some was) new before after is (now, is_kept, told, same, answers) =
    let whole : told ≡ Ok n = cc in
    record {
      was = was;
      was_kept = refl;
      now = now;
      is_kept = is_kept;
      gives = (subst (λ t. Answers plain t line (machine_kept was) (machine_kept now) before after) whole answers).gives;
    }

pub is_done : (a : Answered) (line : List ℕ) (old new : Option KeptVm) (before after : List ℕ)
    → LineSays a line old new before after → a.status ≡ DONE → IsDone a.len line old new after
is_done a line old new before after (r, told, kept) is =
    let status = ap (λ (x : Answered). x.status) (sym told) ∙ is in
    done_by r a.len line old new before after (is_whole r a.len status (ap (λ (x : Answered). x.len) (sym told))) kept

pub is_closed : (a : Answered) (line : List ℕ) (old new : Option KeptVm) (before after : List ℕ)
    → LineSays a line old new before after → old ≡ None → a.status ≡ CLOSED
is_closed a line None new before after (r, told, kept) same = ap (λ (x : Answered). x.status) told ∙ ap (λ o. (line_told o).status) kept.0
is_closed a line (Some was) new before after says same = absurd cc
