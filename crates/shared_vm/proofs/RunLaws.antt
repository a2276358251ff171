-- A run of deeds, and one deed more.
use Rattle.std.proofs.Common.{◌≡◌, ◌≢◌, ℕ, ◌+◌, ◌≤◌, List, [], ◌∷◌, ◌++◌, cond, refl, sym, ap, subst, append_assoc, append-nil, arith}
use Rattle.vm_base.proofs.SearchLaws.{eqb_apart}
use Rattle.vm_base.specs.declared.refusal.Refusal.TheVariants.{Syntax}
use Rattle.vm_model.specs.Machine.Words.{Command, Reply}
use Rattle.vm_model.specs.declared.reply.Reply.TheVariants.{Refused}
use Rattle.vm_model.specs.Machine.Machine.{Machine}
use Rattle.vm_model.specs.Machine.MachineStep.{MachineStep}
use Rattle.shared_vm.specs.declared.task.Task.{Task}
use Rattle.shared_vm.specs.declared.task.Deed.{Deed}
use Rattle.shared_vm.specs.Tasks.{Lists}
use Rattle.shared_vm.specs.Journal.{one_by, done_by, DoesTask, IsNextTask, RunsOn}

pub done_by-more : (actor : ℕ) (deeds : List Deed) (deed : Deed) → done_by actor (deeds ++ deed ∷ []) ≡ done_by actor deeds + one_by actor deed
done_by-more actor [] deed = omega arith
done_by-more actor (d ∷ deeds) deed = omega (arith, done_by-more actor deeds deed)

pub one_by-own : (actor : ℕ) (reply : Reply) → one_by actor (record { actor = actor; reply = reply }) ≡ 1
one_by-own actor reply = grind arith

pub one_by-other : (actor by : ℕ) (reply : Reply) → by ≢ actor → one_by actor (record { actor = by; reply = reply }) ≡ 0
one_by-other actor by reply ne = ap (λ t. cond t 1 0) (eqb_apart by actor ne)

-- a run, and the next task of an actor
pub RunsOn-more : (lists : Lists) (earlier : List Deed) (old mid last : Machine) (deeds : List Deed) (deed : Deed) (task : Task)
    → RunsOn lists earlier old deeds mid → deed.actor ≤ 3 → IsNextTask lists (earlier ++ deeds) deed task → DoesTask task deed.reply mid last
    → RunsOn lists earlier old (deeds ++ deed ∷ []) last
RunsOn-more lists earlier old mid last [] deed task run le next does = (
  task,
  last,
  le,
  subst (λ (ds : List Deed). IsNextTask lists ds deed task) (append-nil earlier) next,
  subst (λ (m : Machine). DoesTask task deed.reply m last) run does,
  refl,
)
RunsOn-more lists earlier old mid last (d ∷ deeds) deed task run le next does = (
  run.0,
  run.1,
  run.2,
  run.3,
  run.4,
  RunsOn-more lists (earlier ++ d ∷ []) run.1 mid last deeds deed task run.5 le
      (subst (λ (ds : List Deed). IsNextTask lists ds deed task) (sym (append_assoc earlier (d ∷ []) deeds)) next) does,
)

-- the task of a line does what its command does, or is refused
pub does_order : (task : Task) (order : Command) (reply : Reply) (old new : Machine) → Task.Order order ≡ task → MachineStep old order reply new → DoesTask task reply old new
does_order task order reply old new e step = subst (λ (t : Task). DoesTask t reply old new) e step

pub does_outside : (task : Task) (old : Machine) → Task.Outside ≡ task → DoesTask task (Refused Syntax) old old
does_outside task old e = subst (λ (t : Task). DoesTask t (Refused Syntax) old old) e (refl, refl)
