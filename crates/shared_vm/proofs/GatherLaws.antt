-- An input that is read line by line.
use Rattle.std.proofs.Common.{◌≡◌, ℕ, ◌+◌, ◌<◌, ◌≤◌, List, [], ◌∷◌, length, Option, Result, Ok, Err, sym, ap, subst, ◌∙◌, arith}
use Rattle.std.specs.Prelude.{OnOk, MatchResult}
use Rattle.script_io.specs.declared.status.Status.{Status}
use Rattle.script_io.specs.declared.status.Status.TheVariants.{Done, Usage, HostMemory, ReadFault, WriteFault, ScriptLimit}
use Rattle.vm_base.specs.declared.limits.TheConstants.{LINE_BYTES, INPUT_BYTES}
use Rattle.vm_model.specs.Scripts.Run.{lines_of}
use Rattle.line_server.specs.Reading.{TakesAll, ReadsAs}
use Rattle.shared_vm.specs.declared.task.Task.{Task}
use Rattle.shared_vm.specs.Tasks.{Lists, no_tasks, task_count, with_task, with_line, with_lines}
use Rattle.shared_vm.specs.Gathering.{gathering, EndsReading, Gathers, lists_or_status}
use Rattle.shared_vm.proofs.TaskLaws.{count-line, with_line-long}

-- ---- one line

pub added : {T E : Type 0} (old new : Lists) (line : List ℕ) (result : Result T E) → OnOk result (new ≡ with_line old line) →
    MatchResult result (λ x. new ≡ with_line old line) (λ e. Unit {0})
added old new line (Ok x) e = e
added old new line (Err x) e = tt

pub added-long : {T E : Type 0} (old new : Lists) (line : List ℕ) (result : Result T E) → LINE_BYTES < length line → OnOk result (new ≡ with_task old 0 Task.Outside) →
    MatchResult result (λ x. new ≡ with_line old line) (λ e. Unit {0})
added-long old new line (Ok x) long e = e ∙ sym (with_line-long old line long)
added-long old new line (Err x) long e = tt

pub counted : {T E : Type 0} (old new : Lists) (line : List ℕ) (result : Result T E) → MatchResult result (λ x. new ≡ with_line old line) (λ e. Unit {0}) →
    OnOk result (Unit {0} × (task_count new + 1 ≤ task_count old + 1 + 1))
counted old new line (Ok x) e = (tt, (omega (arith, subst (λ (l : Lists). task_count l ≤ task_count old + 1) (sym e) (count-line old line))))
counted old new line (Err x) e = tt

-- ---- all lines

gathered : (old new : Lists) (lines : List (List ℕ)) → TakesAll gathering old lines new → new ≡ with_lines old lines
gathered old new [] all = all
gathered old new (line ∷ lines) all = gathered all.0 new lines all.2 ∙ ap (λ (m : Lists). with_lines m lines) all.1

lists_or_status-at : {E : Type 0} (end : Result Status E) (source_old source_new : Option (List ℕ)) (old new : Lists) → old ≡ no_tasks →
    ReadsAs gathering end INPUT_BYTES source_old source_new old new →
    MatchResult (lists_or_status end new) (λ l. Gathers l source_old source_new) (λ s. EndsReading s source_old source_new)
lists_or_status-at (Ok Done) source_old source_new old new none h = record {
  script = h.script;
  given = h.given;
  ended = h.ended;
  short = h.short;
  answers = gathered old new (lines_of h.script) h.answers ∙ ap (λ (m : Lists). with_lines m (lines_of h.script)) none;
}
lists_or_status-at (Ok Usage) source_old source_new old new none h = absurd h
lists_or_status-at (Ok HostMemory) source_old source_new old new none h = absurd h
lists_or_status-at (Ok ReadFault) source_old source_new old new none h = record { script = h.script; given = h.given; short = h.short; answers = tt }
lists_or_status-at (Ok WriteFault) source_old source_new old new none h = absurd h
lists_or_status-at (Ok ScriptLimit) source_old source_new old new none h = record { script = h.script; given = h.given; long = h.long; answers = tt }
lists_or_status-at (Err error) source_old source_new old new none h = record { script = h.script; given = h.given; short = h.short }

pub lists_or_status-gathers : {E : Type 0} (end : Result Status E) (from : ℕ) (source_old source_new : Option (List ℕ)) (old new : Lists) → from ≡ INPUT_BYTES → old ≡ no_tasks →
    ReadsAs gathering end from source_old source_new old new →
    MatchResult (lists_or_status end new) (λ l. Gathers l source_old source_new) (λ s. EndsReading s source_old source_new)
lists_or_status-gathers end from source_old source_new old new same none h =
    lists_or_status-at end source_old source_new old new none (subst (λ n. ReadsAs gathering end n source_old source_new old new) same h)
