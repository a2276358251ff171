-- A room, and one turn more.
use Rattle.std.proofs.Common.{◌≡◌, ℕ, ◌+◌, ◌≤◌, ◌==◌, true, false, List, [], ◌∷◌, ◌++◌, length, Some, refl, sym, subst, arith}
use Rattle.std.specs.Prelude.{slice_get}
use Rattle.std.proofs.lemmas.Bool.{eqb-true, eqb-false}
use Rattle.std.proofs.lemmas.List.{length_push}
use Rattle.std.proofs.lemmas.Option.{slice_get_within}
use Rattle.vm_model.specs.Contents.Content.{Content}
use Rattle.vm_model.specs.Machine.Words.{Reply}
use Rattle.vm_core.specs.Vm.{Parts, Agrees, machine_of}
use Rattle.shared_vm.specs.declared.counts.Counts.{Counts}
use Rattle.shared_vm.specs.declared.task.Task.{Task}
use Rattle.shared_vm.specs.declared.task.Deed.{Deed}
use Rattle.shared_vm.specs.Tasks.{Lists, tasks_of}
use Rattle.shared_vm.specs.Journal.{done_by, Spare, Suffices, Leaves, DoesTask, JournalRun}
use Rattle.shared_vm.specs.inside.Asking.{bytes_asked, numbers_asked, left_asked}
use Rattle.shared_vm.specs.Rooms.{Session, IsRoom, TurnsOnce, actor_count, raised, session_machine}
use Rattle.shared_vm.proofs.AskingLaws.{HasFew, does_few, left_next}
use Rattle.shared_vm.proofs.FourLaws.{fewer, raised_all, raised_own, raised_other}
use Rattle.shared_vm.proofs.RunLaws.{done_by-more, one_by-own, one_by-other, RunsOn-more}

-- the same tasks, with another journal, machine and store
abbrev pub with_journal : {S : Type 0} → Session S → List Deed → Parts → S → Session S
with_journal s journal vm store = record s { journal = journal; vm = vm; store = store }

-- the task at a place
pub task_at : (lists : Lists) (actor at count : ℕ) (tasks : List Task) (task : Task) → tasks ≡ tasks_of lists actor → at ≡ count → slice_get tasks at ≡ Some task
    → slice_get (tasks_of lists actor) count ≡ Some task
task_at lists actor at count tasks task e f is =
    subst (λ (ts : List Task). slice_get ts count ≡ Some task) e (subst (λ (n : ℕ). slice_get tasks n ≡ Some task) f is)

module _ {S : Type 0} (content : S → Content) (s : Session S) (done : Counts) (spare : Spare) (room : IsRoom content s done spare) (actor : ℕ) (le : actor ≤ 3) where
  module _ (task : Task) (reply : Reply) (vm : Parts) (store : S) (next : slice_get (tasks_of s.lists actor) (actor_count done actor) ≡ Some task)
      (does : DoesTask task reply (session_machine content s) (machine_of (content store) vm)) where
    abbrev deed : Deed
    deed = record { actor = actor; reply = reply }

    few : HasFew (bytes_asked task) (numbers_asked task) reply
    few = does_few (session_machine content s) (machine_of (content store) vm) task reply does

    bytes_next : left_asked bytes_asked s.lists done ≡ bytes_asked task + left_asked bytes_asked s.lists (raised done actor)
    bytes_next = left_next bytes_asked s.lists done actor le task next

    numbers_next : left_asked numbers_asked s.lists done ≡ numbers_asked task + left_asked numbers_asked s.lists (raised done actor)
    numbers_next = left_next numbers_asked s.lists done actor le task next

    -- a task is left, so there is room for its deed
    pub room_left : Suffices spare reply
    room_left =
        let less = slice_get_within (tasks_of s.lists actor) (actor_count done actor) task next in
        record {
          deed = omega (arith, room.all, room.room, fewer s.lists done actor le room.within less);
          bytes = omega (arith, room.bytes, few.bytes_few, bytes_next);
          numbers = omega (arith, room.numbers, few.numbers_few, numbers_next);
        }

    legal : JournalRun s.frames s.lists (s.journal ++ deed ∷ []) (machine_of (content store) vm)
    legal = record {
      run = RunsOn-more s.lists [] _ (session_machine content s) (machine_of (content store) vm) s.journal deed task room.legal.run le
          (subst (λ (n : ℕ). slice_get (tasks_of s.lists actor) n ≡ Some task) (room.counted actor le) next) does;
    }

    counted : (a : ℕ) → a ≤ 3 → actor_count (raised done actor) a ≡ done_by a (s.journal ++ deed ∷ [])
    counted a less = elim (actor == a) as (λ t. (actor == a) ≡ t → actor_count (raised done actor) a ≡ done_by a (s.journal ++ deed ∷ [])) [
      | true ↦ λ e. subst (λ (n : ℕ). actor_count (raised done actor) n ≡ done_by n (s.journal ++ deed ∷ [])) (eqb-true actor a e)
          (omega (arith, raised_own done actor le, room.counted actor le, done_by-more actor s.journal deed, one_by-own actor reply))
      | false ↦ λ e. omega (
        arith,
        raised_other done actor a le less (eqb-false actor a e),
        room.counted a less,
        done_by-more a s.journal deed,
        one_by-other a actor reply (eqb-false actor a e),
      )
    ] refl

    within : (a : ℕ) → a ≤ 3 → actor_count (raised done actor) a ≤ length (tasks_of s.lists a)
    within a less = elim (actor == a) as (λ t. (actor == a) ≡ t → actor_count (raised done actor) a ≤ length (tasks_of s.lists a)) [
      | true ↦ λ e. subst (λ (n : ℕ). actor_count (raised done actor) n ≤ length (tasks_of s.lists n)) (eqb-true actor a e)
          (omega (arith, raised_own done actor le, slice_get_within (tasks_of s.lists actor) (actor_count done actor) task next))
      | false ↦ λ e. omega (arith, raised_other done actor a le less (eqb-false actor a e), room.within a less)
    ] refl

    IsRoom-turned : (spare_after : Spare) → Agrees (content store) vm → (content store).next ≤ (content s.store).next + 1 → Leaves spare reply spare_after
        → IsRoom content (with_journal s (s.journal ++ deed ∷ []) vm store) (raised done actor) spare_after
    IsRoom-turned spare_after agrees koids left =
        let one : length (s.journal ++ deed ∷ []) ≡ length s.journal + 1 = length_push s.journal deed in
        record {
          legal = legal;
          agrees = agrees;
          koids = omega (arith, koids, room.koids, one);
          few = room.few;
          counted = counted;
          within = within;
          all = omega (arith, room.all, raised_all done actor le, one);
          room = omega (arith, room.room, left.deeds, one);
          bytes = omega (arith, room.bytes, left.bytes, few.bytes_few, bytes_next);
          numbers = omega (arith, room.numbers, left.numbers, few.numbers_few, numbers_next);
        }

    -- the same by what its parts are equal to
    pub IsRoom-after : (journal : List Deed) (after : Counts) (spare_after : Spare) → Agrees (content store) vm → (content store).next ≤ (content s.store).next + 1
        → journal ≡ s.journal ++ deed ∷ [] → after ≡ raised done actor → Leaves spare reply spare_after → IsRoom content (with_journal s journal vm store) after spare_after
    IsRoom-after journal after spare_after agrees koids e f left =
        subst (λ (j : List Deed). IsRoom content (with_journal s j vm store) after spare_after) (sym e)
        (subst (λ (d : Counts). IsRoom content (with_journal s (s.journal ++ deed ∷ []) vm store) d spare_after) (sym f)
        (IsRoom-turned spare_after agrees koids left))

    pub TurnsOnce-after : (journal : List Deed) → journal ≡ s.journal ++ deed ∷ [] → TurnsOnce content s (with_journal s journal vm store) actor
    TurnsOnce-after journal e = record {
      reply = reply;
      task = task;
      next = subst (λ (n : ℕ). slice_get (tasks_of s.lists actor) n ≡ Some task) (room.counted actor le) next;
      does = does;
      journal = e;
      lists = refl;
      frames = refl;
    }
