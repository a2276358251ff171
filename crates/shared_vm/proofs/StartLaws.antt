-- A room in which nothing was done yet.
use Rattle.std.proofs.Common.{◌≡◌, ℕ, ◌^◌, ◌<◌, ◌≤◌, List, [], refl, sym, subst, arith}
use Rattle.vm_model.specs.Contents.Content.{Content, nothing, HasNoVmo}
use Rattle.vm_core.specs.Vm.{Parts, Agrees, bare_machine, machine_of}
use Rattle.vm_core.proofs.StartLaws.{filled_fresh, machine_of-filled}
use Rattle.shared_vm.specs.declared.counts.Counts.{Counts}
use Rattle.shared_vm.specs.declared.task.Deed.{Deed}
use Rattle.shared_vm.specs.Tasks.{Lists, task_count}
use Rattle.shared_vm.specs.Journal.{JournalRun, Spare}
use Rattle.shared_vm.specs.inside.Asking.{all_asked, bytes_asked, numbers_asked}
use Rattle.shared_vm.specs.Rooms.{IsRoom, actor_count}
use Rattle.shared_vm.proofs.FourLaws.{by_four}

-- no actor did a task
abbrev pub no_counts : Counts
no_counts = record { a0 = 0; a1 = 0; a2 = 0; a3 = 0 }

none : (actor : ℕ) → actor ≤ 3 → actor_count no_counts actor ≡ 0
none actor le = by_four (λ a. actor_count no_counts a ≡ 0) refl refl refl refl actor le

module _ {S : Type 0} (content : S → Content) (frames : ℕ) (lists : Lists) (vm : Parts) (store : S) (before : Content) (filled : content store ≡ record before { frames = frames })
    (empty : before ≡ nothing) (bare : (c : Content) → machine_of c vm ≡ bare_machine c) (agrees : (c : Content) → HasNoVmo c → 1 ≤ c.next → Agrees c vm) where
  first : (content store).next ≡ 1
  first = (filled_fresh frames (content store) before filled empty).1

  legal : JournalRun frames lists [] (machine_of (content store) vm)
  legal = record { run = machine_of-filled frames (content store) before vm bare filled empty }

  start : (spare : Spare) → task_count lists < 2 ^ 32 → task_count lists ≤ spare.deeds → all_asked bytes_asked lists ≤ spare.bytes → all_asked numbers_asked lists ≤ spare.numbers
      → IsRoom content (record { frames = frames; lists = lists; journal = []; vm = vm; store = store }) no_counts spare
  start spare few room bytes numbers = record {
    legal = legal;
    agrees = agrees (content store) (filled_fresh frames (content store) before filled empty).0 (omega (arith, first));
    koids = omega (arith, first);
    few = few;
    counted = none;
    within = λ actor le. omega (arith, none actor le);
    all = refl;
    room = omega (arith, room);
    bytes = bytes;
    numbers = numbers;
  }

  pub legal_start : (journal : List Deed) → journal ≡ [] → JournalRun frames lists journal (machine_of (content store) vm)
  legal_start journal e = subst (λ (j : List Deed). JournalRun frames lists j (machine_of (content store) vm)) (sym e) legal

  pub IsRoom-start : (journal : List Deed) (done : Counts) (spare : Spare) → task_count lists < 2 ^ 32 → journal ≡ [] → done ≡ no_counts → task_count lists ≤ spare.deeds
      → all_asked bytes_asked lists ≤ spare.bytes → all_asked numbers_asked lists ≤ spare.numbers
      → IsRoom content (record { frames = frames; lists = lists; journal = journal; vm = vm; store = store }) done spare
  IsRoom-start journal done spare few e f room bytes numbers =
      subst (λ (j : List Deed). IsRoom content (record { frames = frames; lists = lists; journal = j; vm = vm; store = store }) done spare) (sym e)
      (subst (λ (d : Counts). IsRoom content (record { frames = frames; lists = lists; journal = []; vm = vm; store = store }) d spare) (sym f)
      (start spare few room bytes numbers))
