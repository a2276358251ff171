-- How much data the replies to tasks have at most.
use Rattle.std.proofs.Common.{◌≡◌, ℕ, ◌+◌, ◌*◌, ◌/◌, ◌%◌, ◌≤◌, ◌==◌, not, List, [], ◌∷◌, length, take, drop, Option, None, Some, refl, sym, ap, ◌∙◌, inl, inr, arith}
use Rattle.std.specs.Prelude.{min, slice_get, ◌&&◌, ◌||◌, nat_lt, is_some}
use Rattle.std.specs.List.{sum_by}
use Rattle.std.proofs.Math.Nat.{le-min, min-le_right}
use Rattle.std.proofs.lemmas.Bool.{ltb-false, or_parts}
use Rattle.std.proofs.lemmas.List.FromFn.{length-map-range_with_len}
use Rattle.std.proofs.lemmas.List.Sums.{sum_by-cons, sum_by-drop_more, sum_by_more, sum_by-take-le}
use Rattle.std.proofs.lemmas.Option.{slice_get_within, get_or_from_slice_get}
use Rattle.vm_base.specs.declared.limits.TheConstants.{DATA_BYTES, PAGE, PIN_PAGES}
use Rattle.vm_base.specs.declared.refusal.Refusal.{Refusal}
use Rattle.vm_model.specs.Machine.Words.{Command}
use Rattle.vm_model.specs.declared.command.Command.TheVariants.{VmoChild, VmoRead, VmoPin, VmarAllocate, VmarMap, MemRead, MemWrite}
use Rattle.vm_model.specs.declared.command.ChildKind.TheVariants.{Snapshot}
use Rattle.vm_model.specs.Machine.Words.{Reply}
use Rattle.vm_model.specs.Contents.Content.{Content}
use Rattle.vm_model.specs.Contents.Writing.{bytes_in}
use Rattle.vm_model.specs.declared.space.Entry.{Entry}
use Rattle.vm_model.specs.Space.Regions.{region_of}
use Rattle.vm_model.specs.Machine.Access.{bytes_through}
use Rattle.vm_model.specs.Machine.Machine.{Machine}
use Rattle.vm_model.specs.Machine.MachineStep.{MachineStepAfter, MachineEffect}
use Rattle.vm_model.specs.Machine.Refusals.{refusals, first_of}
use Rattle.vm_model.proofs.StepLaws.{AllOff-from_none}
use Rattle.shared_vm.specs.declared.counts.Counts.{Counts}
use Rattle.shared_vm.specs.declared.task.Task.{Task}
use Rattle.shared_vm.specs.Tasks.{Lists, task_count, tasks_of}
use Rattle.shared_vm.specs.Journal.{DoesTask, data_bytes, data_numbers}
use Rattle.shared_vm.specs.Rooms.{actor_count, raised}
use Rattle.shared_vm.specs.inside.Asking.{bytes_wanted, numbers_wanted, bytes_asked, numbers_asked, all_asked, left_asked}
use Rattle.shared_vm.proofs.FourLaws.{by_four}

-- ---- one task

-- a reply has so many bytes and numbers at most
pub record HasFew (bytes numbers : ℕ) (reply : Reply) : Type 0 where
  pub bytes_few : data_bytes reply ≤ bytes
  pub numbers_few : data_numbers reply ≤ numbers

-- a reply without data
no_data : (bytes numbers : ℕ) (reply is : Reply) → reply ≡ is → data_bytes is ≡ 0 → data_numbers is ≡ 0 → HasFew bytes numbers reply
no_data bytes numbers reply is e f g = record {
  bytes_few = omega (arith, ap data_bytes e, f);
  numbers_few = omega (arith, ap data_numbers e, g);
}

length-bytes_in : (c : Content) (v offset len : ℕ) → length (bytes_in c v offset len) ≡ len
unfolding bytes_in
length-bytes_in c v offset len = length-map-range_with_len _ offset len

length-bytes_through : (c : Content) (entries : ℕ → Option Entry) (addr len : ℕ) → length (bytes_through c entries addr len) ≡ len
unfolding bytes_through
length-bytes_through c entries addr len = length-map-range_with_len _ addr len

-- a reply with these bytes, or with these numbers
has_bytes : (reply : Reply) (items : List ℕ) (len : ℕ) → data_bytes reply ≡ length items → data_numbers reply ≡ 0 → length items ≡ len → len ≤ DATA_BYTES → HasFew (min len DATA_BYTES) 0 reply
has_bytes reply items len e f g few = record {
  bytes_few = le-min (omega (arith, e, g)) (omega (arith, e, g, few));
  numbers_few = omega (arith, f);
}

has_numbers : (reply : Reply) (items : List ℕ) (len : ℕ) → data_numbers reply ≡ length items → data_bytes reply ≡ 0 → length items ≡ len / PAGE → len ≤ PIN_PAGES * PAGE
    → HasFew 0 (min (len / PAGE) PIN_PAGES) reply
has_numbers reply items len e f g few = record {
  bytes_few = omega (arith, f);
  numbers_few = le-min (omega (arith, e, g)) (omega (arith, e, g, few));
}

-- what a command does that nothing refuses
by_effect : (old new : Machine) (command : Command) (reply : Reply) → first_of (refusals old.state command) ≡ None → MachineEffect old command reply new
    → HasFew (bytes_wanted command) (numbers_wanted command) reply
by_effect old new (VmoRead name offset len) reply none h =
    let off = AllOff-from_none (refusals old.state (VmoRead name offset len)) none in
    has_bytes reply _ len (ap data_bytes h.0.0) (ap data_numbers h.0.0) (length-bytes_in _ _ _ len) (ltb-false DATA_BYTES len off.1.0)
by_effect old new (MemRead region addr len) reply none h =
    let off = AllOff-from_none (refusals old.state (MemRead region addr len)) none in
    has_bytes reply _ len (ap data_bytes h.0) (ap data_numbers h.0) (length-bytes_through _ _ _ len)
    (ltb-false DATA_BYTES len (or_parts (is_some (region_of old.state.spaces.regions region.0).parent) (nat_lt DATA_BYTES len) off.1.1.0).1)
by_effect old new (VmoPin pin name offset len) reply none h =
    let off = AllOff-from_none (refusals old.state (VmoPin pin name offset len)) none in
    let sizes = or_parts (not (offset % PAGE == 0 && len % PAGE == 0)) (len == 0 || nat_lt (PIN_PAGES * PAGE) len) off.1.1.0 in
    has_numbers reply _ len (ap data_numbers h.0.0) (ap data_bytes h.0.0) (length-map-range_with_len _ _ (len / PAGE))
    (ltb-false (PIN_PAGES * PAGE) len (or_parts (len == 0) (nat_lt (PIN_PAGES * PAGE) len) sizes.1).1)
by_effect old new (VmoChild name parent Snapshot offset size resizable no_write) reply none h = no_data 0 0 reply _ h.0.0 refl refl
by_effect old new (VmarAllocate region parent offset len flags caps) reply none h = no_data 0 0 reply _ h.0.1 refl refl
by_effect old new (VmarMap region offset name vmo_offset len perm flags) reply none h = no_data 0 0 reply _ h.0.1 refl refl
by_effect old new (MemWrite region addr bytes) reply none h = no_data 0 0 reply _ h.1 refl refl
by_effect old new command reply none h = no_data 0 0 reply _ h.0.0 refl refl

by_step : (old new : Machine) (command : Command) (reply : Reply) (o : Option Refusal) → o ≡ first_of (refusals old.state command) → MachineStepAfter o old command reply new
    → HasFew (bytes_wanted command) (numbers_wanted command) reply
by_step old new command reply (Some refusal) e h = no_data _ _ reply _ h.answer refl refl
by_step old new command reply None e (inl h) = by_effect old new command reply (sym e) h
by_step old new command reply None e (inr h) = no_data _ _ reply _ h.0.answer refl refl

-- the reply to a task has no more data than the task asks for
pub does_few : (old new : Machine) (task : Task) (reply : Reply) → DoesTask task reply old new → HasFew (bytes_asked task) (numbers_asked task) reply
does_few old new (Task.Order command) reply h = by_step old new command reply _ refl h.outcome
does_few old new Task.Outside reply h = no_data 0 0 reply _ h.0 refl refl

-- ---- all tasks

bytes_few : (task : Task) → bytes_asked task ≤ DATA_BYTES
bytes_few (Task.Order (VmoRead name offset len)) = min-le_right len DATA_BYTES
bytes_few (Task.Order (MemRead region addr len)) = min-le_right len DATA_BYTES
bytes_few (Task.Order command) = omega arith
bytes_few Task.Outside = omega arith

numbers_few : (task : Task) → numbers_asked task ≤ PIN_PAGES
numbers_few (Task.Order (VmoPin pin name offset len)) = min-le_right (len / PAGE) PIN_PAGES
numbers_few (Task.Order command) = omega arith
numbers_few Task.Outside = omega arith

pub bytes_sum : (tasks : List Task) → sum_by bytes_asked tasks ≤ length tasks * DATA_BYTES
bytes_sum [] = omega arith
bytes_sum (task ∷ tasks) = omega (arith, sum_by-cons bytes_asked task tasks, bytes_few task, bytes_sum tasks)

pub numbers_sum : (tasks : List Task) → sum_by numbers_asked tasks ≤ length tasks * PIN_PAGES
numbers_sum [] = omega arith
numbers_sum (task ∷ tasks) = omega (arith, sum_by-cons numbers_asked task tasks, numbers_few task, numbers_sum tasks)

pub bytes_all : (lists : Lists) → all_asked bytes_asked lists ≤ task_count lists * DATA_BYTES
bytes_all lists = omega (arith, bytes_sum lists.a0, bytes_sum lists.a1, bytes_sum lists.a2, bytes_sum lists.a3)

pub numbers_all : (lists : Lists) → all_asked numbers_asked lists ≤ task_count lists * PIN_PAGES
numbers_all lists = omega (arith, numbers_sum lists.a0, numbers_sum lists.a1, numbers_sum lists.a2, numbers_sum lists.a3)

-- ---- the tasks one after another

module _ (asked : Task → ℕ) (tasks : List Task) (at : ℕ) (task : Task) (is : slice_get tasks at ≡ Some task) where
  -- the tasks up to a place, and that at the place
  pub sum_more : sum_by asked (take (at + 1) tasks) ≡ sum_by asked (take at tasks) + asked task
  sum_more =
      sum_by_more asked tasks at task (slice_get_within tasks at task is)
      ∙ ap (λ (t : Task). sum_by asked (take at tasks) + asked t) (get_or_from_slice_get tasks at task task is)

  -- the task at a place, and those behind it
  pub sum_next : sum_by asked (drop at tasks) ≡ asked task + sum_by asked (drop (at + 1) tasks)
  sum_next =
      sum_by-drop_more asked tasks at task (slice_get_within tasks at task is)
      ∙ ap (λ (t : Task). asked t + sum_by asked (drop (at + 1) tasks)) (get_or_from_slice_get tasks at task task is)

  pub sum_few : sum_by asked (take at tasks) + asked task ≤ sum_by asked tasks
  sum_few = omega (arith, sum_more, sum_by-take-le asked tasks (at + 1))

-- a task that is done asks for no more
pub left_next : (asked : Task → ℕ) (lists : Lists) (done : Counts) (actor : ℕ) → actor ≤ 3 → (task : Task) → slice_get (tasks_of lists actor) (actor_count done actor) ≡ Some task
    → left_asked asked lists done ≡ asked task + left_asked asked lists (raised done actor)
left_next asked lists done actor le task = by_four
    (λ a. slice_get (tasks_of lists a) (actor_count done a) ≡ Some task → left_asked asked lists done ≡ asked task + left_asked asked lists (raised done a))
    (λ is. omega (arith, sum_next asked lists.a0 done.a0 task is))
    (λ is. omega (arith, sum_next asked lists.a1 done.a1 task is))
    (λ is. omega (arith, sum_next asked lists.a2 done.a2 task is))
    (λ is. omega (arith, sum_next asked lists.a3 done.a3 task is))
    actor le
