-- The turns of an actor, one after another.
use Rattle.std.proofs.Common.{◌≡◌, ◌≢◌, ℕ, ◌-◌, ◌<◌, Bool, true, false, List, length, sym, ap, arith}
use Rattle.vm_model.specs.Contents.Content.{Content}
use Rattle.shared_vm.specs.declared.task.Deed.{Deed}
use Rattle.shared_vm.specs.Tasks.{Lists, tasks_of}
use Rattle.shared_vm.specs.Journal.{done_by, IsWholeJournal}
use Rattle.shared_vm.specs.Rooms.{Session, TakesTurn}
use Rattle.shared_vm.proofs.FourLaws.{by_four}
use Rattle.shared_vm.proofs.RunLaws.{done_by-more, one_by-own, one_by-other}

-- what a turn of an actor leaves as it was
pub record Stays {S : Type 0} (old new : Session S) (actor : ℕ) : Type 0 where
  pub frames : new.frames ≡ old.frames
  pub lists : new.lists ≡ old.lists
  pub others : (a : ℕ) → a ≢ actor → done_by a new.journal ≡ done_by a old.journal

pub turn_stays : {S : Type 0} (content : S → Content) (old new : Session S) (actor : ℕ) (more : Bool) → TakesTurn content old new actor more → Stays old new actor
turn_stays content old new actor true t = record {
  frames = t.frames;
  lists = t.lists;
  others = λ a ne. omega (arith, ap (done_by a) t.journal, done_by-more a old.journal (record { actor = actor; reply = t.reply }), one_by-other a actor t.reply (λ e. ne (sym e)));
}
turn_stays {S} content old new actor false t = record {
  frames = ap (λ (s : Session S). s.frames) t.0;
  lists = ap (λ (s : Session S). s.lists) t.0;
  others = λ a ne. ap (λ (s : Session S). done_by a s.journal) t.0;
}

-- a turn of an actor that has a task left leaves one less
pub turn_falls : {S : Type 0} (content : S → Content) (old new : Session S) (actor : ℕ) (more : Bool) → TakesTurn content old new actor more → done_by actor old.journal < length (tasks_of old.lists actor)
    → length (tasks_of new.lists actor) - done_by actor new.journal < length (tasks_of old.lists actor) - done_by actor old.journal
turn_falls content old new actor true t some =
    omega (arith, some, ap (λ (l : Lists). length (tasks_of l actor)) t.lists, ap (done_by actor) t.journal, done_by-more actor old.journal (record { actor = actor; reply = t.reply }), one_by-own actor t.reply)
turn_falls content old new actor false t some = absurd (omega (arith, some, t.1))

-- the actors finish one after another
pub IsWholeJournal-finished : (l1 l2 l3 l4 : Lists) (j1 j2 j3 j4 : List Deed) → l2 ≡ l1 → l3 ≡ l2 → l4 ≡ l3
    → done_by 0 j1 ≡ length (tasks_of l1 0) → done_by 1 j2 ≡ length (tasks_of l2 1) → done_by 2 j3 ≡ length (tasks_of l3 2) → done_by 3 j4 ≡ length (tasks_of l4 3)
    → ((a : ℕ) → a ≢ 1 → done_by a j2 ≡ done_by a j1) → ((a : ℕ) → a ≢ 2 → done_by a j3 ≡ done_by a j2) → ((a : ℕ) → a ≢ 3 → done_by a j4 ≡ done_by a j3)
    → IsWholeJournal l4 j4
IsWholeJournal-finished l1 l2 l3 l4 j1 j2 j3 j4 e2 e3 e4 d0 d1 d2 d3 o2 o3 o4 actor le = by_four (λ a. done_by a j4 ≡ length (tasks_of l4 a))
    (omega (arith, d0, o2 0 (λ e. omega (arith, e)), o3 0 (λ e. omega (arith, e)), o4 0 (λ e. omega (arith, e)), ap (λ (l : Lists). length (tasks_of l 0)) e2, ap (λ (l : Lists). length (tasks_of l 0)) e3, ap (λ (l : Lists). length (tasks_of l 0)) e4))
    (omega (arith, d1, o3 1 (λ e. omega (arith, e)), o4 1 (λ e. omega (arith, e)), ap (λ (l : Lists). length (tasks_of l 1)) e3, ap (λ (l : Lists). length (tasks_of l 1)) e4))
    (omega (arith, d2, o4 2 (λ e. omega (arith, e)), ap (λ (l : Lists). length (tasks_of l 2)) e4))
    d3 actor le
