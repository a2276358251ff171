use Rattle.std.proofs.Common.{◌≡◌, ◌≢◌, ℕ, ◌-◌, length}
use Rattle.shared_vm.specs.Journal.{done_by}
use Rattle.shared_vm.specs.Tasks.{tasks_of}
use Rattle.shared_vm.proofs.acting.finish.Given as goal

abbrev pub invariant-loop-room : goal.invariant-loop-room
invariant-loop-room g l = record {
  frames : l.room.frames ≡ l.fn.room.frames;
  lists : l.room.lists ≡ l.fn.room.lists;
  others : (a : ℕ) → a ≢ l.actor → done_by a l.room.journal ≡ done_by a l.fn.room.journal;
}

abbrev pub decreases-loop-room : goal.decreases-loop-room
decreases-loop-room g l = length (tasks_of l.room.lists l.actor) - done_by l.actor l.room.journal
