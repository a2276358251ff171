-- What is known of a task that the words ask for.
use Rattle.std.specs.Prelude.{◌≤◌}
use Rattle.vm_base.specs.declared.limits.TheConstants.{FRAMES, WORK_COUNT}
use Rattle.vm_session.specs.declared.words.Task.{Task}

-- its machine has a frame at least and FRAMES at most, and it has WORK_COUNT commands at most
abbrev pub HasBounds : Task → Type 0
HasBounds (Task.Run frames) = (1 ≤ frames) × (frames ≤ FRAMES)
HasBounds (Task.Work number count frames) = ((1 ≤ frames) × (frames ≤ FRAMES)) × (count ≤ WORK_COUNT)
