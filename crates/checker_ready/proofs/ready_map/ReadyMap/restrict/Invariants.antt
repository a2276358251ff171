use Rattle.std.proofs.Common.{◌≡◌, ◌⊎◌, ◌-◌, ◌≤◌}
use Rattle.vm_model.specs.Naming.Pins.{is_pinned}
use Rattle.pin_table.specs.Table.{pins_of}
use Rattle.checker_ready.specs.Notes.{rows_of, changed_rows, row_limited}
use Rattle.checker_ready.proofs.ready_map.ReadyMap.restrict.Given as goal

-- the pages up to here are restricted
abbrev pub invariant-loop-next : goal.invariant-loop-next
invariant-loop-next l = record {
  first : l.first ≤ l.from;
  end : (l.from ≤ l.end) ⊎ (l.from ≡ l.first);
  rows : rows_of l.self ≡ changed_rows (row_limited (is_pinned (pins_of l.pins) l.koid.0)) l.koid.0 l.first l.from (rows_of l.initial.self);
  spare : l.self.room ≡ l.initial.self.room;
}

abbrev pub decreases-loop-next : goal.decreases-loop-next
decreases-loop-next l = l.end - l.from
