use Rattle.std.proofs.Common.{◌≡◌, ◌⊎◌, ◌-◌, ◌≤◌}
use Rattle.page_store.specs.Flat.{flat_content}
use Rattle.checker_ready.specs.Notes.{rows_of, changed_rows, row_if_current}
use Rattle.checker_ready.proofs.ready_map.ReadyMap.settle.Given as goal

-- the pages up to here are settled
abbrev pub invariant-loop-next : goal.invariant-loop-next
invariant-loop-next l = record {
  first : l.first ≤ l.from;
  end : (l.from ≤ l.end) ⊎ (l.from ≡ l.first);
  rows : rows_of l.self ≡ changed_rows (row_if_current (flat_content l.pages)) l.koid.0 l.first l.from (rows_of l.initial.self);
  spare : l.self.room ≡ l.initial.self.room;
}

abbrev pub decreases-loop-next : goal.decreases-loop-next
decreases-loop-next l = l.end - l.from
