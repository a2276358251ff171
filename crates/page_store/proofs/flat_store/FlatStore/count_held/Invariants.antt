use Rattle.std.proofs.Common.{◌≡◌, ◌+◌, ◌-◌, ◌≤◌}
use Rattle.page_store.specs.Held.{held_from}
use Rattle.page_store.specs.Flat.{flat_content}
use Rattle.page_store.proofs.flat_store.FlatStore.count_held.Given as goal

-- the pages up to here were counted
abbrev pub invariant-loop-page : goal.invariant-loop-page
invariant-loop-page l = record {
  first : l.first ≤ l.from;
  end : l.from ≤ l.end;
  held : l.held + held_from (flat_content l.self) l.v.0 l.from (l.end - l.from) ≡ held_from (flat_content l.self) l.v.0 l.first (l.end - l.first);
}

abbrev pub decreases-loop-page : goal.decreases-loop-page
decreases-loop-page l = l.end - l.from
