use Rattle.std.proofs.Common.{◌+◌, ◌-◌, ◌≤◌}
use Rattle.page_store.specs.Held.{held_from}
use Rattle.page_store.specs.Flat.{flat_content, flat_spare}
use Rattle.page_store.proofs.SnapshotLaws.{IsShowing}
use Rattle.page_store.proofs.flat_store.FlatStorePageStore.snapshot.Given as goal

-- the snapshot shows the pages up to here, and there is room for the others
abbrev pub invariant-loop-page : goal.invariant-loop-page
invariant-loop-page l = record {
  end : l.from ≤ l.end;
  shown : IsShowing (flat_content l.fn.self) (flat_content l.self) l.of.0 l.first l.from l.end l.count l.koid.0;
  room : flat_spare l.fn.self + held_from (flat_content l.fn.self) l.of.0 l.from (l.end - l.from) ≤ flat_spare l.self;
}

abbrev pub decreases-loop-page : goal.decreases-loop-page
decreases-loop-page l = l.end - l.from
