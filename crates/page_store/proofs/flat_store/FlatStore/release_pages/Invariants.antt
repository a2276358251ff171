use Rattle.std.proofs.Common.{◌≡◌}
use Rattle.pair_map.specs.Maps.{count_of}
use Rattle.vm_model.specs.Contents.Zeroing.{zeroed}
use Rattle.page_store.specs.Flat.{flat_content, flat_spare}
use Rattle.page_store.proofs.flat_store.FlatStore.release_pages.Given as goal

-- what is left to become zero
abbrev pub invariant-loop-page : goal.invariant-loop-page
invariant-loop-page l = record {
  rest : zeroed (flat_content l.self) l.v.0 l.first l.end ≡ zeroed (flat_content l.initial.self) l.v.0 l.first l.end;
  spare : flat_spare l.self ≡ flat_spare l.initial.self;
}

abbrev pub decreases-loop-page : goal.decreases-loop-page
decreases-loop-page l = count_of l.self.rows
