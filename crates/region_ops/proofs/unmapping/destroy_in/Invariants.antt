use Rattle.std.proofs.Common.{◌+◌}
use Rattle.vm_model.specs.Space.Mappings.{lies_below_in}
use Rattle.mapping_set.specs.Tables.{table_of, places_of}
use Rattle.region_tree.specs.Tree.{regions_of, spaces_of, IsStart, AreNoted}
use Rattle.region_ops.proofs.DyingLaws.{live_count}
use Rattle.region_ops.proofs.DestroyLaws.{IsGoing}
use Rattle.region_ops.proofs.unmapping.destroy_in.Given as goal

abbrev pub invariant-loop-leaf : goal.invariant-loop-leaf
invariant-loop-leaf g l = record {
  going : IsGoing (g.P.PageStore.content l.initial.store) l.initial.vmos (spaces_of (regions_of l.initial.regions) (table_of l.initial.maps))
      (lies_below_in (regions_of l.initial.regions) l.region.0 l.dying.first (l.dying.first + l.dying.count))
      (g.P.PageStore.content l.store) l.vmos (spaces_of (regions_of l.regions) (table_of l.maps));
  start : IsStart (regions_of l.regions) l.region.0 l.dying.first (l.dying.first + l.dying.count) l.from.0;
  noted : AreNoted (regions_of l.initial.regions) (places_of l.initial.maps) → AreNoted (regions_of l.regions) (places_of l.maps);
}

abbrev pub decreases-loop-leaf : goal.decreases-loop-leaf
decreases-loop-leaf g l = live_count (regions_of l.regions)
