use Rattle.vm_model.specs.Space.Mappings.{lies_below_in}
use Rattle.std.proofs.Common.{◌≡◌, ◌+◌}
use Rattle.mapping_set.specs.Tables.{table_of, places_of}
use Rattle.region_tree.specs.Tree.{regions_of, IsStart, AreNoted}
use Rattle.region_ops.proofs.DyingLaws.{IsUnderWay, live_count}
use Rattle.region_ops.proofs.unmapping.destroy_within.Given as goal

abbrev pub invariant-loop-leaf : goal.invariant-loop-leaf
invariant-loop-leaf l = record {
  under : IsUnderWay (regions_of l.initial.regions) (regions_of l.regions) (lies_below_in (regions_of l.initial.regions) l.region.0 l.first (l.first + l.count));
  start : IsStart (regions_of l.regions) l.region.0 l.first (l.first + l.count) l.from.0;
  table : table_of l.maps ≡ table_of l.initial.maps;
  noted : AreNoted (regions_of l.initial.regions) (places_of l.initial.maps) → AreNoted (regions_of l.regions) (places_of l.maps);
}

abbrev pub decreases-loop-leaf : goal.decreases-loop-leaf
decreases-loop-leaf l = live_count (regions_of l.regions)
