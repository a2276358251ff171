use Rattle.std.proofs.Common.{◌≡◌, ◌+◌, ◌-◌, ◌⊎◌, true}
use Rattle.vm_base.specs.declared.limits.TheConstants.{NAMES}
use Rattle.vm_model.specs.Space.Regions.{is_below}
use Rattle.pair_map.specs.Maps.{values_of}
use Rattle.region_tree.specs.inside.TreeFields.{HasNoneOver}
use Rattle.region_tree.proofs.BelowLaws.{depth_of}
use Rattle.region_tree.proofs.tree.Regions.within_over.Given as goal

-- where nothing is found from here on, nothing is found
abbrev pub invariant-descent : goal.invariant-descent
invariant-descent l = record {
  under : (l.above.0 ≡ l.fn.region.0) ⊎ (is_below (values_of l.self-inside.regions 0) l.fn.region.0 l.above.0 ≡ true);
  rest : HasNoneOver (values_of l.self-inside.regions 0) l.above.0 l.page l.first (l.first + l.count)
      → HasNoneOver (values_of l.self-inside.regions 0) l.fn.region.0 l.page l.first (l.first + l.count);
}

abbrev pub decreases-descent : goal.decreases-descent
decreases-descent l = NAMES - depth_of (values_of l.self-inside.regions 0) l.above.0
