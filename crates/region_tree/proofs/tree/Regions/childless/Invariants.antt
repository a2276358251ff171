use Rattle.std.proofs.Common.{ℕ, ◌-◌}
use Rattle.vm_base.specs.declared.limits.TheConstants.{NAMES}
use Rattle.pair_map.specs.Maps.{values_of}
use Rattle.region_tree.specs.Tree.{IsWithin}
use Rattle.region_tree.proofs.BelowLaws.{depth_of}
use Rattle.region_tree.proofs.tree.Regions.childless.Given as goal

-- the leaf lies where the region does
abbrev pub invariant-loop-extent : goal.invariant-loop-extent
invariant-loop-extent l = record {
  within : (above first end : ℕ) → IsWithin (values_of l.self-inside.regions 0) above first end l.fn.region.0 → IsWithin (values_of l.self-inside.regions 0) above first end l.leaf.0;
}

abbrev pub decreases-loop-extent : goal.decreases-loop-extent
decreases-loop-extent l = NAMES - depth_of (values_of l.self-inside.regions 0) l.leaf.0
