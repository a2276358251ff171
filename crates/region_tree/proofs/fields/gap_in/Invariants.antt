use Rattle.std.proofs.Common.{ℕ, ◌+◌, ◌-◌, ◌<◌, ◌≤◌}
use Rattle.pair_map.specs.Maps.{extents_of}
use Rattle.mapping_set.specs.Tables.{table_of, IsClear}
use Rattle.region_tree.proofs.fields.gap_in.Given as goal

-- no range before `from` is clear
abbrev pub invariant-search : goal.invariant-search
invariant-search l = record {
  not_before : l.fn.above.first ≤ l.from;
  passed : (p : ℕ) → l.fn.above.first ≤ p → p < l.from → p + l.count ≤ l.limit → IsClear (extents_of l.children l.region.0) (table_of l.maps) l.fn.above.root.0 l.region.0 p l.count → ⊥;
}

abbrev pub decreases-search : goal.decreases-search
decreases-search l = l.limit - l.from
