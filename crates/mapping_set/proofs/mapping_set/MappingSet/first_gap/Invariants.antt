use Rattle.std.proofs.Common.{◌≡◌, ℕ, ◌+◌, ◌-◌, ◌<◌, ◌≤◌, false}
use Rattle.vm_base.specs.declared.limits.TheConstants.{PAGES_END}
use Rattle.vm_base.specs.Search.{HasNone}
use Rattle.vm_base.specs.Entries.{passes}
use Rattle.vm_model.specs.Space.Table.{is_in, has_entry}
use Rattle.mapping_set.specs.Tables.{table_of}
use Rattle.mapping_set.proofs.mapping_set.MappingSet.first_gap.Given as goal

-- no range that begins before `start` is a gap, and no page from there to before `at` has an entry of the region
abbrev pub invariant-search : goal.invariant-search
invariant-search l = record {
  not_before : l.fn.from ≤ l.start;
  ahead : l.start ≤ l.at;
  passed : (p : ℕ) → l.fn.from ≤ p → p < l.start → has_entry (table_of l.self) l.root.0 l.region.0 p (p + l.count) ≡ false → ⊥;
  bare : HasNone (λ p. passes (is_in l.region.0) (table_of l.self l.root.0 p)) l.start l.at;
}

abbrev pub decreases-search : goal.decreases-search
decreases-search l = PAGES_END - l.at
