use Rattle.std.proofs.Common.{◌≡◌, ◌-◌, ◌<◌, ◌≤◌, ℕ, None}
use Rattle.fault.specs.inside.Pages.{block_entry}
use Rattle.fault.proofs.page_map.first_entry.Given as goal

-- no place before this one has a number
abbrev pub invariant-loop-place : goal.invariant-loop-place
invariant-loop-place l = record {
  start : l.fn.start ≤ l.place;
  none : (b : ℕ) → l.fn.start ≤ b → b < l.place → block_entry l.block b ≡ None;
}

abbrev pub decreases-loop-place : goal.decreases-loop-place
decreases-loop-place l = 8 - l.place
