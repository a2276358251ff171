use Rattle.cow_merge.proofs.Words.{◌≡◌, ◌≢◌, ℕ, ◌≤◌, slots_of, row_count, IsPartOf, IsDropping, Moves}
use Rattle.cow_merge.proofs.ranges.drop_rows.Given as goal

abbrev pub invariant-loop-page : goal.invariant-loop-page
invariant-loop-page l = record {
  from : l.first ≤ l.from;
  dropping : IsDropping l.arena l.lists l.frames l.fn.leaf.0 l.node l.first l.from;
  lost : Moves l.arena l.fn.lists l.lists l.fn.frames l.frames l.fn.leaf.0 l.first IsPartOf;
  others : (m : ℕ) → m ≢ l.node.list.0 → slots_of l.lists m ≡ slots_of l.fn.lists m;
}

abbrev pub decreases-loop-page : goal.decreases-loop-page
decreases-loop-page l = row_count l.lists
