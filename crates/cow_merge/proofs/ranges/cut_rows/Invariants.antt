use Rattle.cow_merge.proofs.Words.{◌≡◌, ◌≢◌, ℕ, ◌≤◌, ◌+◌, ◌-◌, Option, slots_of, NodeId, IsPartOf, IsPassing, Moves}
use Rattle.cow_merge.proofs.ranges.cut_rows.Given as goal

abbrev pub invariant-loop-row : goal.invariant-loop-row
invariant-loop-row l = record {
  from : l.span.first + l.span.shift ≤ l.from;
  below : l.from ≤ l.span.to;
  passing : (spared : Option NodeId) →
      IsPassing l.arena l.fn.lists l.fn.frames l.arrival.leaf.0 l.span.first l.skip spared l.arrival.node l.span.shift l.span.to (l.span.first + l.span.shift) →
      IsPassing l.arena l.lists l.frames l.arrival.leaf.0 l.span.first l.skip spared l.arrival.node l.span.shift l.span.to l.from;
  lost : Moves l.arena l.fn.lists l.lists l.fn.frames l.frames l.arrival.leaf.0 l.span.first IsPartOf;
  others : (m : ℕ) → m ≢ l.arrival.node.list.0 → slots_of l.lists m ≡ slots_of l.fn.lists m;
}

abbrev pub decreases-loop-row : goal.decreases-loop-row
decreases-loop-row l = l.span.to - l.from
