use Rattle.cow_merge.proofs.Words.{◌≡◌, ◌+◌, ◌<◌, ◌≤◌, Option, Some, slots_of, NodeId, nodes_of, nodes_up, ComesTo, IsPartOf, bare_of}
use Rattle.cow_merge.proofs.Words.{IsPassing, Moves}
use Rattle.cow_merge.proofs.ranges.cut_upwards.Given as goal

abbrev pub invariant-loop-node : goal.invariant-loop-node
invariant-loop-node l = record {
  from : l.from ≡ l.first + l.shift;
  here : nodes_of l.arena l.at.0 ≡ Some l.node;
  way : l.from < l.to → ComesTo (bare_of l.arena) l.fn.start.leaf.0 l.first l.at.0 l.from;
  passing : (spared : Option NodeId) →
      IsPassing l.arena l.fn.lists l.fn.frames l.fn.start.leaf.0 l.first l.fn.skip spared l.fn.start.node l.fn.span.shift l.fn.span.to l.fn.span.to →
      IsPassing l.arena l.lists l.frames l.fn.start.leaf.0 l.first l.skip spared l.node l.shift l.to l.to;
  lost : Moves l.arena l.fn.lists l.lists l.fn.frames l.frames l.fn.start.leaf.0 l.first IsPartOf;
  up : nodes_up (nodes_of l.arena) l.arena.lists l.node.parent ≤ nodes_up (nodes_of l.arena) l.arena.lists l.fn.start.node.parent;
  kept : slots_of l.lists l.fn.start.node.list.0 ≡ slots_of l.fn.lists l.fn.start.node.list.0;
}

abbrev pub decreases-loop-node : goal.decreases-loop-node
decreases-loop-node l = nodes_up (nodes_of l.arena) l.arena.lists l.node.parent
