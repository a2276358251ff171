use Rattle.cow_merge.proofs.Words.{◌≡◌, Option, slots_of, NodeId, IsPartOf, IsPassing, Moves}
use Rattle.cow_merge.proofs.witness.cut_few.Given as goal

abbrev pub invariant-loop-left : goal.invariant-loop-left
invariant-loop-left l = record {
  passing : (spared : Option NodeId) →
      IsPassing l.arena l.fn.lists l.fn.frames l.fn.start.leaf.0 l.span.first l.fn.rest.skip spared l.fn.start.node l.span.shift l.span.to l.span.to →
      IsPassing l.arena l.lists l.frames l.fn.start.leaf.0 l.span.first l.done spared l.fn.start.node l.span.shift l.span.to l.span.to;
  lost : Moves l.arena l.fn.lists l.lists l.fn.frames l.frames l.fn.start.leaf.0 l.span.first IsPartOf;
  kept : slots_of l.lists l.fn.start.node.list.0 ≡ slots_of l.fn.lists l.fn.start.node.list.0;
}

abbrev pub decreases-loop-left : goal.decreases-loop-left
decreases-loop-left l = l.left
