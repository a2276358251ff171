use Rattle.cow_merge.proofs.Words.{◌≡◌, Option, Some, slots_of, Node, NodeId, nodes_of, other_side, side_of, IsPartOf, no_pages, IsPassing}
use Rattle.cow_merge.proofs.Words.{Moves, IsBeside}
use Rattle.cow_merge.proofs.witness.leave_out_beside.Given as goal

abbrev pub invariant-loop-left : goal.invariant-loop-left
invariant-loop-left l = record {
  beside : (spared : Option NodeId) (above : Node) → nodes_of l.arena l.fn.family.hidden.0 ≡ Some above →
      IsPassing l.arena l.fn.lists l.fn.frames l.fn.family.leaf.0 l.span.first no_pages spared above l.span.shift l.span.to l.span.to →
      IsBeside l.arena l.lists l.frames l.fn.family.leaf.0 l.span.first spared l.fn.family.hidden.0 above l.span.shift l.span.to (other_side (side_of above l.fn.family.leaf.0)) l.way l.way.from;
  lost : Moves l.arena l.fn.lists l.lists l.fn.frames l.frames l.fn.family.leaf.0 l.span.first IsPartOf;
  kept : (above : Node) → nodes_of l.arena l.fn.family.hidden.0 ≡ Some above → slots_of l.lists above.list.0 ≡ slots_of l.fn.lists above.list.0;
}

abbrev pub decreases-loop-left : goal.decreases-loop-left
decreases-loop-left l = l.left
