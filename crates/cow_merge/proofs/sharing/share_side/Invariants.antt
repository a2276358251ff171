use Rattle.cow_merge.proofs.Words.{◌≡◌, Some, Node, Side, nodes_of, side_in, tree_of, IsDown, Moves, IsLifting, KeepsFamily}
use Rattle.cow_merge.proofs.sharing.share_side.Given as goal

abbrev pub invariant-loop-left : goal.invariant-loop-left
invariant-loop-left l = record {
  lifting : IsLifting l.arena l.lists l.frames l.family.leaf.0 l.family.hidden.0 l.family.sibling.0;
  moves : Moves l.arena l.fn.lists l.lists l.fn.frames l.frames l.family.leaf.0 0 (KeepsFamily l.arena l.family.leaf.0 l.family.hidden.0 l.family.sibling.0);
  down : (parent : Node) (side : Side) → nodes_of l.arena l.family.hidden.0 ≡ Some parent → side_in (nodes_of l.arena) l.fn.below.0 ≡ Some side →
      IsDown (tree_of l.arena l.lists) parent.list.0 l.family.sibling.0 l.seen side l.way l.way.from;
}

abbrev pub decreases-loop-left : goal.decreases-loop-left
decreases-loop-left l = l.left
