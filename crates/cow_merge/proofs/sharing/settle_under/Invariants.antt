use Rattle.cow_merge.proofs.Words.{◌≡◌, ◌-◌, ◌≤◌, ℕ, Some, Node, Side, nodes_of, tree_of, IsDown, Moves, IsLifting, KeepsFamily}
use Rattle.cow_merge.proofs.sharing.settle_under.Given as goal

abbrev pub invariant-loop-page : goal.invariant-loop-page
invariant-loop-page l = record {
  from : l.way.from ≤ l.from;
  lifting : IsLifting l.arena l.lists l.frames l.family.leaf.0 l.family.hidden.0 l.family.sibling.0;
  moves : Moves l.arena l.fn.lists l.lists l.fn.frames l.frames l.family.leaf.0 0 (KeepsFamily l.arena l.family.leaf.0 l.family.hidden.0 l.family.sibling.0);
  down : (parent : Node) (side : Side) (seen : ℕ) → nodes_of l.arena l.family.hidden.0 ≡ Some parent →
      IsDown (tree_of l.arena l.fn.lists) parent.list.0 l.family.sibling.0 seen side l.way l.way.from →
      IsDown (tree_of l.arena l.lists) parent.list.0 l.family.sibling.0 seen side l.way l.from;
}

abbrev pub decreases-loop-page : goal.decreases-loop-page
decreases-loop-page l = l.way.to - l.from
