use Rattle.cow_merge.proofs.Words.{◌≡◌, ◌-◌, ◌≤◌, ℕ, Option, Some, slots_of, Node, NodeId, Side, nodes_of, IsPartOf, Moves, IsBeside}
use Rattle.cow_merge.proofs.witness.cut_under.Given as goal

abbrev pub invariant-loop-page : goal.invariant-loop-page
invariant-loop-page l = record {
  from : l.way.from ≤ l.from;
  beside : (first : ℕ) (spared : Option NodeId) (above : Node) (to : ℕ) (s : Side) →
      IsBeside l.arena l.fn.lists l.fn.frames l.window.leaf.0 first spared l.window.hidden.0 above l.window.shift to s l.way l.way.from →
      IsBeside l.arena l.lists l.frames l.window.leaf.0 first spared l.window.hidden.0 above l.window.shift to s l.way l.from
      × Moves l.arena l.fn.lists l.lists l.fn.frames l.frames l.window.leaf.0 first IsPartOf;
  kept : (above : Node) → nodes_of l.arena l.window.hidden.0 ≡ Some above → slots_of l.lists above.list.0 ≡ slots_of l.fn.lists above.list.0;
}

abbrev pub decreases-loop-page : goal.decreases-loop-page
decreases-loop-page l = l.way.to - l.from
