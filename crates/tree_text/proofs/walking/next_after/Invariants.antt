use Rattle.std.proofs.Common.{◌≡◌}
use Rattle.std.specs.Prelude.{IsSome}
use Rattle.cow_arena.specs.Nodes.{nodes_of}
use Rattle.cow_split.specs.Cost.{depth}
use Rattle.tree_text.specs.inside.Walking.{nodes_after}
use Rattle.tree_text.proofs.walking.next_after.Given as goal

abbrev pub invariant-loop-up : goal.invariant-loop-up
invariant-loop-up l = record {
  after : nodes_after (nodes_of l.arena) l.arena.lists l.fn.passed.0 ≡ nodes_after (nodes_of l.arena) l.arena.lists l.at.0;
  there : IsSome (nodes_of l.arena l.at.0);
}

abbrev pub decreases-loop-up : goal.decreases-loop-up
decreases-loop-up l = depth (nodes_of l.arena) l.arena.lists l.at.0
