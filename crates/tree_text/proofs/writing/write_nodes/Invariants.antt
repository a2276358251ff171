use Rattle.std.proofs.Common.{◌≤◌, length}
use Rattle.std.specs.Prelude.{IsSome, IfSome}
use Rattle.cow_arena.specs.Nodes.{nodes_of, link_to}
use Rattle.cow_split.specs.Trees.{tree_of}
use Rattle.tree_text.specs.Order.{nodes_below}
use Rattle.tree_text.specs.Text.{lines_text}
use Rattle.tree_text.specs.inside.Walking.{ahead_from}
use Rattle.tree_text.specs.inside.Pushing.{IsPushed}
use Rattle.tree_text.proofs.writing.write_nodes.Given as goal

abbrev pub invariant-loop-here : goal.invariant-loop-here
invariant-loop-here g l = record {
  pushed : IsPushed (g.K.Sink.contents l.fn.sink) (g.K.Sink.contents l.sink)
      (lines_text l.form (tree_of l.arena l.lists) (nodes_below (nodes_of l.arena) l.arena.lists (link_to l.fn.root.0)))
      (lines_text l.form (tree_of l.arena l.lists) (ahead_from (nodes_of l.arena) l.arena.lists l.here));
  there : IfSome l.here (λ at. IsSome (nodes_of l.arena at.0));
  later : g.K.Sink.faults l.fn.sink ≤ g.K.Sink.faults l.sink;
}

abbrev pub decreases-loop-here : goal.decreases-loop-here
decreases-loop-here g l = length (ahead_from (nodes_of l.arena) l.arena.lists l.here)
