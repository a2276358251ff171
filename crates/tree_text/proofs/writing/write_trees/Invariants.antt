use Rattle.std.proofs.Common.{◌≤◌, ◌-◌}
use Rattle.cow_forest.specs.Store.{tree}
use Rattle.tree_text.specs.Order.{all_nodes, nodes_from}
use Rattle.tree_text.specs.Text.{lines_text}
use Rattle.tree_text.specs.inside.Pushing.{IsPushed}
use Rattle.tree_text.proofs.writing.write_trees.Given as goal

abbrev pub invariant-loop-v : goal.invariant-loop-v
invariant-loop-v g l = record {
  pushed : IsPushed (g.K.Sink.contents l.fn.sink) (g.K.Sink.contents l.sink) (lines_text l.form (tree l.forest) (all_nodes l.forest))
      (lines_text l.form (tree l.forest) (nodes_from l.forest (l.next - l.v) l.v));
  later : g.K.Sink.faults l.fn.sink ≤ g.K.Sink.faults l.sink;
}
