use Rattle.std.proofs.Common.{◌≤◌, ◌-◌, ◌^◌}
use Rattle.page_list.specs.Lists.{slots_of}
use Rattle.tree_text.specs.Text.{rows_text}
use Rattle.tree_text.specs.inside.Pushing.{IsPushed}
use Rattle.tree_text.proofs.writing.write_rows.Given as goal

abbrev pub invariant-loop-page : goal.invariant-loop-page
invariant-loop-page g l = record {
  pushed : IsPushed (g.K.Sink.contents l.fn.sink) (g.K.Sink.contents l.sink)
      (rows_text (slots_of l.lists l.list.0) (2 ^ 64) 0) (rows_text (slots_of l.lists l.list.0) (2 ^ 64 - l.from) l.from);
  later : g.K.Sink.faults l.fn.sink ≤ g.K.Sink.faults l.sink;
}

abbrev pub decreases-loop-page : goal.decreases-loop-page
decreases-loop-page g l = 2 ^ 64 - l.from
