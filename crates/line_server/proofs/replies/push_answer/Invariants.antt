use Rattle.std.proofs.Common.{◌≤◌, take}
use Rattle.std.specs.List.{concat}
use Rattle.std.specs.Io.KnownBytes.{Appends}
use Rattle.vm_model.specs.Language.Text.{reply_lines}
use Rattle.line_server.proofs.replies.push_answer.Given as goal

abbrev pub invariant-loop-index : goal.invariant-loop-index
invariant-loop-index g l = record {
  written : Appends (g.K.Sink.contents l.fn.sink) (g.K.Sink.contents l.sink)
      (concat (take l.index (reply_lines l.answer)));
  later : g.K.Sink.faults l.fn.sink ≤ g.K.Sink.faults l.sink;
}
