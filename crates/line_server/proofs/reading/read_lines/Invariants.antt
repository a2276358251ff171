use Rattle.std.proofs.Common.{◌≡◌, ◌≤◌}
use Rattle.line_server.specs.Serving.{IsBeingRead, IsReady, bytes_left}
use Rattle.line_server.proofs.reading.read_lines.Given as goal

abbrev pub invariant-loop-end : goal.invariant-loop-end
invariant-loop-end g l = record {
  way : IsBeingRead g.T.Turn.turns l.fn.lines.limit l.lines (g.S.Source.remaining l.fn.source) (g.S.Source.remaining l.source)
      (g.T.Turn.state l.fn.machine l.fn.store l.fn.sink) (g.T.Turn.state l.machine l.store l.sink);
  holds : g.T.Turn.Holds l.machine l.store;
  ready : IsReady l.lines (g.S.Source.remaining l.source) (g.T.Turn.count l.machine l.store);
  limit : l.lines.limit ≡ l.fn.lines.limit;
  later : g.S.Source.faults l.fn.source ≤ g.S.Source.faults l.source;
}

abbrev pub decreases-loop-end : goal.decreases-loop-end
decreases-loop-end g l = bytes_left l.lines
