use Rattle.std.proofs.Common.{refl, arith}
use Rattle.line_server.proofs.Beginning.{IsBeingRead-fresh, IsReady-fresh}
use Rattle.line_server.proofs.reading.read_lines.Goals as goal

pub loop-end-init : goal.loop-end-init
loop-end-init g c = record {
  way = IsBeingRead-fresh g.T.Turn.turns _ _ _ _ c.requires.fresh;
  holds = c.requires.holds;
  ready = IsReady-fresh _ _ _ _ c.requires.fresh c.requires.few;
  limit = refl;
  later = omega arith;
}
