use Rattle.std.proofs.Common.{rules, arith}
use Rattle.script_io.proofs.Moving.{Appends-more}
use Rattle.script_io.proofs.sink.push_all.Goals as goal

pub loop-at-preserved : goal.loop-at-preserved
loop-at-preserved g c = record {
  within = search rules;
  taken = Appends-more _ _ _ c.args.bytes.now c.loop-at.at _ c.loop-at.invariant.taken c.in_ok-at.ensures.bytes;
  later = omega (arith, c.in_ok-at.ensures.cause.later, c.loop-at.invariant.later);
}
