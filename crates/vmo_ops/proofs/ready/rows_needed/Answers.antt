use Rattle.std.proofs.Common.{inr, arith}
use Rattle.std.proofs.lemmas.List.FromFn.{length-range_with_len}
use Rattle.vmo_ops.proofs.ready.rows_needed.Goals as goal

pub returns-clause-some : goal.returns-clause-some
returns-clause-some g c = (
  (inr (rw length-range_with_len (omega arith)), rw length-range_with_len (omega arith)),
  omega (arith, c.need_of-need.ensures, c.free.ensures, c.from.ensures, c.if-need-from.false),
)
