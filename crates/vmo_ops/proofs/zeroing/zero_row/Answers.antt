use Rattle.std.proofs.Common.{sym, arith}
use Rattle.vm_model.proofs.ZeroingLaws.{zeroed-none}
use Rattle.vmo_ops.proofs.zeroing.zero_row.Goals as goal

pub returns-else-first-end-clause-zero : goal.returns-else-first-end-clause-zero
returns-else-first-end-clause-zero g c = sym (zeroed-none _ _ _ _ (λ p low high. absurd (omega (arith, c.if-first-end.false))))
