use Rattle.std.proofs.Common.{◌<◌, inl, inr, subst, sym}
use Rattle.vmotree.proofs.EndLaws.{failed-some}
use Rattle.vmotree.proofs.drawing.draw.Goals as goal

pub returns-clause-write_cause : goal.returns-clause-write_cause
returns-clause-write_cause g c = λ e. elim (c.draw_last.ensures.cause e) [
  | inl was ↦ subst (λ sink. 0 < g.K.Sink.faults sink) (sym (c.draw_last.ensures.still was)) (failed-some _ _ (c.run_script-status.ensures.write_cause was))
  | inr failed ↦ failed-some _ _ failed
]
