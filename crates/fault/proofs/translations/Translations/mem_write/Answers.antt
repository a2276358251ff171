use Rattle.std.proofs.Common.{sym, ◌∙◌}
use Rattle.vm_base.proofs.SearchLaws.{eqb_is}
use Rattle.fault.proofs.ThroughLaws.{WritesSpace-none}
use Rattle.fault.proofs.translations.Translations.mem_write.Goals as goal

pub returns-then-is_empty-clause-outcome : goal.returns-then-is_empty-clause-outcome
returns-then-is_empty-clause-outcome g c = WritesSpace-none _ _ _ _ _ _ (eqb_is _ _ (sym c.is_empty.ensures ∙ c.if-is_empty.true))
