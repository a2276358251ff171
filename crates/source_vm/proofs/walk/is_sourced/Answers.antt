use Rattle.std.proofs.Common.{◌∙◌, sym}
use Rattle.vm_base.proofs.EntryLaws.{passes-none, passes-some}
use Rattle.source_vm.proofs.walk.is_sourced.Goals as goal

pub returns-in-Some : goal.returns-in-Some
returns-in-Some c = sym (passes-some _ _ c.in-Some.backing (sym c.find.ensures ∙ c.in-Some.is))

pub returns-in-None : goal.returns-in-None
returns-in-None c = sym (passes-none _ _ (sym c.find.ensures ∙ c.in-None.is))
