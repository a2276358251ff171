use Rattle.std.proofs.Common.{sym, subst}
use Rattle.source_model.specs.Good.{IsGoodSources}
use Rattle.source_vm.proofs.LineLaws.{bare, IsGoodSources-bare}
use Rattle.source_vm.proofs.TableLaws.{AreIndexed-none}
use Rattle.source_vm.proofs.vm.SourceVm.new.Goals as goal

pub returns-clause-empty : goal.returns-clause-empty
returns-clause-empty g c = λ d good none. bare d _ _ _ good none c.new_table.ensures.names c.new_table.ensures.backings c.new_table.ensures.links

pub returns-clause-agrees : goal.returns-clause-agrees
returns-clause-agrees g c = λ d good none. record {
  good = subst IsGoodSources (sym (bare d _ _ _ good none c.new_table.ensures.names c.new_table.ensures.backings c.new_table.ensures.links)) (IsGoodSources-bare d good none);
  indexed = AreIndexed-none _ _ _ _ c.new_table.ensures.names c.new_table.ensures.owners c.new_table.ensures.links c.new_table.ensures.children;
}
