use Rattle.std.proofs.Common.{refl}
use Rattle.source_vm.proofs.TableLaws.{pairs-with, AreIndexed-same, AreIndexed-linked}
use Rattle.source_vm.proofs.table.enter_link.Goals as goal

pub returns-clause-links : goal.returns-clause-links
returns-clause-links c = pairs-with _ _ _ _ c.insert.ensures.values

pub returns-clause-indexed : goal.returns-clause-indexed
returns-clause-indexed c =
    AreIndexed-same _ _ _ _ _ _ _ _ refl refl (pairs-with _ _ _ _ c.insert.ensures.values) refl
    (AreIndexed-linked _ _ _ _ _ c.requires.indexed c.args.v.0 c.args.link _ c.requires.other c.insert-2.ensures.values)
