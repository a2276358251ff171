use Rattle.std.proofs.Common.{refl}
use Rattle.vm_base.specs.declared.names.Koid.{Koid}
use Rattle.vm_base.specs.declared.names.VmoName.{VmoName}
use Rattle.source_vm.proofs.TableLaws.{numbers-with, AreIndexed-same, AreIndexed-named}
use Rattle.source_vm.proofs.table.enter_name.Goals as goal

pub returns-clause-names : goal.returns-clause-names
returns-clause-names c = numbers-with (λ (v : Koid). v.0) _ _ _ _ c.insert.ensures.values

pub returns-clause-indexed : goal.returns-clause-indexed
returns-clause-indexed c =
    AreIndexed-same _ _ _ _ _ _ _ _ (numbers-with (λ (v : Koid). v.0) _ _ _ _ c.insert.ensures.values)
    (numbers-with (λ (n : VmoName). n.0) _ _ _ _ c.insert-2.ensures.values) refl refl
    (AreIndexed-named _ _ _ _ c.requires.indexed c.args.name.0 c.args.v.0 c.requires.closed c.requires.unnamed)
