use Rattle.std.proofs.Common.{refl}
use Rattle.vm_base.specs.declared.names.Koid.{Koid}
use Rattle.vm_base.specs.declared.names.VmoName.{VmoName}
use Rattle.source_vm.proofs.TableLaws.{mapped_some, numbers-without, AreIndexed-same, AreIndexed-closed}
use Rattle.source_vm.proofs.table.leave_name.Goals as goal

pub returns-clause-names : goal.returns-clause-names
returns-clause-names c = numbers-without (λ (v : Koid). v.0) _ _ _ c.remove.ensures.values

pub returns-clause-indexed : goal.returns-clause-indexed
returns-clause-indexed c =
    AreIndexed-same _ _ _ _ _ _ _ _ (numbers-without (λ (v : Koid). v.0) _ _ _ c.remove.ensures.values)
    (numbers-without (λ (n : VmoName). n.0) _ _ _ c.remove-2.ensures.values) refl refl
    (AreIndexed-closed _ _ _ _ c.requires.indexed c.args.name.0 c.args.v.0 c.requires.open)

pub remove-requires-2 : goal.remove-requires-2
remove-requires-2 c = mapped_some (λ (n : VmoName). n.0) _ _ (c.requires.indexed.named c.args.name.0 c.args.v.0 c.requires.open)
