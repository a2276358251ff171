use Rattle.std.proofs.Common.{◌≡◌, None, refl, sym, ◌∙◌}
use Rattle.vm_base.proofs.EntryLaws.{none_is}
use Rattle.vm_model.specs.declared.command.Command.TheVariants.{VmoCreate}
use Rattle.vmo_table.specs.Table.{names_of, with_vmos}
use Rattle.checker_machine.proofs.WantLaws.{lack_asked}
use Rattle.checker_machine.proofs.wanting.create_wants.Goals as goal

pub returns : goal.returns
returns c = λ s d resizable.
    let t = with_vmos s d c.args.vmos.now in
    let none : names_of c.args.vmos.now c.args.name.0 ≡ None = none_is _ (rw c.resolve.ensures at (sym c.is_some.ensures ∙ c.if-is_some.false)) in
    lack_asked t (VmoCreate c.args.name c.args.size resizable) c.ask_to_create.result c.is_ok.ensures.value refl
    (λ pages e. (rw e at c.ask_to_create.ensures).2 t c.args.name resizable none) (λ refusal e. (rw e at c.ask_to_create.ensures) t c.args.name resizable none)
