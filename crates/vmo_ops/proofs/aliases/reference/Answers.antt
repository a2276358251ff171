use Rattle.std.proofs.Common.{◌≡◌, refl, sym, subst}
use Rattle.vm_model.specs.Machine.Words.{Reply}
use Rattle.vm_model.specs.declared.command.Command.TheVariants.{VmoChild}
use Rattle.vm_model.specs.declared.command.ChildKind.TheVariants.{Reference}
use Rattle.vm_model.specs.declared.names.Target.{Target}
use Rattle.vm_model.specs.declared.reply.Reply.TheVariants.{Done}
use Rattle.vm_model.specs.Machine.Step.{reference_of, with_alias}
use Rattle.vm_model.proofs.NamesLaws.{target_of-at}
use Rattle.vm_model.proofs.StepLaws.{Step-lacks}
use Rattle.vmo_table.specs.Table.{with_vmos}
use Rattle.vmo_ops.proofs.AskLaws.{Step-refused}
use Rattle.vmo_ops.proofs.StepRows.{Step-done}
use Rattle.vm_model.specs.Machine.State.{State}
use Rattle.vmo_ops.proofs.aliases.reference.Goals as goal

pub returns-in-Err-clause-step : goal.returns-in-Err-clause-step
returns-in-Err-clause-step c = λ d s parent named.
    Step-refused (with_vmos s d c.args.vmos.now) _ _ (c.in-Err.ensures (λ (r : State). with_vmos r d c.args.vmos.now) s c.args.name parent named c.requires.closed)

pub returns-in_default-clause-step : goal.returns-in_default-clause-step
returns-in_default-clause-step c = λ d s parent named.
    rw (c.reserve.ensures.names, c.reserve.ensures.lineage) (Step-lacks (with_vmos s d c.args.vmos.now) _
    (sym (c.in-Ok.ensures (λ (r : State). with_vmos r d c.args.vmos.now) s c.args.name parent named c.requires.closed)) refl)

pub returns-clause-step : goal.returns-clause-step
unfolding with_alias
returns-clause-step c = λ d s parent named.
    let old = with_vmos s d c.args.vmos.now in
    let names = rw (c.reserve.ensures.names, c.reference_target.ensures) at c.alias.ensures.names in
    let lineage = rw c.reserve.ensures.lineage at c.alias.ensures.lineage in
    Step-done old (VmoChild c.args.name parent Reference c.args.shape.offset c.args.shape.size c.args.shape.resizable c.args.shape.no_write) Done _
    (sym (c.in-Ok.ensures (λ (r : State). with_vmos r d c.args.vmos.now) s c.args.name parent named c.requires.closed))
    (subst (λ (t : Target). (◌≡◌ {A = Reply} Done Done) × (with_vmos s d c.alias.new.self ≡ with_alias old c.args.name.0 (reference_of t c.args.shape.resizable c.args.shape.no_write)))
    (sym (target_of-at old parent.0 c.args.t.now named)) (refl, λ i. record old { names = names i; lineage = lineage i }))
