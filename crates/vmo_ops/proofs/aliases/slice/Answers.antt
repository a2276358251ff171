use Rattle.std.proofs.Common.{◌≡◌, ◌/◌, refl, sym, subst, arith}
use Rattle.vm_base.specs.Pages.{rounded}
use Rattle.vm_base.specs.declared.limits.TheConstants.{PAGE}
use Rattle.vm_model.specs.Machine.Words.{Reply}
use Rattle.vm_model.specs.declared.command.Command.TheVariants.{VmoChild}
use Rattle.vm_model.specs.declared.command.ChildKind.TheVariants.{Slice}
use Rattle.vm_model.specs.declared.names.Target.{Target}
use Rattle.vm_model.specs.declared.reply.Reply.TheVariants.{Done}
use Rattle.vm_model.specs.Machine.Step.{slice_of, with_alias}
use Rattle.vm_model.proofs.NamesLaws.{target_of-at}
use Rattle.vm_model.proofs.StepLaws.{Step-lacks}
use Rattle.vmo_table.specs.Table.{with_vmos}
use Rattle.vmo_ops.proofs.AskLaws.{Step-refused}
use Rattle.vmo_ops.proofs.StepRows.{Step-done}
use Rattle.vmo_ops.proofs.NameLaws.{named_inside, named_known}
use Rattle.vm_model.proofs.ContentLaws.{pages_of_le}
use Rattle.page_store.specs.Names.{IsInside}
use Rattle.vmo_ops.proofs.aliases.slice.Goals as goal

pub slice_target-requires : goal.slice_target-requires
slice_target-requires g c =
    let inside : IsInside (g.P.PageStore.content c.args.store.now) c.args.t.now = named_inside _ _ c.requires.parts.good c.requires.named in
    omega (arith, c.page_of.ensures, (c.in-Ok.ensures c.args.shape.no_write).3, inside.pages, pages_of_le (g.P.PageStore.content c.args.store.now) c.args.t.now.koid.0 c.requires.parts.good.content)

pub alias-requires-clause-koid : goal.alias-requires-clause-koid
alias-requires-clause-koid g c =
    rw (c.slice_target.ensures, c.reserve.ensures.lineage) (named_known _ _ c.requires.parts.good c.requires.named)

pub returns-in-Err-clause-step : goal.returns-in-Err-clause-step
returns-in-Err-clause-step g c = λ s parent named.
    Step-refused (with_vmos s (g.P.PageStore.content c.args.store.now) c.args.vmos.now) _ _ (c.in-Err.ensures c.args.shape.no_write s c.args.name parent named c.requires.closed)

pub returns-in_default-clause-step : goal.returns-in_default-clause-step
returns-in_default-clause-step g c = λ s parent named.
    rw (c.reserve.ensures.names, c.reserve.ensures.lineage) (Step-lacks (with_vmos s (g.P.PageStore.content c.args.store.now) c.args.vmos.now) _
    (sym ((c.in-Ok.ensures c.args.shape.no_write).0 s c.args.name parent named c.requires.closed)) refl)

pub returns-clause-step : goal.returns-clause-step
unfolding with_alias
returns-clause-step g c = λ s parent named.
    let old = with_vmos s (g.P.PageStore.content c.args.store.now) c.args.vmos.now in
    let asked = c.in-Ok.ensures c.args.shape.no_write in
    let names = rw (c.reserve.ensures.names, c.slice_target.ensures, c.page_of.ensures, asked.1) at c.alias.ensures.names in
    let lineage = rw c.reserve.ensures.lineage at c.alias.ensures.lineage in
    Step-done old (VmoChild c.args.name parent Slice c.args.shape.offset c.args.shape.size c.args.shape.resizable c.args.shape.no_write) Done _ (sym (asked.0 s c.args.name parent named c.requires.closed))
    (subst (λ (t : Target). (◌≡◌ {A = Reply} Done Done) × (with_vmos s (g.P.PageStore.content c.args.store.now) c.alias.new.self ≡ with_alias old c.args.name.0 (slice_of t (c.args.shape.offset / PAGE) (rounded c.args.shape.size / PAGE) c.args.shape.no_write)))
    (sym (target_of-at old parent.0 c.args.t.now named)) (refl, λ i. record old { names = names i; lineage = lineage i }))
