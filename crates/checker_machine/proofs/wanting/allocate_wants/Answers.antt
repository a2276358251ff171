use Rattle.std.proofs.Common.{◌≡◌, None, refl, sym, ◌∙◌}
use Rattle.std.proofs.lemmas.Bool.{not-false}
use Rattle.vm_base.proofs.EntryLaws.{none_is, passes-some}
use Rattle.vm_model.specs.declared.command.Command.TheVariants.{VmarAllocate}
use Rattle.vm_model.specs.declared.space.Region.{Region}
use Rattle.mapping_set.specs.Tables.{table_of}
use Rattle.region_tree.specs.Tree.{regions_of, spaces_of}
use Rattle.region_ops.specs.Spaces.{with_spaces}
use Rattle.region_ops.proofs.PlaceLaws.{live_end}
use Rattle.checker_machine.proofs.WantLaws.{lack_asked}
use Rattle.checker_machine.proofs.wanting.allocate_wants.Goals as goal

pub ask_to_allocate-requires-clause-end : goal.ask_to_allocate-requires-clause-end
ask_to_allocate-requires-clause-end c =
    let given = sym c.in-Some.ensures.region in
    live_end _ _ _ c.get.ensures.good given (passes-some (λ (r : Region). r.live) (regions_of c.args.regions.now c.args.request.parent.0) _ given ∙ not-false _ c.if-not-above.false)

pub returns : goal.returns
returns c = λ s.
    let r = c.args.request in
    let t = with_spaces s (spaces_of (regions_of c.args.regions.now) (table_of c.args.maps.now)) in
    let none : regions_of c.args.regions.now c.args.name.0 ≡ None = none_is _ (rw c.get-2.ensures.region at (sym c.is_some.ensures ∙ c.if-is_some.false)) in
    lack_asked t (VmarAllocate c.args.name r.parent r.offset r.len r.flags r.caps) c.ask_to_allocate.result c.is_ok.ensures.value refl
    (λ first e. (rw e at c.ask_to_allocate.ensures).0 c.args.name none s) (λ refusal e. (rw e at c.ask_to_allocate.ensures) c.args.name none s)
