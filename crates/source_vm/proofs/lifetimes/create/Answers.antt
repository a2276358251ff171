use Rattle.std.proofs.Common.{◌∙◌, ◌/◌, ℕ, refl, ap, arith}
use Rattle.vm_base.specs.declared.limits.TheConstants.{PAGE, SOURCE_BYTES, SOURCE_KIND_MAX}
use Rattle.vm_base.specs.Entries.{with_key}
use Rattle.source_model.specs.declared.backing.Backing.{Backing}
use Rattle.source_vm.specs.Table.{source_names_of, owners_of, backings_of, loose_links_of, children_of, source_state_of}
use Rattle.source_vm.proofs.StepLaws.{no_more}
use Rattle.source_vm.proofs.TableLaws.{closed_from}
use Rattle.source_vm.proofs.TextLaws.{no_backing_yet, no_owner_yet}
use Rattle.source_vm.proofs.ComingLaws.{create_step}
use Rattle.source_vm.proofs.lifetimes.create.Goals as goal

pub enter_name-requires-clause-closed : goal.enter_name-requires-clause-closed
enter_name-requires-clause-closed g c =
    ap (λ names. names c.args.name.0) c.reserve.ensures.names
    ∙ closed_from c.find.result _ c.is_some.result c.find.ensures c.is_some.ensures c.if-is_some.false

pub enter_name-requires-clause-unnamed : goal.enter_name-requires-clause-unnamed
enter_name-requires-clause-unnamed g c =
    let t = c.args.table.now in
    let content = g.P.PageStore.content c.args.store.now in
    ap (λ owners. owners c.in-Ok-create.v.0) c.reserve.ensures.owners
    ∙ (ap (λ (k : ℕ). owners_of t k) c.in-Ok-create.ensures.koid
    ∙ no_owner_yet (source_state_of content t) c.requires.agrees.good (owners_of t) (children_of t) c.requires.agrees.indexed)

pub enter_backing-requires-clause-other : goal.enter_backing-requires-clause-other
enter_backing-requires-clause-other g c =
    let t = c.args.table.now in
    let content = g.P.PageStore.content c.args.store.now in
    ap (λ backings. backings c.in-Ok-create.v.0) (c.enter_name.ensures.backings ∙ c.reserve.ensures.backings)
    ∙ (ap (λ (k : ℕ). backings_of t k) c.in-Ok-create.ensures.koid ∙ no_backing_yet (source_state_of content t) c.requires.agrees.good)

pub returns-clause-step : goal.returns-clause-step
returns-clause-step g c =
    let t = c.args.table.now in
    let content = g.P.PageStore.content c.args.store.now in
    let v = c.in-Ok-create.v.0 in
    let b : Backing = record { kind = c.args.kind; seed = c.args.seed; base = 0; seen = c.page_of-pages.result } in
    create_step content _ (source_names_of t) _ (backings_of t) _ (loose_links_of t) _ c.args.name v c.requires.agrees.good
    (closed_from c.find.result _ c.is_some.result c.find.ensures c.is_some.ensures c.if-is_some.false) c.in-Ok-create.ensures.koid
    (c.enter_backing.ensures.names ∙ (c.enter_name.ensures.names ∙ ap (λ names. with_key names c.args.name.0 v) c.reserve.ensures.names))
    c.args.size c.args.kind c.args.seed c.page_of-pages.result b refl
    (no_more SOURCE_KIND_MAX c.args.kind (omega (arith, c.if-kind-gt-SOURCE_KIND_MAX.false))) (no_more SOURCE_BYTES _ (c.in-Some.ensures.fits.0 refl))
    (c.page_of-pages.ensures ∙ ap (λ (n : ℕ). n / PAGE) c.in-Some.ensures.value) c.in-Ok-create.ensures.ok
    (c.enter_backing.ensures.backings ∙ ap (λ backings. with_key backings v b) (c.enter_name.ensures.backings ∙ c.reserve.ensures.backings))
    (c.enter_backing.ensures.links ∙ (c.enter_name.ensures.links ∙ c.reserve.ensures.links))
