use Rattle.std.proofs.Common.{◌∙◌, ℕ, refl, sym, ap}
use Rattle.std.proofs.lemmas.Bool.{lt-ltb}
use Rattle.vm_base.specs.Entries.{with_key}
use Rattle.vm_model.proofs.ContentLaws.{pages_of-at}
use Rattle.source_model.specs.declared.link.Link.{Link}
use Rattle.vm_base.specs.declared.limits.TheConstants.{SOURCE_BYTES}
use Rattle.source_model.specs.State.{seen_of}
use Rattle.source_vm.specs.Table.{source_names_of, owners_of, backings_of, loose_links_of, children_of, source_state_of}
use Rattle.source_vm.proofs.StepLaws.{no_more, aligned_from, kept_all}
use Rattle.source_vm.proofs.TableLaws.{closed_from}
use Rattle.source_vm.proofs.TextLaws.{no_link_yet, no_owner_yet, no_child_yet}
use Rattle.source_vm.proofs.RowLaws.{loose_past, loose_lacked}
use Rattle.source_vm.proofs.ComingLaws.{loose_step}
use Rattle.source_vm.proofs.lifetimes.loose.Goals as goal

pub returns-in_default-pages_behind-clause-step : goal.returns-in_default-pages_behind-clause-step
returns-in_default-pages_behind-clause-step g c =
    let t = c.args.table.now in
    let content = g.P.PageStore.content c.args.store.now in
    loose_past (source_state_of content t) c.args.name (closed_from c.find-2.result _ c.is_some.result c.find-2.ensures c.is_some.ensures c.if-is_some.false)
    c.args.parent c.in-Some.of.0 c.in-Some.ensures c.args.offset c.args.size
    (aligned_from c.args.offset c.in_page.result c.in_page.ensures c.if-in_page-ne0.false) (lt-ltb SOURCE_BYTES _ c.in_default-pages_behind.ensures.none)

pub returns-in_default-reserve-clause-step : goal.returns-in_default-reserve-clause-step
returns-in_default-reserve-clause-step g c =
    let t = c.args.table.now in
    let content = g.P.PageStore.content c.args.store.now in
    kept_all content content (source_names_of t) _ (backings_of t) _ (loose_links_of t) _ _ _ refl c.reserve.ensures.names c.reserve.ensures.backings c.reserve.ensures.links
    (loose_lacked (source_state_of content t) c.args.name (closed_from c.find-2.result _ c.is_some.result c.find-2.ensures c.is_some.ensures c.if-is_some.false)
    c.args.parent c.in-Some.of.0 c.in-Some.ensures c.args.offset c.args.size
    (aligned_from c.args.offset c.in_page.result c.in_page.ensures c.if-in_page-ne0.false) (no_more SOURCE_BYTES _ c.in-Some-pages_behind.ensures.some.1))

pub returns-in_default-create-clause-step : goal.returns-in_default-create-clause-step
returns-in_default-create-clause-step g c =
    let t = c.args.table.now in
    let content = g.P.PageStore.content c.args.store.now in
    kept_all content _ (source_names_of t) _ (backings_of t) _ (loose_links_of t) _ _ _ c.in_default-create.ensures.err c.reserve.ensures.names c.reserve.ensures.backings c.reserve.ensures.links
    (loose_lacked (source_state_of content t) c.args.name (closed_from c.find-2.result _ c.is_some.result c.find-2.ensures c.is_some.ensures c.if-is_some.false)
    c.args.parent c.in-Some.of.0 c.in-Some.ensures c.args.offset c.args.size
    (aligned_from c.args.offset c.in_page.result c.in_page.ensures c.if-in_page-ne0.false) (no_more SOURCE_BYTES _ c.in-Some-pages_behind.ensures.some.1))

pub enter_link-requires-clause-other : goal.enter_link-requires-clause-other
enter_link-requires-clause-other g c =
    let t = c.args.table.now in
    let content = g.P.PageStore.content c.args.store.now in
    ap (λ links. links c.in-Ok-create.v.0) (c.enter_name.ensures.links ∙ c.reserve.ensures.links)
    ∙ (ap (λ (k : ℕ). loose_links_of t k) c.in-Ok-create.ensures.koid ∙ no_link_yet (source_state_of content t) c.requires.agrees.good)

pub enter_link-requires-clause-childless : goal.enter_link-requires-clause-childless
enter_link-requires-clause-childless g c =
    let t = c.args.table.now in
    let content = g.P.PageStore.content c.args.store.now in
    ap (λ children. children c.in-Some.of.0 c.in-Ok-create.v.0) (c.enter_name.ensures.children ∙ c.reserve.ensures.children)
    ∙ (ap (λ (k : ℕ). children_of t c.in-Some.of.0 k) c.in-Ok-create.ensures.koid
    ∙ no_child_yet (source_state_of content t) c.requires.agrees.good (owners_of t) (children_of t) c.requires.agrees.indexed c.in-Some.of.0)

pub returns-clause-step : goal.returns-clause-step
returns-clause-step g c =
    let t = c.args.table.now in
    let content = g.P.PageStore.content c.args.store.now in
    let v = c.in-Ok-create.v.0 in
    let l : Link = record { parent = c.in-Some.of; base = c.page_of-start.result; seen = c.seen_pages-seen.result } in
    let have = pages_of-at content c.in-Some.of.0 c.count.result c.count.ensures in
    loose_step content _ (source_names_of t) _ (backings_of t) _ (loose_links_of t) _ c.args.name v c.requires.agrees.good
    (closed_from c.find-2.result _ c.is_some.result c.find-2.ensures c.is_some.ensures c.if-is_some.false) c.in-Ok-create.ensures.koid
    (c.enter_link.ensures.names ∙ (c.enter_name.ensures.names ∙ ap (λ names. with_key names c.args.name.0 v) c.reserve.ensures.names))
    c.args.parent c.in-Some.of c.in-Some.ensures c.args.offset c.args.size c.page_of-start.result c.seen_pages-seen.result c.in-Some-pages_behind.pages
    (aligned_from c.args.offset c.in_page.result c.in_page.ensures c.if-in_page-ne0.false) (no_more SOURCE_BYTES _ c.in-Some-pages_behind.ensures.some.1)
    c.page_of-start.ensures c.in-Some-pages_behind.ensures.some.0
    (c.seen_pages-seen.ensures ∙ ap (λ (n : ℕ). seen_of n c.page_of-start.result c.in-Some-pages_behind.pages) (sym have))
    c.in-Ok-create.ensures.ok (c.enter_link.ensures.backings ∙ (c.enter_name.ensures.backings ∙ c.reserve.ensures.backings))
    (c.enter_link.ensures.links ∙ ap (λ links. with_key links v l) (c.enter_name.ensures.links ∙ c.reserve.ensures.links))

pub enter_name-requires-clause-closed : goal.enter_name-requires-clause-closed
enter_name-requires-clause-closed g c =
    ap (λ names. names c.args.name.0) c.reserve.ensures.names
    ∙ closed_from c.find-2.result _ c.is_some.result c.find-2.ensures c.is_some.ensures c.if-is_some.false

pub enter_name-requires-clause-unnamed : goal.enter_name-requires-clause-unnamed
enter_name-requires-clause-unnamed g c =
    let t = c.args.table.now in
    let content = g.P.PageStore.content c.args.store.now in
    ap (λ owners. owners c.in-Ok-create.v.0) c.reserve.ensures.owners
    ∙ (ap (λ (k : ℕ). owners_of t k) c.in-Ok-create.ensures.koid
    ∙ no_owner_yet (source_state_of content t) c.requires.agrees.good (owners_of t) (children_of t) c.requires.agrees.indexed)
