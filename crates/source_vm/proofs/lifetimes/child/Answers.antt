use Rattle.std.proofs.Common.{◌∙◌, ℕ, refl, sym, ap, arith}
use Rattle.std.proofs.lemmas.Bool.{lt-ltb}
use Rattle.vm_base.specs.Entries.{with_key}
use Rattle.vm_model.proofs.ContentLaws.{pages_of-at}
use Rattle.vm_base.specs.declared.limits.TheConstants.{SOURCE_BYTES}
use Rattle.source_model.specs.State.{seen_of}
use Rattle.source_vm.specs.Table.{source_names_of, owners_of, backings_of, loose_links_of, children_of, source_state_of}
use Rattle.source_vm.proofs.StepLaws.{no_more, aligned_from, kept_all}
use Rattle.source_vm.proofs.TableLaws.{closed_from, AreIndexed-same}
use Rattle.source_vm.proofs.TextLaws.{no_backing_yet, no_owner_yet, first_fits}
use Rattle.source_vm.proofs.AccessLaws.{unlinked_of, linked_of}
use Rattle.source_vm.proofs.RowLaws.{child_loose, child_past, child_lacked}
use Rattle.source_vm.proofs.ComingLaws.{child_step}
use Rattle.source_vm.proofs.lifetimes.child.Goals as goal

pub returns-in_default-find-clause-step : goal.returns-in_default-find-clause-step
returns-in_default-find-clause-step g c =
    let t = c.args.table.now in
    let content = g.P.PageStore.content c.args.store.now in
    let s = source_state_of content t in
    let good = c.requires.agrees.good in
    let linked = linked_of s c.in-Some.of.0 good (good.known c.args.parent.0 c.in-Some.of.0 c.in-Some.ensures) (sym c.find-3.ensures ∙ c.in_default-find.is) in
    child_loose s c.args.name (closed_from c.find-2.result _ c.is_some.result c.find-2.ensures c.is_some.ensures c.if-is_some.false)
    c.args.parent c.in-Some.of.0 c.in-Some.ensures c.args.offset c.args.size
    (aligned_from c.args.offset c.in_page.result c.in_page.ensures c.if-in_page-ne0.false) linked.0 linked.1

pub returns-in_default-pages_behind-clause-step : goal.returns-in_default-pages_behind-clause-step
returns-in_default-pages_behind-clause-step g c =
    let t = c.args.table.now in
    let content = g.P.PageStore.content c.args.store.now in
    let s = source_state_of content t in
    let good = c.requires.agrees.good in
    let unlinked = unlinked_of s c.in-Some.of.0 c.in-Some-find.backing good (good.known c.args.parent.0 c.in-Some.of.0 c.in-Some.ensures) (sym c.find-3.ensures ∙ c.in-Some-find.is) in
    child_past s c.args.name (closed_from c.find-2.result _ c.is_some.result c.find-2.ensures c.is_some.ensures c.if-is_some.false)
    c.args.parent c.in-Some.of.0 c.in-Some.ensures c.args.offset c.args.size
    (aligned_from c.args.offset c.in_page.result c.in_page.ensures c.if-in_page-ne0.false) unlinked (lt-ltb SOURCE_BYTES _ c.in_default-pages_behind.ensures.none)

pub returns-in_default-reserve-clause-step : goal.returns-in_default-reserve-clause-step
returns-in_default-reserve-clause-step g c =
    let t = c.args.table.now in
    let content = g.P.PageStore.content c.args.store.now in
    let s = source_state_of content t in
    let good = c.requires.agrees.good in
    let unlinked = unlinked_of s c.in-Some.of.0 c.in-Some-find.backing good (good.known c.args.parent.0 c.in-Some.of.0 c.in-Some.ensures) (sym c.find-3.ensures ∙ c.in-Some-find.is) in
    kept_all content content (source_names_of t) _ (backings_of t) _ (loose_links_of t) _ _ _ refl c.reserve.ensures.names c.reserve.ensures.backings c.reserve.ensures.links
    (child_lacked s c.args.name (closed_from c.find-2.result _ c.is_some.result c.find-2.ensures c.is_some.ensures c.if-is_some.false)
    c.args.parent c.in-Some.of.0 c.in-Some.ensures c.args.offset c.args.size
    (aligned_from c.args.offset c.in_page.result c.in_page.ensures c.if-in_page-ne0.false) (no_more SOURCE_BYTES _ c.in-Some-pages_behind.ensures.some.1) unlinked)

pub returns-in_default-reserve-clause-indexed : goal.returns-in_default-reserve-clause-indexed
returns-in_default-reserve-clause-indexed g c =
    AreIndexed-same _ _ _ _ _ _ _ _ c.reserve.ensures.names c.reserve.ensures.owners c.reserve.ensures.links c.reserve.ensures.children c.requires.agrees.indexed

pub snapshot-requires-clause-range : goal.snapshot-requires-clause-range
snapshot-requires-clause-range g c =
    let have = pages_of-at (g.P.PageStore.content c.args.store.now) c.in-Some.of.0 c.count.result c.count.ensures in
    omega (arith, have, first_fits c.count.result c.page_of-start.result c.in-Some-pages_behind.pages _ _ c.seen_pages-seen.ensures c.first_of.ensures)

pub returns-in_default-snapshot-clause-step : goal.returns-in_default-snapshot-clause-step
returns-in_default-snapshot-clause-step g c =
    let t = c.args.table.now in
    let content = g.P.PageStore.content c.args.store.now in
    let s = source_state_of content t in
    let good = c.requires.agrees.good in
    let unlinked = unlinked_of s c.in-Some.of.0 c.in-Some-find.backing good (good.known c.args.parent.0 c.in-Some.of.0 c.in-Some.ensures) (sym c.find-3.ensures ∙ c.in-Some-find.is) in
    kept_all content _ (source_names_of t) _ (backings_of t) _ (loose_links_of t) _ _ _ c.in_default-snapshot.ensures.err c.reserve.ensures.names c.reserve.ensures.backings c.reserve.ensures.links
    (child_lacked s c.args.name (closed_from c.find-2.result _ c.is_some.result c.find-2.ensures c.is_some.ensures c.if-is_some.false)
    c.args.parent c.in-Some.of.0 c.in-Some.ensures c.args.offset c.args.size
    (aligned_from c.args.offset c.in_page.result c.in_page.ensures c.if-in_page-ne0.false) (no_more SOURCE_BYTES _ c.in-Some-pages_behind.ensures.some.1) unlinked)

pub returns-in_default-snapshot-clause-indexed : goal.returns-in_default-snapshot-clause-indexed
returns-in_default-snapshot-clause-indexed g c =
    AreIndexed-same _ _ _ _ _ _ _ _ c.reserve.ensures.names c.reserve.ensures.owners c.reserve.ensures.links c.reserve.ensures.children c.requires.agrees.indexed

pub enter_name-requires-clause-indexed : goal.enter_name-requires-clause-indexed
enter_name-requires-clause-indexed g c =
    AreIndexed-same _ _ _ _ _ _ _ _ c.reserve.ensures.names c.reserve.ensures.owners c.reserve.ensures.links c.reserve.ensures.children c.requires.agrees.indexed

pub enter_backing-requires-clause-other : goal.enter_backing-requires-clause-other
enter_backing-requires-clause-other g c =
    let t = c.args.table.now in
    let content = g.P.PageStore.content c.args.store.now in
    ap (λ backings. backings c.in-Ok-snapshot.v.0) (c.enter_name.ensures.backings ∙ c.reserve.ensures.backings)
    ∙ (ap (λ (k : ℕ). backings_of t k) c.in-Ok-snapshot.ensures.koid ∙ no_backing_yet (source_state_of content t) c.requires.agrees.good)

pub returns-clause-step : goal.returns-clause-step
returns-clause-step g c =
    let t = c.args.table.now in
    let content = g.P.PageStore.content c.args.store.now in
    let v = c.in-Ok-snapshot.v.0 in
    let have = pages_of-at content c.in-Some.of.0 c.count.result c.count.ensures in
    child_step content _ (source_names_of t) _ (backings_of t) _ (loose_links_of t) _ c.args.name v c.requires.agrees.good
    (closed_from c.find-2.result _ c.is_some.result c.find-2.ensures c.is_some.ensures c.if-is_some.false) c.in-Ok-snapshot.ensures.koid
    (c.enter_backing.ensures.names ∙ (c.enter_name.ensures.names ∙ ap (λ names. with_key names c.args.name.0 v) c.reserve.ensures.names))
    c.args.parent c.in-Some.of c.in-Some.ensures c.args.offset c.args.size c.page_of-start.result c.seen_pages-seen.result c.in-Some-pages_behind.pages
    (aligned_from c.args.offset c.in_page.result c.in_page.ensures c.if-in_page-ne0.false) (no_more SOURCE_BYTES _ c.in-Some-pages_behind.ensures.some.1)
    c.page_of-start.ensures c.in-Some-pages_behind.ensures.some.0
    (c.seen_pages-seen.ensures ∙ ap (λ (n : ℕ). seen_of n c.page_of-start.result c.in-Some-pages_behind.pages) (sym have))
    c.first_of.result c.in-Some-find.backing c.moved.result (sym c.find-3.ensures ∙ c.in-Some-find.is) c.moved.ensures c.first_of.ensures c.in-Ok-snapshot.ensures.ok
    (c.enter_backing.ensures.backings ∙ ap (λ backings. with_key backings v c.moved.result) (c.enter_name.ensures.backings ∙ c.reserve.ensures.backings))
    (c.enter_backing.ensures.links ∙ (c.enter_name.ensures.links ∙ c.reserve.ensures.links))

pub enter_name-requires-clause-closed : goal.enter_name-requires-clause-closed
enter_name-requires-clause-closed g c =
    ap (λ names. names c.args.name.0) c.reserve.ensures.names
    ∙ closed_from c.find-2.result _ c.is_some.result c.find-2.ensures c.is_some.ensures c.if-is_some.false

pub enter_name-requires-clause-unnamed : goal.enter_name-requires-clause-unnamed
enter_name-requires-clause-unnamed g c =
    let t = c.args.table.now in
    let content = g.P.PageStore.content c.args.store.now in
    ap (λ owners. owners c.in-Ok-snapshot.v.0) c.reserve.ensures.owners
    ∙ (ap (λ (k : ℕ). owners_of t k) c.in-Ok-snapshot.ensures.koid
    ∙ no_owner_yet (source_state_of content t) c.requires.agrees.good (owners_of t) (children_of t) c.requires.agrees.indexed)
