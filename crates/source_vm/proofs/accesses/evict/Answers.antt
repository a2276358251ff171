use Rattle.std.proofs.Common.{◌≡◌, ◌∙◌, ◌+◌, ◌/◌, ℕ, true, refl, sym, ap, arith}
use Rattle.vm_model.proofs.ContentLaws.{pages_of_le}
use Rattle.vm_base.specs.declared.limits.TheConstants.{PAGE}
use Rattle.vm_base.specs.Search.{any_from}
use Rattle.source_model.specs.State.{evicted}
use Rattle.source_vm.specs.Pages.{cleared, is_clean_at}
use Rattle.source_vm.specs.Table.{source_names_of, backings_of, loose_links_of, source_state_of}
use Rattle.source_vm.proofs.StepLaws.{kept_content, no_more, settled}
use Rattle.source_vm.proofs.RowLaws.{evict_lacked, evict_done}
use Rattle.source_vm.proofs.AccessLaws.{readable_of}
use Rattle.source_vm.proofs.TextLaws.{evict_tests, evicted_is}
use Rattle.source_vm.proofs.accesses.evict.Goals as goal

pub overflow_add-range : goal.overflow_add-range
overflow_add-range g c = omega (arith, c.in-Ok.ensures.ok.inside, pages_of_le _ c.in-Ok.found.0.0 c.requires.agrees.good.content)

pub evict_pages-requires-clause-source : goal.evict_pages-requires-clause-source
evict_pages-requires-clause-source g c = (readable_of _ _ _ _ c.requires.agrees.good).sources c.in-Ok.found.0.0 c.in-Ok.found.1 c.in-Ok.ensures.ok.backed

pub evict_pages-requires-clause-vmo : goal.evict_pages-requires-clause-vmo
evict_pages-requires-clause-vmo g c = c.requires.agrees.good.known c.args.range.name.0 c.in-Ok.found.0.0 c.in-Ok.ensures.ok.named

pub returns-in-Ok-evict_pages : goal.returns-in-Ok-evict_pages
returns-in-Ok-evict_pages g c =
    let t = c.args.table.now in
    let content = g.P.PageStore.content c.args.store.now in
    let s = source_state_of content t in
    let found = c.in-Ok.ensures.ok in
    let v = c.in-Ok.found.0.0 in
    let b = c.in-Ok.found.1 in
    let ends = c.in-Ok-evict_pages.ensures.ok ∙ (ap (λ (n : ℕ). cleared b content v n c.page_of-end.result) c.page_of-first.ensures
    ∙ (ap (λ (n : ℕ). cleared b content v (c.args.range.offset / PAGE) n) c.page_of-end.ensures
    ∙ evicted_is content (source_names_of t) (backings_of t) (loose_links_of t) v b found.backed (c.args.range.offset / PAGE) ((c.args.range.offset + c.args.range.len) / PAGE))) in
    settled s (record s { content = evicted s v (c.args.range.offset / PAGE) ((c.args.range.offset + c.args.range.len) / PAGE) }) _ _ _ (source_names_of t) (backings_of t) (loose_links_of t) c.requires.agrees.good
    (evict_done s c.args.range.name v found.named c.args.range.offset c.args.range.len found.aligned found.unlinked (no_more _ _ found.inside) _ refl) ends refl refl refl

pub returns-in-Err-evict_pages : goal.returns-in-Err-evict_pages
returns-in-Err-evict_pages g c =
    let t = c.args.table.now in
    let content = g.P.PageStore.content c.args.store.now in
    let found = c.in-Ok.ensures.ok in
    let v = c.in-Ok.found.0.0 in
    let b = c.in-Ok.found.1 in
    let clean : any_from (c.args.range.offset / PAGE) ((c.args.range.offset + c.args.range.len) / PAGE) (is_clean_at b content v) ≡ true =
    ap (λ (n : ℕ). any_from n ((c.args.range.offset + c.args.range.len) / PAGE) (is_clean_at b content v)) (sym c.page_of-first.ensures)
    ∙ (ap (λ (n : ℕ). any_from c.page_of-first.result n (is_clean_at b content v)) (sym c.page_of-end.ensures) ∙ c.in-Err-evict_pages.ensures.err) in
    kept_content content _ (source_names_of t) (backings_of t) (loose_links_of t) _ _ c.in-Err-evict_pages.ensures.same
    (evict_lacked (source_state_of content t) c.args.range.name v found.named c.args.range.offset c.args.range.len found.aligned found.unlinked (no_more _ _ found.inside)
    (evict_tests content (source_names_of t) (backings_of t) (loose_links_of t) v b found.backed (c.args.range.offset / PAGE) ((c.args.range.offset + c.args.range.len) / PAGE) ∙ clean))
