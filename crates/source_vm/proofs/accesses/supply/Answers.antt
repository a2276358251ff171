use Rattle.std.proofs.Common.{arith}
use Rattle.vm_model.proofs.ContentLaws.{pages_of_le}
use Rattle.source_vm.specs.Table.{source_names_of, backings_of, loose_links_of}
use Rattle.source_vm.proofs.StepLaws.{kept_content, no_more}
use Rattle.source_vm.proofs.RowLaws.{supply_refused}
use Rattle.source_vm.proofs.AccessLaws.{readable_of, supply_supplied, supply_lacks}
use Rattle.source_vm.proofs.accesses.supply.Goals as goal

pub returns-in-Err : goal.returns-in-Err
returns-in-Err g c = supply_refused _ c.args.range.name c.args.range.offset c.args.range.len c.in-Err.refusal c.in-Err.ensures.err

pub touched_pages-first-requires : goal.touched_pages-first-requires
touched_pages-first-requires g c = omega (arith, c.in-Ok.ensures.ok.inside, pages_of_le _ c.in-Ok.found.0.0 c.requires.agrees.good.content)

pub supply_pages-requires-clause-readable : goal.supply_pages-requires-clause-readable
supply_pages-requires-clause-readable g c = readable_of _ _ _ _ c.requires.agrees.good

pub supply_pages-requires-clause-vmo : goal.supply_pages-requires-clause-vmo
supply_pages-requires-clause-vmo g c = c.requires.agrees.good.known c.args.range.name.0 c.in-Ok.found.0.0 c.in-Ok.ensures.ok.named

pub supply_pages-requires-clause-inside : goal.supply_pages-requires-clause-inside
supply_pages-requires-clause-inside g c = omega (arith, c.in-Ok.ensures.ok.inside, c.touched_pages-first.ensures.end)

pub returns-in-Ok-supply_pages : goal.returns-in-Ok-supply_pages
returns-in-Ok-supply_pages g c =
    let t = c.args.table.now in
    let content = g.P.PageStore.content c.args.store.now in
    let found = c.in-Ok.ensures.ok in
    supply_supplied content (source_names_of t) (backings_of t) (loose_links_of t) c.args.range.name c.in-Ok.found.0.0 found.named c.args.range.offset c.args.range.len (no_more _ _ found.inside) _ _ c.touched_pages-first.ensures.pages
    c.in-Ok.found.1 found.backed found.unlinked found.aligned _ c.in-Ok-supply_pages.ensures.free c.in-Ok-supply_pages.ensures.ok

pub returns-in-Err-supply_pages : goal.returns-in-Err-supply_pages
returns-in-Err-supply_pages g c =
    let t = c.args.table.now in
    let content = g.P.PageStore.content c.args.store.now in
    let found = c.in-Ok.ensures.ok in
    kept_content content _ (source_names_of t) (backings_of t) (loose_links_of t) _ _ c.in-Err-supply_pages.ensures.same
    (supply_lacks content (source_names_of t) (backings_of t) (loose_links_of t) c.args.range.name c.in-Ok.found.0.0 found.named c.args.range.offset c.args.range.len (no_more _ _ found.inside) _ _ c.touched_pages-first.ensures.pages
    c.in-Ok.found.1 found.backed found.unlinked found.aligned _ c.in-Err-supply_pages.ensures.err)
