use Rattle.std.proofs.Common.{◌∙◌, sym}
use Rattle.page_store.proofs.LookLaws.{held_frame}
use Rattle.source_vm.specs.Table.{backings_of, loose_links_of}
use Rattle.source_vm.proofs.FillingLaws.{FillsPage-held, FillsPage-from}
use Rattle.source_vm.proofs.page_bytes.fill_page.Goals as goal

pub returns-in-Some-clause-fills : goal.returns-in-Some-clause-fills
returns-in-Some-clause-fills g c =
    let held = held_frame _ _ (sym c.in-Some.is ∙ c.requires.found) in
    FillsPage-held (backings_of c.args.table.now) (loose_links_of c.args.table.now) _ _ c.args.found.place.koid.0 c.args.found.place.page c.args.at c.args.bytes.now c.requires.readable c.requires.page
    c.requires.within held.0 held.1 c.write_page.ensures.writes

pub returns-in-None-clause-fills : goal.returns-in-None-clause-fills
returns-in-None-clause-fills g c =
    FillsPage-from (backings_of c.args.table.now) (loose_links_of c.args.table.now) _ _ c.args.found.place.koid.0 c.args.found.place.page c.args.at c.args.bytes.now c.requires.readable c.requires.page
    c.requires.within _ (rw c.load_text.ensures at c.patch.ensures) c.write_page-in-None.ensures.writes
