use Rattle.std.proofs.Common.{◌∙◌}
use Rattle.source_vm.specs.Pages.{page_at}
use Rattle.source_vm.specs.Table.{backings_of, loose_links_of}
use Rattle.source_vm.proofs.EndLaws.{walked-from_end}
use Rattle.source_vm.proofs.page_bytes.load_text.Goals as goal

pub returns : goal.returns
returns g c =
    c.load_end.ensures
    ∙ walked-from_end (g.P.PageStore.content c.args.store.now) (backings_of c.args.table.now) (loose_links_of c.args.table.now) c.args.at.place.koid.0 c.args.at.place.page
    (page_at c.find_end-end.result.place) c.find_end-end.ensures.end
