use Rattle.vm_model.proofs.LeavingLaws.{name_vmo, name_lineage}
use Rattle.page_store.proofs.NameLaws.{IsInside-good}
use Rattle.vmo_table.specs.Table.{with_vmos}
use Rattle.attribution.proofs.vmo_info.info.Goals as goal

pub count_held-counts-requires-clause-vmo : goal.count_held-counts-requires-clause-vmo
count_held-counts-requires-clause-vmo g c =
    name_vmo (with_vmos c.requires.parts.rest (g.P.PageStore.content c.args.store.now) c.args.vmos.now)
    c.requires.named.0 c.args.t.now c.requires.parts.good c.requires.named.1

pub size_of_name-requires-clause-inside : goal.size_of_name-requires-clause-inside
size_of_name-requires-clause-inside g c =
    IsInside-good (with_vmos c.requires.parts.rest (g.P.PageStore.content c.args.store.now) c.args.vmos.now)
    c.requires.named.0 c.args.t.now c.requires.parts.good c.requires.named.1

pub children-requires : goal.children-requires
children-requires g c =
    name_lineage (with_vmos c.requires.parts.rest (g.P.PageStore.content c.args.store.now) c.args.vmos.now)
    c.requires.named.0 c.args.t.now c.requires.parts.good c.requires.named.1
