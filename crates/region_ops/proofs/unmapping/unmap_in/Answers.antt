use Rattle.std.proofs.Common.{sym, ◌∙◌}
use Rattle.mapping_set.specs.Tables.{table_of}
use Rattle.region_tree.specs.Tree.{regions_of, spaces_of}
use Rattle.vmo_table.specs.Table.{with_vmos}
use Rattle.region_ops.specs.Spaces.{with_all}
use Rattle.region_ops.proofs.PlaceLaws.{Step-refused}
use Rattle.region_ops.proofs.UnmapLaws.{AreWell-all, unmap_done, unmap_lacks}
use Rattle.region_ops.proofs.unmapping.unmap_in.Goals as goal

pub returns-in-Err-clause-does : goal.returns-in-Err-clause-does
returns-in-Err-clause-does g c = record {
  step = λ s well.
      Step-refused (with_all s (g.P.PageStore.content c.args.store.now) c.args.vmos.now (spaces_of (regions_of c.args.regions.now) (table_of c.args.maps.now))) _ _
      (sym (c.in-Err.ensures (table_of c.args.maps.now) (with_vmos s (g.P.PageStore.content c.args.store.now) c.args.vmos.now)));
  counted = λ s well. well.counted;
}

pub returns-in_default-clause-does : goal.returns-in_default-clause-does
returns-in_default-clause-does g c =
    let asked = c.in-Ok.ensures in
    rw (c.in_default.ensures.store, c.in_default.ensures.vmos, c.in_default.ensures.table) (record {
      step = λ s well.
          unmap_lacks (g.P.PageStore.content c.args.store.now) c.args.vmos.now (spaces_of (regions_of c.args.regions.now) (table_of c.args.maps.now))
          c.args.range.region c.args.range.addr c.args.range.len c.args.above c.requires.above
          (λ t. sym (asked.1 (table_of c.args.maps.now) (with_vmos t (g.P.PageStore.content c.args.store.now) c.args.vmos.now)))
          (rw asked.0 at c.in_default.ensures.mapped) s;
      counted = λ s well. well.counted;
    })

pub clear_mapped-requires : goal.clear_mapped-requires
clear_mapped-requires g c = record { well = AreWell-all _ _ _ c.requires.well }

pub returns-clause-does : goal.returns-clause-does
returns-clause-does g c =
    let asked = c.in-Ok.ensures in
    unmap_done (g.P.PageStore.content c.args.store.now) c.args.vmos.now (spaces_of (regions_of c.args.regions.now) (table_of c.args.maps.now))
    c.args.range.region c.args.range.addr c.args.range.len c.args.above c.requires.above
    (λ s. sym (asked.1 (table_of c.args.maps.now) (with_vmos s (g.P.PageStore.content c.args.store.now) c.args.vmos.now)))
    _ _ (table_of c.destroy_within.new.maps) _
    (c.destroy_within.ensures.table ∙ rw asked.0 at c.in-Ok-clear_mapped.ensures.cleared)
    (rw (sym c.destroy_within.ensures.table) at c.in-Ok-clear_mapped.ensures.gone)
    (rw asked.0 at c.destroy_within.ensures.regions)

pub returns-clause-noted : goal.returns-clause-noted
returns-clause-noted g c = λ noted. c.destroy_within.ensures.noted (rw c.in-Ok-clear_mapped.ensures.places noted)
