use Rattle.std.proofs.Common.{◌∙◌, sym}
use Rattle.mapping_set.specs.Tables.{table_of}
use Rattle.region_tree.specs.Tree.{regions_of, spaces_of}
use Rattle.region_ops.proofs.MapSteps.{rows_refuse, place_refuses, none_refuses}
use Rattle.region_ops.proofs.mapping.ask_to_map.Goals as goal

pub returns-in-Some : goal.returns-in-Some
returns-in-Some g c = λ s name named.
    sym (rows_refuse (record s { content = g.P.PageStore.content c.args.store.now; spaces = spaces_of (regions_of c.args.regions.now) (table_of c.args.maps.now) })
    c.args.request.region c.args.request.offset name c.args.request.vmo_offset c.args.request.len c.args.request.perm c.args.request.flags c.args.searched.region c.args.request.mapped c.requires.above c.requires.live named _
    (rw c.by-wanted.ensures at (sym (rw c.pages_of_name-pages.ensures at c.map_refusal.ensures) ∙ c.in-Some.is)))

pub returns-in-Ok : goal.returns-in-Ok
returns-in-Ok g c =
    let place = rw c.by-wanted.ensures at c.in-Ok.ensures in (
      λ s name named.
          sym (none_refuses (record s { content = g.P.PageStore.content c.args.store.now; spaces = spaces_of (regions_of c.args.regions.now) (table_of c.args.maps.now) })
          c.args.request.region c.args.request.offset name c.args.request.vmo_offset c.args.request.len c.args.request.perm c.args.request.flags c.args.searched.region c.args.request.mapped c.requires.above c.requires.live named _
          (rw c.by-wanted.ensures at (sym (rw c.pages_of_name-pages.ensures at c.map_refusal.ensures) ∙ c.in_default.is)) place),
      place,
    )

pub returns-in-Err : goal.returns-in-Err
returns-in-Err g c = λ s name named.
    sym (place_refuses (record s { content = g.P.PageStore.content c.args.store.now; spaces = spaces_of (regions_of c.args.regions.now) (table_of c.args.maps.now) })
    c.args.request.region c.args.request.offset name c.args.request.vmo_offset c.args.request.len c.args.request.perm c.args.request.flags c.args.searched.region c.args.request.mapped c.requires.above c.requires.live named _
    (rw c.by-wanted.ensures at (sym (rw c.pages_of_name-pages.ensures at c.map_refusal.ensures) ∙ c.in_default.is))
    (rw c.by-wanted.ensures at c.in-Err.ensures.0) (rw c.by-wanted.ensures at c.in-Err.ensures.1))
