use Rattle.std.proofs.Common.{sym, arith}
use Rattle.page_store.proofs.NameLaws.{IsInside-good, name_few}
use Rattle.vm_model.proofs.RegionLaws.{region_bounds}
use Rattle.mapping_set.specs.Tables.{table_of}
use Rattle.region_tree.specs.Tree.{regions_of, spaces_of}
use Rattle.region_tree.proofs.NotedLaws.{apart-vacant}
use Rattle.region_ops.specs.Spaces.{with_all}
use Rattle.region_ops.proofs.PlaceLaws.{Step-refused}
use Rattle.region_ops.proofs.MapSteps.{lacks_step, map_does, puttable, placed_apart}
use Rattle.region_ops.proofs.UnmapLaws.{AreWell-all}
use Rattle.region_ops.proofs.mapping.map_in.Goals as goal

pub ask_to_map-requires-clause-inside : goal.ask_to_map-requires-clause-inside
ask_to_map-requires-clause-inside g c =
    IsInside-good (with_all c.requires.well.rest (g.P.PageStore.content c.args.store.now) c.args.vmos.now (spaces_of (regions_of c.args.regions.now) (table_of c.args.maps.now)))
    c.requires.named.0 _ c.requires.well.well.good c.requires.named.1

pub returns-in-Err-clause-does : goal.returns-in-Err-clause-does
returns-in-Err-clause-does g c = λ name named. record {
  step = λ s well. Step-refused (with_all s (g.P.PageStore.content c.args.store.now) c.args.vmos.now (spaces_of (regions_of c.args.regions.now) (table_of c.args.maps.now))) _ _ (sym (c.in-Err.ensures (with_all s (g.P.PageStore.content c.args.store.now) c.args.vmos.now (spaces_of (regions_of c.args.regions.now) (table_of c.args.maps.now))) name named));
  counted = λ s well. well.counted;
}

pub piece_at-piece-requires : goal.piece_at-piece-requires
piece_at-piece-requires g c =
    let old = (with_all c.requires.well.rest (g.P.PageStore.content c.args.store.now) c.args.vmos.now (spaces_of (regions_of c.args.regions.now) (table_of c.args.maps.now))) in
    let good = c.requires.well.well.good in
    omega (arith, name_few old.content c.args.request.mapped good.content (IsInside-good old c.requires.named.0 _ good c.requires.named.1))

pub map_at-requires-clause-well : goal.map_at-requires-clause-well
map_at-requires-clause-well g c = AreWell-all _ _ (spaces_of (regions_of c.args.regions.now) (table_of c.args.maps.now)) c.requires.well

pub map_at-requires-clause-place : goal.map_at-requires-clause-place
map_at-requires-clause-place g c =
    let old = (with_all c.requires.well.rest (g.P.PageStore.content c.args.store.now) c.args.vmos.now (spaces_of (regions_of c.args.regions.now) (table_of c.args.maps.now))) in
    rw (c.piece_at-piece.ensures, c.contains-overwriting.ensures tt)
    (puttable old c.args.request.region c.args.request.offset (record { 0 = c.requires.named.0 }) c.args.request.vmo_offset c.args.request.len c.args.request.perm c.args.request.flags _ _
    c.requires.above c.requires.live c.requires.named.1 _ (sym (c.in-Ok.ensures.0 old (record { 0 = c.requires.named.0 }) c.requires.named.1)) c.in-Ok.ensures.1 c.requires.well.well.good)

pub overflow_mul-result : goal.overflow_mul-result
overflow_mul-result g c =
    let old = (with_all c.requires.well.rest (g.P.PageStore.content c.args.store.now) c.args.vmos.now (spaces_of (regions_of c.args.regions.now) (table_of c.args.maps.now))) in
    let may = puttable old c.args.request.region c.args.request.offset (record { 0 = c.requires.named.0 }) c.args.request.vmo_offset c.args.request.len c.args.request.perm c.args.request.flags _ _
    c.requires.above c.requires.live c.requires.named.1 _ (sym (c.in-Ok.ensures.0 old (record { 0 = c.requires.named.0 }) c.requires.named.1)) c.in-Ok.ensures.1 c.requires.well.well.good in
    omega (arith, may.end)

pub returns-in-Ok-map_at-clause-does : goal.returns-in-Ok-map_at-clause-does
returns-in-Ok-map_at-clause-does g c = λ name named.
    map_does _ _ (spaces_of (regions_of c.args.regions.now) (table_of c.args.maps.now)) _ _ _ _ _ _ _ _ _ c.requires.above c.requires.live named _
    (λ s. sym (c.in-Ok.ensures.0 (with_all s (g.P.PageStore.content c.args.store.now) c.args.vmos.now (spaces_of (regions_of c.args.regions.now) (table_of c.args.maps.now))) name named)) c.in-Ok.ensures.1 _ _ _ (rw c.piece_at-piece.ensures at c.in-Ok-map_at.ensures.puts)

pub returns-in-Err-map_at-clause-does : goal.returns-in-Err-map_at-clause-does
returns-in-Err-map_at-clause-does g c = rw (c.in-Err-map_at.ensures.puts.0, c.in-Err-map_at.ensures.puts.1, c.in-Err-map_at.ensures.puts.2) (λ name named. record {
  step = λ s well.
      lacks_step _ _ _ _ _ _ _ _ _ _ c.requires.above c.requires.live named _
      (sym (c.in-Ok.ensures.0 (with_all s (g.P.PageStore.content c.args.store.now) c.args.vmos.now (spaces_of (regions_of c.args.regions.now) (table_of c.args.maps.now))) name named)) c.in-Ok.ensures.1;
  counted = λ s well. well.counted;
})

pub returns-in-Ok-map_at-clause-places : goal.returns-in-Ok-map_at-clause-places
returns-in-Ok-map_at-clause-places g c = λ on.
    let old = (with_all c.requires.well.rest (g.P.PageStore.content c.args.store.now) c.args.vmos.now (spaces_of (regions_of c.args.regions.now) (table_of c.args.maps.now))) in
    let good = c.requires.well.well.good.spaces.regions in
    let apart = placed_apart old c.args.request.region c.args.request.offset (record { 0 = c.requires.named.0 }) c.args.request.vmo_offset c.args.request.len c.args.request.perm c.args.request.flags _ _
    c.requires.above c.requires.live c.requires.named.1 _ (sym (c.in-Ok.ensures.0 old (record { 0 = c.requires.named.0 }) c.requires.named.1)) c.in-Ok.ensures.1 in
    c.map_at.ensures.places (rw c.piece_at-piece.ensures
    (apart-vacant _ good _ (c.requires.noted on) _ _ _ _ (region_bounds _ good _ _ c.requires.above c.requires.live).1 apart))

pub returns-in-Err-map_at-clause-places : goal.returns-in-Err-map_at-clause-places
returns-in-Err-map_at-clause-places g c = λ on. c.in-Err-map_at.ensures.puts.3
