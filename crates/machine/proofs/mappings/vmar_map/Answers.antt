use Rattle.std.proofs.Common.{refl, sym, ap, arith}
use Rattle.std.proofs.lemmas.Bool.{not-false}
use Rattle.vm_model.specs.declared.command.Command.TheVariants.{VmarMap}
use Rattle.vm_model.specs.Machine.State.{target_of}
use Rattle.vm_model.proofs.RegionLaws.{region_bounds}
use Rattle.page_store.proofs.NameLaws.{name_few}
use Rattle.region_tree.specs.Tree.{regions_of}
use Rattle.region_tree.proofs.NotedLaws.{apart-vacant}
use Rattle.region_ops.specs.Spaces.{with_all}
use Rattle.region_ops.specs.declared.placing.Wanted.{Wanted}
use Rattle.region_ops.proofs.UnmapLaws.{AreWell-all}
use Rattle.region_ops.proofs.MapSteps.{puttable, placed_apart, map_does}
use Rattle.machine.specs.inside.Fields.{state_in}
use Rattle.machine.proofs.ChangeLaws.{part_changed}
use Rattle.machine.proofs.HandleLaws.{inside_named, all_well_in, handles_refused}
use Rattle.machine.proofs.RegionLaws.{handles_does, handles_lack, told_at}
use Rattle.machine.proofs.mappings.vmar_map.Goals as goal

pub ask_to_map-requires-clause-end : goal.ask_to_map-requires-clause-end
ask_to_map-requires-clause-end g c = (region_bounds _ c.requires.good.spaces.regions _ _ (sym c.in-Some.ensures.region) (not-false _ c.if-not-above.false)).0

pub ask_to_map-requires-clause-inside : goal.ask_to_map-requires-clause-inside
ask_to_map-requires-clause-inside g c = rw c.of-of.ensures (inside_named c.requires c.args.request.mapped c.in-Some-resolve.ensures)

pub returns-in-Err-clause-does : goal.returns-in-Err-clause-does
returns-in-Err-clause-does g c =
    handles_refused c.requires.counted (sym ((rw c.of-of.ensures at c.in-Err.ensures) (state_in (g.P.PageStore.content c.args.pages.now) c.args.tables.now) c.args.request.mapped (sym c.in-Some-resolve.ensures))) tt

pub first_page-requires-clause-end : goal.first_page-requires-clause-end
first_page-requires-clause-end g c = (region_bounds _ c.requires.good.spaces.regions _ _ (sym c.in-Some.ensures.region) (not-false _ c.if-not-above.false)).0

pub returns-in_err-first-clause-does : goal.returns-in_err-first-clause-does
returns-in_err-first-clause-does g c = rw c.from_residual.ensures (record {
  place = record {
    none = sym ((rw c.of-of.ensures at c.in-Ok.ensures.0) (state_in (g.P.PageStore.content c.args.pages.now) c.args.tables.now) c.args.request.mapped (sym c.in-Some-resolve.ensures));
    asks = refl;
    is_told = c.in_err-first.ensures.told.0;
    never = λ address is new effect. (rw c.by-wanted.ensures at c.in_err-first.ensures.told.1) effect.0 (told_at effect.0 is effect.1) effect.2;
  };
  pages = refl;
  tables = refl;
})

pub piece_at-piece-requires : goal.piece_at-piece-requires
piece_at-piece-requires g c =
    let s = state_in (g.P.PageStore.content c.args.pages.now) c.args.tables.now in
    rw c.of-of.ensures (omega (arith, name_few s.content c.in-Some-resolve.target c.requires.good.content (inside_named c.requires c.args.request.mapped c.in-Some-resolve.ensures)))

pub map_at-requires-clause-well : goal.map_at-requires-clause-well
map_at-requires-clause-well g c = AreWell-all _ _ (state_in (g.P.PageStore.content c.args.pages.now) c.args.tables.now).spaces (all_well_in c.requires)

pub map_at-requires-clause-place : goal.map_at-requires-clause-place
map_at-requires-clause-place g c =
    let s = state_in (g.P.PageStore.content c.args.pages.now) c.args.tables.now in
    let none = sym ((rw c.of-of.ensures at c.in-Ok.ensures.0) s c.args.request.mapped (sym c.in-Some-resolve.ensures)) in
    rw (c.piece_at-piece.ensures, c.of-of.ensures, c.by-wanted.ensures)
    (puttable s c.args.request.region c.args.request.offset c.args.request.mapped c.args.request.vmo_offset c.args.request.len c.args.request.perm c.args.request.flags _ _
    (sym c.in-Some.ensures.region) (not-false _ c.if-not-above.false) (sym c.in-Some-resolve.ensures) _ none (rw c.by-wanted.ensures at c.in_ok-first.ensures.place) c.requires.good)

pub overflow_add-change : goal.overflow_add-change
overflow_add-change g c =
    let s = state_in (g.P.PageStore.content c.args.pages.now) c.args.tables.now in
    let none = sym ((rw c.of-of.ensures at c.in-Ok.ensures.0) s c.args.request.mapped (sym c.in-Some-resolve.ensures)) in
    let may = puttable s c.args.request.region c.args.request.offset c.args.request.mapped c.args.request.vmo_offset c.args.request.len c.args.request.perm c.args.request.flags _ _
    (sym c.in-Some.ensures.region) (not-false _ c.if-not-above.false) (sym c.in-Some-resolve.ensures) _ none (rw c.by-wanted.ensures at c.in_ok-first.ensures.place) c.requires.good in
    rw c.by-wanted.ensures (omega (arith, may.end))

pub overflow_mul-result : goal.overflow_mul-result
overflow_mul-result g c =
    let s = state_in (g.P.PageStore.content c.args.pages.now) c.args.tables.now in
    let none = sym ((rw c.of-of.ensures at c.in-Ok.ensures.0) s c.args.request.mapped (sym c.in-Some-resolve.ensures)) in
    let may = puttable s c.args.request.region c.args.request.offset c.args.request.mapped c.args.request.vmo_offset c.args.request.len c.args.request.perm c.args.request.flags _ _
    (sym c.in-Some.ensures.region) (not-false _ c.if-not-above.false) (sym c.in-Some-resolve.ensures) _ none (rw c.by-wanted.ensures at c.in_ok-first.ensures.place) c.requires.good in
    omega (arith, may.end)

pub returns-in-Ok-map_at-clause-does : goal.returns-in-Ok-map_at-clause-does
unfolding target_of
returns-in-Ok-map_at-clause-does g c =
    let s = state_in (g.P.PageStore.content c.args.pages.now) c.args.tables.now in
    let asked = rw c.of-of.ensures at c.in-Ok.ensures.0 in
    let none = sym (asked s c.args.request.mapped (sym c.in-Some-resolve.ensures)) in
    let place = rw c.by-wanted.ensures at c.in_ok-first.ensures.place in
    let regions = c.requires.good.spaces.regions in
    let live = not-false _ c.if-not-above.false in
    let apart = placed_apart s c.args.request.region c.args.request.offset c.args.request.mapped c.args.request.vmo_offset c.args.request.len c.args.request.perm c.args.request.flags _ _
    (sym c.in-Some.ensures.region) live (sym c.in-Some-resolve.ensures) _ none place in
    handles_does c.requires
    (map_does s.content c.args.tables.now.vmos s.spaces c.args.request.region c.args.request.offset c.args.request.mapped c.args.request.vmo_offset c.args.request.len c.args.request.perm c.args.request.flags _ _
    (sym c.in-Some.ensures.region) live (sym c.in-Some-resolve.ensures) _ (λ rest. sym (asked (with_all rest s.content c.args.tables.now.vmos s.spaces) c.args.request.mapped (sym c.in-Some-resolve.ensures)))
    place _ _ _ (rw (c.piece_at-piece.ensures, c.of-of.ensures) at c.in-Ok-map_at.ensures.puts))
    (rw (c.map_at.ensures.places (rw (c.piece_at-piece.ensures, c.of-of.ensures)
    (apart-vacant _ regions _ c.requires.counted.noted _ _ _ _ (region_bounds _ regions _ _ (sym c.in-Some.ensures.region) live).1 apart))) c.requires.counted.noted)
    (part_changed (regions_of c.args.tables.now.regions) c.args.request.region.0 (sym c.in-Some.ensures.region) _ c.args.request.len c.in_ok-first.first _ (omega arith) (ap (λ (w : Wanted). w.count) c.by-wanted.ensures))
    tt

pub returns-in-Err-map_at-clause-does : goal.returns-in-Err-map_at-clause-does
returns-in-Err-map_at-clause-does g c =
    let s = state_in (g.P.PageStore.content c.args.pages.now) c.args.tables.now in
    let puts = c.in-Err-map_at.ensures.puts in
    handles_lack (VmarMap c.args.request.region c.args.request.offset c.args.request.mapped c.args.request.vmo_offset c.args.request.len c.args.request.perm c.args.request.flags)
    c.requires.counted (sym ((rw c.of-of.ensures at c.in-Ok.ensures.0) s c.args.request.mapped (sym c.in-Some-resolve.ensures))) refl tt puts.0 puts.1 puts.2 puts.3
