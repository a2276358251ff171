use Rattle.std.proofs.Common.{sym, subst}
use Rattle.pair_map.specs.Maps.{extents_of, IsOpen}
use Rattle.mapping_set.specs.Pieces.{list_number}
use Rattle.mapping_set.specs.Tables.{Mappings, table_of, places_of, IsClear}
use Rattle.mapping_set.proofs.GapLaws.{clear-open}
use Rattle.mapping_set.proofs.mapping_set.MappingSet.hold_place.Goals as goal

pub hold_place-requires-clause-free : goal.hold_place-requires-clause-free
hold_place-requires-clause-free c =
    let l = list_number c.args.region.0 c.args.root.0 in
    subst (λ n. IsOpen (extents_of c.self.inside.taken n) c.args.first c.args.count) (sym c.list_number.ensures.number)
    (clear-open _ c.self.invariant.pieces _ c.self.invariant.taken c.args.root.0 c.args.region.0 c.list_number.ensures.below.1 c.args.first c.args.count
    (subst (λ (m : Mappings). IsClear (places_of m l) (table_of m) c.args.root.0 c.args.region.0 c.args.first c.args.count) (sym c.self.view_is) c.requires.clear))
