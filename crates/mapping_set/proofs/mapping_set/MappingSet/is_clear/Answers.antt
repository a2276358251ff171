use Rattle.std.proofs.Common.{IsTrue, ◌↔◌, subst}
use Rattle.pair_map.specs.Maps.{extents_of, IsOpen}
use Rattle.mapping_set.specs.Pieces.{list_number}
use Rattle.mapping_set.specs.Tables.{Mappings, table_of, places_of, IsClear}
use Rattle.mapping_set.proofs.GapLaws.{clear-is}
use Rattle.mapping_set.proofs.mapping_set.MappingSet.is_clear.Goals as goal

pub returns : goal.returns
returns c =
    let l = list_number c.args.region.0 c.args.root.0 in
    subst (λ (m : Mappings). IsTrue c.is_open.result ↔ IsClear (places_of m l) (table_of m) c.args.root.0 c.args.region.0 c.args.first c.args.count) c.self.view_is
    (clear-is _ c.self.invariant.pieces _ c.self.invariant.taken c.args.root.0 c.args.region.0 c.list_number.ensures.below.1 c.args.first c.args.count c.is_open.result
    (subst (λ n. IsTrue c.is_open.result ↔ IsOpen (extents_of c.self.inside.taken n) c.args.first c.args.count) c.list_number.ensures.number c.is_open.ensures))
