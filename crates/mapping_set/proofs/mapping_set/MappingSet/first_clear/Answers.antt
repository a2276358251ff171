use Rattle.std.proofs.Common.{subst}
use Rattle.balanced_tree.specs.Gaps.{IsFirstGapOrNone}
use Rattle.pair_map.specs.Maps.{extents_of, IsOpen}
use Rattle.mapping_set.specs.Pieces.{list_number}
use Rattle.mapping_set.specs.Tables.{Mappings, table_of, places_of, IsClear}
use Rattle.mapping_set.proofs.GapLaws.{first_clear-is}
use Rattle.mapping_set.proofs.mapping_set.MappingSet.first_clear.Goals as goal

pub returns : goal.returns
returns c =
    let l = list_number c.args.region.0 c.args.root.0 in
    subst (λ (m : Mappings). IsFirstGapOrNone (λ p. IsClear (places_of m l) (table_of m) c.args.root.0 c.args.region.0 p c.args.count) c.args.from c.args.count c.args.limit c.first_gap.result) c.self.view_is
    (first_clear-is _ c.self.invariant.pieces _ c.self.invariant.taken c.args.root.0 c.args.region.0 c.list_number.ensures.below.1
    c.args.from c.args.count c.args.limit c.first_gap.result
    (subst (λ n. IsFirstGapOrNone (λ p. IsOpen (extents_of c.self.inside.taken n) p c.args.count) c.args.from c.args.count c.args.limit c.first_gap.result) c.list_number.ensures.number c.first_gap.ensures))
