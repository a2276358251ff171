use Rattle.std.proofs.Common.{subst}
use Rattle.std.specs.Option.{MatchOption}
use Rattle.pair_map.specs.Maps.{values_of}
use Rattle.mapping_set.specs.Pieces.{IsHeld, HasNoHeld}
use Rattle.mapping_set.specs.Tables.{Mappings}
use Rattle.mapping_set.proofs.TableLaws.{held-next}
use Rattle.mapping_set.proofs.mapping_set.MappingSet.held.Goals as goal

pub returns : goal.returns
returns c =
    subst (λ (m : Mappings). MatchOption c.next.result (HasNoHeld (values_of m.pieces) c.args.root.0 c.args.from)
    (λ pair. IsHeld (values_of m.pieces) c.args.root.0 c.args.from pair.0 pair.1)) c.self.view_is
    (held-next _ c.self.invariant.pieces c.args.root.0 _ c.from.ensures c.args.from c.next.result c.next.ensures.next c.next.ensures.value)
