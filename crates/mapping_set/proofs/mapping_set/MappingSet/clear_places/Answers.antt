use Rattle.std.proofs.Common.{ap, sym, subst, ◌+◌, ◌∙◌}
use Rattle.pair_map.specs.Maps.{extents_of, IsOpen}
use Rattle.mapping_set.specs.Pieces.{list_number}
use Rattle.mapping_set.specs.inside.Taken.{pieces_in}
use Rattle.mapping_set.specs.Tables.{Mappings, table_of, places_in, places_of, IsBare}
use Rattle.mapping_set.proofs.GapLaws.{bare-open}
use Rattle.mapping_set.proofs.TakenLaws.{open-both, open-places}
use Rattle.mapping_set.proofs.mapping_set.MappingSet.clear_places.Goals as goal

pub clear_places-requires-clause-bare : goal.clear_places-requires-clause-bare
clear_places-requires-clause-bare c =
    subst (λ n. IsOpen (pieces_in (extents_of c.self.inside.taken) n) c.args.first c.args.count) (sym c.list_number.ensures.number)
    (bare-open _ c.self.invariant.pieces _ c.self.invariant.taken c.args.root.0 c.args.region.0 c.list_number.ensures.below.1 c.args.first c.args.count
    (subst (λ (m : Mappings). IsBare (table_of m c.args.root.0) c.args.first (c.args.first + c.args.count)) (sym c.self.view_is) c.requires.bare))

pub returns-clause-vacant : goal.returns-clause-vacant
returns-clause-vacant c =
    open-places (extents_of c.clear_places.new.taken) _ _ _
    (subst (λ n. IsOpen (extents_of c.clear_places.new.taken n) c.args.first c.args.count) c.list_number.ensures.number c.clear_places.ensures.vacant)

pub returns-clause-same : goal.returns-clause-same
returns-clause-same c = λ vacant.
    let bare = subst (λ n. IsOpen (pieces_in (extents_of c.self.inside.taken) n) c.args.first c.args.count) (sym c.list_number.ensures.number)
    (bare-open _ c.self.invariant.pieces _ c.self.invariant.taken c.args.root.0 c.args.region.0 c.list_number.ensures.below.1 c.args.first c.args.count
    (subst (λ (m : Mappings). IsBare (table_of m c.args.root.0) c.args.first (c.args.first + c.args.count)) (sym c.self.view_is) c.requires.bare)) in
    let none = subst (λ n. IsOpen (places_in (extents_of c.self.inside.taken) n) c.args.first c.args.count) (sym c.list_number.ensures.number)
    (subst (λ (m : Mappings). IsOpen (places_of m (list_number c.args.region.0 c.args.root.0)) c.args.first c.args.count) (sym c.self.view_is) vacant) in
    ap places_in (c.clear_places.ensures.same (open-both (extents_of c.self.inside.taken) _ _ _ bare none)) ∙ ap places_of c.self.view_is
