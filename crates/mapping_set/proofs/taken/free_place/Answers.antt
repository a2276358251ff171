use Rattle.std.proofs.Common.{sym}
use Rattle.mapping_set.proofs.TakenLaws.{place-less, place-not_piece, with_pair-kept}
use Rattle.mapping_set.proofs.taken.free_place.Goals as goal

pub remove-requires : goal.remove-requires
remove-requires c = (place-not_piece _ _ _ (c.is_place.ensures.yes c.if-is_place.true)).1

pub returns-then-is_place-clause-places : goal.returns-then-is_place-clause-places
returns-then-is_place-clause-places c = (place-less _ _ _ _ (place-not_piece _ _ _ (c.is_place.ensures.yes c.if-is_place.true)).0 c.remove.ensures.extents).1

pub returns-then-is_place-clause-pieces : goal.returns-then-is_place-clause-pieces
returns-then-is_place-clause-pieces c = (place-less _ _ _ _ (place-not_piece _ _ _ (c.is_place.ensures.yes c.if-is_place.true)).0 c.remove.ensures.extents).0

pub returns-else-is_place-clause-places : goal.returns-else-is_place-clause-places
returns-else-is_place-clause-places c = sym (with_pair-kept _ _ _ _ (c.is_place.ensures.no c.if-is_place.false))
