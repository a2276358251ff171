use Rattle.mapping_set.proofs.TakenLaws.{place-more}
use Rattle.mapping_set.proofs.taken.hold_place.Goals as goal

pub returns-clause-places : goal.returns-clause-places
returns-clause-places c = (place-more _ _ _ _ c.len-apart.ensures.apart c.args.count c.requires.some c.requires.free c.args.name c.insert.ensures.extents).1

pub returns-clause-pieces : goal.returns-clause-pieces
returns-clause-pieces c = (place-more _ _ _ _ c.len-apart.ensures.apart c.args.count c.requires.some c.requires.free c.args.name c.insert.ensures.extents).0
