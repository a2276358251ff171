use Rattle.mapping_set.proofs.RestLaws.{rest-from}
use Rattle.mapping_set.proofs.mapping_set.MappingSet.next_piece.Goals as goal

pub returns-clause-whole : goal.returns-clause-whole
returns-clause-whole c =
    rest-from _ c.args.root.0 c.args.from c.in_ok-_last._last c.in_ok-_last.piece c.in_ok-_last.ensures c.max.result c.max.ensures c.from.result c.from.ensures
