use Rattle.std.proofs.Common.{refl, ap, ◌∙◌}
use Rattle.mapping_set.specs.Tables.{places_of}
use Rattle.mapping_set.proofs.SetLaws.{absent, open-index, AreMappings-more, table-more}
use Rattle.mapping_set.proofs.TakenLaws.{piece-more}
use Rattle.mapping_set.proofs.mapping_set.MappingSet.put.Goals as goal

pub insert-requires-clause-absent : goal.insert-requires-clause-absent
insert-requires-clause-absent c =
    absent _ c.self.invariant _ c.self.view_is c.args.root.0 _ _ c.from.ensures c.args.piece c.list_number-list.ensures.number
    c.list_number-list.ensures.below c.requires.some c.requires.end c.requires.pages c.requires.bare

pub insert-requires-2-clause-free : goal.insert-requires-2-clause-free
insert-requires-2-clause-free c =
    open-index _ c.self.invariant _ c.self.view_is c.args.root.0 _ _ c.from.ensures c.args.piece c.list_number-list.ensures.number
    c.list_number-list.ensures.below c.requires.some c.requires.end c.requires.pages c.requires.bare c.requires.vacant

pub invariant_of-self : goal.invariant_of-self
invariant_of-self c =
    AreMappings-more _ c.self.invariant _ c.self.view_is c.args.root.0 _ _ c.from.ensures c.args.piece c.list_number-list.ensures.number
    c.list_number-list.ensures.below c.requires.some c.requires.end c.requires.pages c.requires.bare (record { pieces = c.insert.new.self; taken = c.insert-2.new.self }) c.insert.ensures.values
    _ refl
    (piece-more _ _ _ _ c.len-apart.ensures.apart c.args.piece.count c.requires.some (open-index _ c.self.invariant _ c.self.view_is c.args.root.0 _ _ c.from.ensures c.args.piece c.list_number-list.ensures.number
    c.list_number-list.ensures.below c.requires.some c.requires.end c.requires.pages c.requires.bare c.requires.vacant) c.insert-2.ensures.extents).0

pub returns-clause-table : goal.returns-clause-table
returns-clause-table c =
    table-more _ c.self.invariant _ c.self.view_is c.args.root.0 _ _ c.from.ensures c.args.piece c.list_number-list.ensures.number
    c.list_number-list.ensures.below c.requires.some c.requires.end c.requires.pages c.requires.bare (record { pieces = c.insert.new.self; taken = c.insert-2.new.self }) c.insert.ensures.values

pub returns-clause-places : goal.returns-clause-places
returns-clause-places c =
    (piece-more _ _ _ _ c.len-apart.ensures.apart c.args.piece.count c.requires.some (open-index _ c.self.invariant _ c.self.view_is c.args.root.0 _ _ c.from.ensures c.args.piece c.list_number-list.ensures.number
    c.list_number-list.ensures.below c.requires.some c.requires.end c.requires.pages c.requires.bare c.requires.vacant) c.insert-2.ensures.extents).1
    ∙ ap places_of c.self.view_is
