use Rattle.std.proofs.Common.{ap, ◌∙◌}
use Rattle.mapping_set.specs.Tables.{places_of}
use Rattle.mapping_set.proofs.SetLaws.{whole, last_is, in-index, AreMappings-less, table-less}
use Rattle.mapping_set.proofs.TakenLaws.{piece-less, piece-there}
use Rattle.mapping_set.proofs.mapping_set.MappingSet.take.Goals as goal

pub remove-requires : goal.remove-requires
remove-requires c =
    let found = in-index _ c.self.invariant _ c.self.view_is c.args.root.0 _ _ c.from.ensures c.remove-piece.result c.list_number-list.ensures.number
    c.args.last c.remove-piece.ensures.value in
    piece-there _ _ _ found.0 found.1

pub invariant_of-self : goal.invariant_of-self
invariant_of-self c =
    let found = in-index _ c.self.invariant _ c.self.view_is c.args.root.0 _ _ c.from.ensures c.remove-piece.result c.list_number-list.ensures.number
    c.args.last c.remove-piece.ensures.value in
    AreMappings-less _ c.self.invariant _ c.self.view_is c.args.root.0 _ _ c.from.ensures c.remove-piece.result c.list_number-list.ensures.number
    c.args.last c.remove-piece.ensures.value (record { pieces = c.remove-piece.new.self; taken = c.remove.new.self }) c.remove-piece.ensures.values
    (piece-less _ _ _ _ found.0 found.1 c.remove.ensures.extents).0

pub returns-clause-table : goal.returns-clause-table
returns-clause-table c =
    table-less _ c.self.invariant _ c.self.view_is c.args.root.0 _ _ c.from.ensures c.remove-piece.result c.list_number-list.ensures.number
    c.args.last c.remove-piece.ensures.value (record { pieces = c.remove-piece.new.self; taken = c.remove.new.self }) c.remove-piece.ensures.values

pub returns-clause-shown : goal.returns-clause-shown
returns-clause-shown c =
    whole _ c.self.invariant _ c.self.view_is c.args.root.0 _ _ c.from.ensures c.remove-piece.result c.list_number-list.ensures.number
    c.args.last c.remove-piece.ensures.value

pub returns-clause-last : goal.returns-clause-last
returns-clause-last c =
    last_is _ c.self.invariant _ c.self.view_is c.args.root.0 _ _ c.from.ensures c.remove-piece.result c.list_number-list.ensures.number
    c.args.last c.remove-piece.ensures.value

pub returns-clause-places : goal.returns-clause-places
returns-clause-places c =
    let found = in-index _ c.self.invariant _ c.self.view_is c.args.root.0 _ _ c.from.ensures c.remove-piece.result c.list_number-list.ensures.number
    c.args.last c.remove-piece.ensures.value in
    (piece-less _ _ _ _ found.0 found.1 c.remove.ensures.extents).1 ∙ ap places_of c.self.view_is
