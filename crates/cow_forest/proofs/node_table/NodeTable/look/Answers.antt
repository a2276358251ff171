use Rattle.cow_forest.proofs.Words.{sym, ◌∙◌, entries_of}
use Rattle.cow_forest.proofs.PlaceLaws.{found-own, found-displaced}
use Rattle.cow_forest.proofs.node_table.NodeTable.look.Goals as goal

pub returns-in-Some : goal.returns-in-Some
returns-in-Some c =
    let some = sym c.own_node.ensures ∙ c.in-Some.is in
    rw (← c.self.view_is) (found-own (entries_of c.self.inside) c.args.number c.in-Some.node (rw c.place_of.ensures at some))

pub returns-in-None : goal.returns-in-None
returns-in-None c =
    let none = sym c.own_node.ensures ∙ c.in-None.is in
    rw (← c.self.view_is) (found-displaced (entries_of c.self.inside) c.args.number (rw c.place_of.ensures at none) ∙ c.find.ensures)
