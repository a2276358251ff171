use Rattle.cow_forest.proofs.Words.{refl, sym, ap, ◌∙◌, arith, is_some, displaced_in, entries_of}
use Rattle.cow_forest.proofs.PlaceLaws.{found-displaced, entered-in, own-alone, changed-in}
use Rattle.cow_forest.proofs.node_table.NodeTable.redirect.Goals as goal

pub change-requires : goal.change-requires
change-requires c =
    let none = sym c.own_node.ensures ∙ c.in-None.is in
    let there = rw (← c.self.view_is) at c.requires in
    sym (ap is_some (found-displaced (entries_of c.self.inside) c.args.number (rw c.place_of-place.ensures at none))) ∙ there

pub returns-in-None : goal.returns-in-None
returns-in-None c =
    let none = sym c.own_node.ensures ∙ c.in-None.is in
    rw (← c.self.view_is)
    (changed-in (entries_of c.self.inside) _ c.args.number c.args.node refl (rw c.place_of-place.ensures at none) c.change.ensures)

pub returns-in-Some : goal.returns-in-Some
returns-in-Some c =
    let place = c.place_of-place.ensures in
    rw (← c.self.view_is)
    (entered-in (entries_of c.self.inside) c.self.invariant.placed c.args.number _ place (omega (arith, place, c.self.ranges)) c.args.node _ _
    (own-alone (entries_of c.self.inside) (displaced_in c.self.inside.displaced.entries) _ c.args.number (ap is_some (sym c.own_node.ensures ∙ c.in-Some.is))))
