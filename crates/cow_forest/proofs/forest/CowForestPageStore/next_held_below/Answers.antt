use Rattle.cow_forest.proofs.Words.{forest_of}
use Rattle.cow_forest.proofs.HeldLaws.{node-leaf, first-held}
use Rattle.cow_forest.proofs.forest.CowForestPageStore.next_held_below.Goals as goal

pub next_shown-requires-clause-leaf : goal.next_shown-requires-clause-leaf
next_shown-requires-clause-leaf c =
    node-leaf (forest_of c.self.inside) c.self.invariant.store c.args.v.0 c.get-leaf.result.0
    (c.self.invariant.store.named c.args.v.0 c.get-leaf.result c.get-leaf.ensures)

pub returns : goal.returns
returns c =
    let store = c.self.invariant.store in
    rw (← c.self.view_is) (first-held (forest_of c.self.inside) store c.args.v.0 c.get-leaf.result.0
    (store.named c.args.v.0 c.get-leaf.result c.get-leaf.ensures) c.args.from c.args.end c.next_shown.result c.next_shown.ensures)
