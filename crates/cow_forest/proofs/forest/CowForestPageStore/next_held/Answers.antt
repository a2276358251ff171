use Rattle.cow_forest.proofs.Words.{forest_of, Node, some_same, sym, ap, ◌∙◌, arith}
use Rattle.cow_forest.proofs.HeldLaws.{node-leaf, first-held, next-some, next-none}
use Rattle.cow_forest.proofs.forest.CowForestPageStore.next_held.Goals as goal

pub next_shown-requires-clause-leaf : goal.next_shown-requires-clause-leaf
next_shown-requires-clause-leaf c =
    node-leaf (forest_of c.self.inside) c.self.invariant.store c.args.v.0 c.get-leaf.result.0
    (c.self.invariant.store.named c.args.v.0 c.get-leaf.result c.get-leaf.ensures)

pub returns : goal.returns
returns c =
    let f = forest_of c.self.inside in
    let store = c.self.invariant.store in
    let node = store.named c.args.v.0 c.get-leaf.result c.get-leaf.ensures in
    let same = some_same (sym node.is.at ∙ c.look.ensures) in
    let first = first-held f store c.args.v.0 c.get-leaf.result.0 node c.args.from _ c.next_shown.result c.next_shown.ensures in
    rw (← c.self.view_is) (record {
      some = next-some f store c.args.v.0 c.get-leaf.result.0 node c.args.from _ c.next_shown.result first;
      none = next-none f store c.args.v.0 c.get-leaf.result.0 node c.args.from _ c.next_shown.result (omega (arith, ap (λ (n : Node). n.count) same)) first;
    })
