-- The sibling takes the parent's place, and then its list.
use Rattle.cow_arena.proofs.Words.{◌≡◌, Some, refl, sym, ap, subst, ◌∙◌, arith, is_some, with_value, Node, Arena, Nodes, nodes_of}
use Rattle.cow_arena.proofs.Words.{AreFamily, IsForest, spliced, spliced_over}
use Rattle.cow_arena.proofs.ArenaLaws.{IsAfter, Same, list_after, nodes_changed, family_same}
use Rattle.cow_arena.proofs.ViewLaws.{forest_seen}
use Rattle.cow_arena.proofs.RenamedOverLaws.{family-found, sibling-there, nodes-written, forest-written, keeps-walks_over}
use Rattle.cow_arena.proofs.RenamedOverLaws.{keeps-listed_over}
use Rattle.cow_arena.proofs.arena.CowArena.splice_over.Goals as goal

pub index_mut-requires : goal.index_mut-requires
index_mut-requires c =
    let f = forest_seen c.self.inside c.self.invariant c.args.self.now c.self.view_is in
    let it = family-found (nodes_of c.args.self.now) c.args.self.now.lists f c.args.leaf.0 c.in-Some-Some.hidden c.in-Some-Some.sibling
    c.index.result.now c.node.result (ap (λ (v : Arena). nodes_of v c.args.leaf.0) (sym c.self.view_is) ∙ c.index.ensures) c.in-Some-Some.is-0 c.node.ensures
    c.in-Some-Some.ensures.sibling in
    ap is_some (ap (λ (v : Arena). nodes_of v c.in-Some-Some.sibling.0) c.self-2.view_is
    ∙ sibling-there c.args.self.now c.splice.new.self f c.args.leaf.0 c.in-Some-Some.hidden.0 c.in-Some-Some.sibling.0 c.index.result.now c.node.result it.0 it.1
    (c.splice.ensures.nodes c.in-Some-Some.hidden.0 c.in-Some-Some.sibling.0 c.index.result.now c.node.result it.0 it.1))

old_forest : (c : goal.After-self-1) → IsForest (nodes_of c.args.self.now) c.args.self.now.lists
old_forest c = forest_seen c.self.inside c.self.invariant c.args.self.now c.self.view_is

family : (c : goal.After-self-1) →
    (other : Node) × AreFamily (nodes_of c.args.self.now) c.args.leaf.0 c.in-Some-Some.hidden.0 c.in-Some-Some.sibling.0 c.index.result.now c.node.result other
family c = family-found (nodes_of c.args.self.now) c.args.self.now.lists (old_forest c) c.args.leaf.0 c.in-Some-Some.hidden c.in-Some-Some.sibling
    c.index.result.now c.node.result (ap (λ (v : Arena). nodes_of v c.args.leaf.0) (sym c.self.view_is) ∙ c.index.ensures) c.in-Some-Some.is-0 c.node.ensures
    c.in-Some-Some.ensures.sibling

mid_is : (c : goal.After-self-1) → nodes_of c.splice.new.self
    ≡ spliced (nodes_of c.args.self.now) c.args.leaf.0 c.in-Some-Some.hidden.0 c.in-Some-Some.sibling.0 c.node.result (family c).0
mid_is c = let it = family c in c.splice.ensures.nodes _ _ _ _ it.0 it.1

was_at : (c : goal.After-self-1) → nodes_of c.splice.new.self c.in-Some-Some.sibling.0 ≡ Some c.index_mut.result.now
was_at c = ap (λ (v : Arena). nodes_of v c.in-Some-Some.sibling.0) (sym c.self-2.view_is) ∙ c.index_mut.ensures.value

after : (c : goal.After-self-1) → IsAfter c.splice.new.self (record (c.self-2.inside) {
  nodes = with_value c.self-2.inside.nodes c.in-Some-Some.sibling.0 (record (c.index_mut.result.now) { list = c.node.result.list });
}) Same Same
after c =
    let it = family c in
    list_after c.self-2.inside c.self-2.invariant c.splice.new.self c.self-2.view_is c.in-Some-Some.sibling.0 c.index_mut.result.now c.index_mut.ensures.value
    (record (c.index_mut.result.now) { list = c.node.result.list }) refl refl
    (forest-written c.args.self.now c.splice.new.self (old_forest c) _ _ _ _ _ it.0 it.1 (mid_is c) c.splice.ensures.lists c.splice.ensures.forest
    c.index_mut.result.now (was_at c))

pub invariant_of-self : goal.invariant_of-self
invariant_of-self c = (after c).arena

pub returns-clause-nodes : goal.returns-clause-nodes
returns-clause-nodes c = λ h s node parent sibling kin.
    let it = family c in
    nodes_changed c.self-2.inside c.splice.new.self c.in-Some-Some.sibling.0 c.index_mut.result.now
    (λ (node : Node). record node { list = c.node.result.list }) c.self-2.view_is c.index_mut.ensures.value c.index_mut.result.now (was_at c)
    ∙ (nodes-written c.args.self.now c.splice.new.self (old_forest c) _ _ _ _ _ it.0 it.1 (mid_is c) c.index_mut.result.now (was_at c)
    ∙ family_same (spliced_over (nodes_of c.args.self.now) c.args.leaf.0) (nodes_of c.args.self.now) c.args.leaf.0 _ _ _ _ _ _ _ _ _ _ it.1 kin)

pub returns-clause-hidden : goal.returns-clause-hidden
returns-clause-hidden c = let same = (after c).hidden in omega (arith, same, c.splice.ensures.hidden)

pub returns-clause-visible : goal.returns-clause-visible
returns-clause-visible c = let same = (after c).visible in omega (arith, same, c.splice.ensures.visible)

pub returns-clause-forest : goal.returns-clause-forest
returns-clause-forest c = (after c).arena.forest

lists_same : (c : goal.After-self-1) → c.self-2.inside.lists ≡ c.args.self.now.lists
lists_same c = ap (λ (v : Arena). v.lists) c.self-2.view_is ∙ c.splice.ensures.lists

pub returns-clause-walks : goal.returns-clause-walks
returns-clause-walks c = λ slots over h s node parent sibling kin rows empty.
    keeps-walks_over c.args.self.now _ c.self-2.inside.lists (old_forest c) (lists_same c) c.args.leaf.0 h s node parent sibling c.requires kin
    (returns-clause-nodes c h s node parent sibling kin)
    (subst (λ l. IsForest (spliced (nodes_of c.args.self.now) c.args.leaf.0 h s parent sibling) l) c.splice.ensures.lists
    (subst (λ (n : Nodes). IsForest n c.splice.new.self.lists) (c.splice.ensures.nodes h s node parent sibling kin) c.splice.ensures.forest))
    slots over rows empty

pub returns-clause-listed : goal.returns-clause-listed
returns-clause-listed c = λ slots h s node parent sibling kin left bare.
    keeps-listed_over c.args.self.now _ c.self-2.inside.lists (old_forest c) (lists_same c) c.args.leaf.0 h s node parent sibling c.requires kin
    (returns-clause-nodes c h s node parent sibling kin) slots bare left
