use Rattle.cow_arena.proofs.Words.{rules, ℕ, sym, ap, ◌∙◌, ◌-◌, ◌≡◌, get, Node, Arena, AreFamily, nodes_of, other_side, side_of, spliced}
use Rattle.cow_arena.proofs.LinkLaws.{parent_held, parents_held, parents_apart, child_there, child_some, kin, room_fits}
use Rattle.cow_arena.proofs.ArenaLaws.{IsAfter, Less, spliced_is, some_hidden, sibling_apart, splice_nodes, splice_after}
use Rattle.cow_arena.proofs.ViewLaws.{forest_seen, keeps-walks, keeps-listed}
use Rattle.cow_arena.proofs.arena.CowArena.splice.Goals as goal

-- ---- what is found

pub index-requires-2 : goal.index-requires-2
index-requires-2 c = parent_held (get c.self.inside.nodes) c.self.inside.lists c.self.invariant.forest c.args.leaf.0 c.index.result.now c.index.ensures c.in-Some.hidden.0 c.in-Some.is

pub unreachable-requires-in_default-sibling_of : goal.unreachable-requires-in_default-sibling_of
unreachable-requires-in_default-sibling_of c =
    child_some (get c.self.inside.nodes) c.self.inside.lists c.self.invariant.forest c.args.leaf.0 c.in-Some.hidden.0 c.index.result.now c.index-2.result.now
    c.index.ensures c.in-Some.is c.index-2.ensures (other_side (side_of c.index-2.result.now c.args.leaf.0)) (sym c.sibling_of.ensures ∙ c.in_default-sibling_of.is)

pub index-node-requires : goal.index-node-requires
index-node-requires c =
    child_there (get c.self.inside.nodes) c.self.inside.lists c.self.invariant.forest c.args.leaf.0 c.in-Some.hidden.0 c.index.result.now c.index-2.result.now
    c.index.ensures c.in-Some.is c.index-2.ensures (other_side (side_of c.index-2.result.now c.args.leaf.0)) c.in-Some-sibling_of.sibling.0
    (sym c.sibling_of.ensures ∙ c.in-Some-sibling_of.is)

pub room_in-room-requires : goal.room_in-room-requires
room_in-room-requires c = parents_held (get c.self.inside.nodes) c.self.inside.lists c.self.invariant.forest c.in-Some.hidden.0 c.index-2.result.now c.index-2.ensures

pub lifted-requires : goal.lifted-requires
lifted-requires c =
    room_fits (get c.self.inside.nodes) c.self.inside.lists c.self.invariant.forest c.in-Some.hidden.0 c.index-2.result.now c.index-2.ensures c.room_in-room.result c.room_in-room.ensures

-- ---- what is changed

pub splice_nodes-requires : goal.splice_nodes-requires
splice_nodes-requires c =
    let forest = c.self.invariant.forest in
    let apart = sibling_apart c.self.inside c.self.invariant c.args.self.now c.self.view_is c.args.leaf.0 c.in-Some.hidden.0 c.in-Some-sibling_of.sibling.0
    c.index.result.now c.index-2.result.now c.index-node.result.now
    (kin (get c.self.inside.nodes) c.self.inside.lists forest c.args.leaf.0 c.in-Some.hidden.0 c.index.result.now c.index-2.result.now
    c.index.ensures c.in-Some.is c.index-2.ensures c.in-Some-sibling_of.sibling.0 c.index-node.result.now (sym c.sibling_of.ensures ∙ c.in-Some-sibling_of.is) c.index-node.ensures) in
    record {
      parent = parents_held (get c.self.inside.nodes) c.self.inside.lists forest c.in-Some.hidden.0 c.index-2.result.now c.index-2.ensures;
      sibling = search rules;
      leaf = apart.0;
      hidden = apart.1;
      above = parents_apart (get c.self.inside.nodes) c.self.inside.lists forest c.in-Some.hidden.0 c.index-2.result.now c.index-2.ensures;
    }

pub overflow_sub-self : goal.overflow_sub-self
overflow_sub-self c =
    some_hidden c.self.inside c.self.invariant c.args.self.now c.self.view_is c.args.leaf.0 c.in-Some.hidden.0 c.in-Some-sibling_of.sibling.0 c.index.result.now c.index-2.result.now c.index-node.result.now
    (kin (get c.self.inside.nodes) c.self.inside.lists c.self.invariant.forest c.args.leaf.0 c.in-Some.hidden.0 c.index.result.now c.index-2.result.now
    c.index.ensures c.in-Some.is c.index-2.ensures c.in-Some-sibling_of.sibling.0 c.index-node.result.now (sym c.sibling_of.ensures ∙ c.in-Some-sibling_of.is) c.index-node.ensures)

family : (c : goal.After-self-1) →
    AreFamily (get c.self.inside.nodes) c.args.leaf.0 c.in-Some.hidden.0 c.in-Some-sibling_of.sibling.0 c.index.result.now c.index-2.result.now c.index-node.result.now
family c =
    kin (get c.self.inside.nodes) c.self.inside.lists c.self.invariant.forest c.args.leaf.0 c.in-Some.hidden.0 c.index.result.now c.index-2.result.now
    c.index.ensures c.in-Some.is c.index-2.ensures c.in-Some-sibling_of.sibling.0 c.index-node.result.now (sym c.sibling_of.ensures ∙ c.in-Some-sibling_of.is) c.index-node.ensures

spliced_now : (c : goal.After-self-1) → get c.splice_nodes.new.nodes
    ≡ spliced (get c.self.inside.nodes) c.args.leaf.0 c.in-Some.hidden.0 c.in-Some-sibling_of.sibling.0 c.index-2.result.now c.index-node.result.now
spliced_now c = c.splice_nodes.ensures.nodes
    ∙ spliced_is (get c.self.inside.nodes) c.args.leaf.0 c.in-Some.hidden.0 c.in-Some-sibling_of.sibling.0 c.index-2.result.now c.index-node.result.now c.lifted.result c.lifted.ensures

after : (c : goal.After-self-1) → IsAfter c.args.self.now (record (c.self.inside) { nodes = c.splice_nodes.new.nodes; hidden = c.self.inside.hidden - 1 }) Less Less
after c = splice_after c.self.inside c.self.invariant c.args.self.now c.self.view_is c.args.leaf.0 c.in-Some.hidden.0 c.in-Some-sibling_of.sibling.0 c.index.result.now c.index-2.result.now c.index-node.result.now
    (family c) c.splice_nodes.new.nodes (spliced_now c) c.requires c.splice_nodes.ensures.capacity

pub invariant_of-self : goal.invariant_of-self
invariant_of-self c = (after c).arena

nodes : (c : goal.After-self-1) (h s : ℕ) (node parent sibling : Node) → AreFamily (nodes_of c.args.self.now) c.args.leaf.0 h s node parent sibling →
    get c.splice_nodes.new.nodes ≡ spliced (nodes_of c.args.self.now) c.args.leaf.0 h s parent sibling
nodes c = λ h s node parent sibling.
    splice_nodes c.self.inside c.self.invariant c.args.self.now c.self.view_is c.args.leaf.0 c.in-Some.hidden.0 c.in-Some-sibling_of.sibling.0 c.index.result.now c.index-2.result.now c.index-node.result.now
    (family c) c.splice_nodes.new.nodes (spliced_now c) h s node parent sibling

pub returns : goal.returns
returns c = let it = after c in record {
  nodes = nodes c;
  walks = λ slots h s node parent sibling kin.
      keeps-walks c.args.self.now (get c.splice_nodes.new.nodes) c.self.inside.lists
      (forest_seen c.self.inside c.self.invariant c.args.self.now c.self.view_is) it.arena.forest (ap (λ (v : Arena). v.lists) c.self.view_is)
      c.args.leaf.0 h s node parent sibling c.requires kin (nodes c h s node parent sibling kin) slots;
  lists = search rules;
  hidden = it.hidden;
  visible = it.visible;
  forest = it.arena.forest;
  listed = λ slots h s node parent sibling kin.
      keeps-listed c.args.self.now (get c.splice_nodes.new.nodes) c.self.inside.lists
      (forest_seen c.self.inside c.self.invariant c.args.self.now c.self.view_is) it.arena.forest (ap (λ (v : Arena). v.lists) c.self.view_is)
      c.args.leaf.0 h s node parent sibling c.requires kin (nodes c h s node parent sibling kin) slots;
}
