use Rattle.cow_forest.proofs.Words.{ℕ, refl, ap, ◌∙◌, arith, Option, is_some, with_key, with_key-same, NodeId, Nodes, nodes_of, forest_of}
use Rattle.cow_forest.proofs.EnterLaws.{are-alike, vmos_le}
use Rattle.cow_forest.proofs.MakingLaws.{HasRoot, store-made, content-made}
use Rattle.cow_forest.proofs.JumpKeptLaws.{jumps-root}
use Rattle.cow_forest.proofs.FounderLaws.{founders-root}
use Rattle.cow_forest.proofs.forest.CowForestPageStore.create.Goals as goal

-- nothing came where there was no room
pub invariant_of-self : goal.invariant_of-self
invariant_of-self c =
    are-alike c.self.inside c.self.invariant c.self.inside.arena _ _
    (record { arena_nodes = refl; lists = refl; visible = refl; nodes_in = c.make_room.ensures.nodes; owners_in = c.make_room.ensures.owners })

pub invariant_of-self-in_err-node : goal.invariant_of-self-in_err-node
invariant_of-self-in_err-node c =
    are-alike c.self.inside c.self.invariant c.add_root.new.self _ _ (record {
      arena_nodes = c.in_err-node.ensures.err;
      lists = c.in_err-node.ensures.err_lists;
      visible = c.in_err-node.ensures.err_visible;
      nodes_in = c.make_room.ensures.nodes;
      owners_in = c.make_room.ensures.owners;
    })

pub node-requires : goal.node-requires
node-requires c = ap is_some (ap (λ (nodes : Nodes). nodes c.in_ok-node.node.0) c.in_ok-node.ensures.nodes ∙ with_key-same (nodes_of c.self.inside.arena) c.in_ok-node.node.0 _)

pub overflow_add-self-2 : goal.overflow_add-self-2
overflow_add-self-2 c = let few = rw (← c.self.view_is) at c.requires.next in omega (arith, few, vmos_le (forest_of c.self.inside) c.self.invariant.store)

-- the root came, and its entries
came : (c : goal.After-self-2-1) → HasRoot (forest_of c.self.inside) c.add_root.new.self c.enter.new.self c.enter-2.new.self c.in_ok-node.node.0 c.args.count
came c = record {
  forest = c.add_root.ensures.forest;
  free = c.in_ok-node.ensures.new;
  arena_nodes = c.in_ok-node.ensures.nodes;
  lists = c.in_ok-node.ensures.lists;
  visible = c.in_ok-node.ensures.visible;
  nodes_in = c.enter.ensures.nodes ∙ ap (λ (map : ℕ → Option NodeId). with_key map c.self.inside.next c.in_ok-node.node) c.make_room.ensures.nodes;
  node = c.node.result;
  at = c.node.ensures;
  owners_in = c.enter-2.ensures.nodes ∙ ap (λ (map : ℕ → Option NodeId). with_key map c.node.result.list.0 c.in_ok-node.node) c.make_room.ensures.owners;
  below = c.requires.count;
}

pub invariant_of-self-2 : goal.invariant_of-self-2
invariant_of-self-2 c = record {
  store = store-made (forest_of c.self.inside) c.self.invariant.store _ _ _ _ _ (came c);
  jumps = jumps-root (forest_of c.self.inside) c.self.invariant.store c.add_root.new.self c.in_ok-node.node.0 c.self.inside.next c.args.count c.in_ok-node.ensures.new
      c.in_ok-node.ensures.nodes c.add_root.ensures.forest c.self.inside.next c.self.inside.jumps c.self.invariant.jumps;
  founders = founders-root (nodes_of c.self.inside.arena) (nodes_of c.add_root.new.self) c.in_ok-node.node.0 c.self.inside.arena.lists c.args.count
      (record { 0 = c.self.inside.next }) c.in_ok-node.ensures.nodes c.self.inside.next c.self.inside.founders c.self.invariant.founders;
}

pub returns-clause-ok : goal.returns-clause-ok
returns-clause-ok c = rw (← c.self.view_is) (content-made (forest_of c.self.inside) c.self.invariant.store _ _ _ _ _ (came c))
