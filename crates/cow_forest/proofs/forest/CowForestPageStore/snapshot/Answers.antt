use Rattle.cow_forest.proofs.Words.{ℕ, ◌+◌, Option, refl, sym, ap, ◌∙◌, arith, is_some, with_key, NodeId, is_taken, nodes_of, tree_of}
use Rattle.cow_forest.proofs.Words.{forest_of, tree, AreJumps}
use Rattle.cow_arena.proofs.ForestLaws.{held_apart}
use Rattle.cow_jump.proofs.JumpLaws.{same-jumps}
use Rattle.cow_forest.proofs.ContentLaws.{pages-of}
use Rattle.cow_forest.proofs.EnterLaws.{found-node, are-alike, vmos_le}
use Rattle.cow_forest.proofs.SnapshotLaws.{hidden-held, leaf-held, HasPair, store-shared, content-shared}
use Rattle.cow_forest.proofs.JumpKeptLaws.{jumps-shared}
use Rattle.cow_forest.proofs.FounderLaws.{founders-shared}
use Rattle.cow_forest.proofs.forest.CowForestPageStore.snapshot.Goals as goal

-- nothing came where there was no room
pub invariant_of-self : goal.invariant_of-self
invariant_of-self c =
    are-alike c.self.inside c.self.invariant c.self.inside.arena _ _
    (record { arena_nodes = refl; lists = refl; visible = refl; nodes_in = c.make_room.ensures.nodes; owners_in = c.make_room.ensures.owners })

pub invariant_of-self-in_err-pair : goal.invariant_of-self-in_err-pair
invariant_of-self-in_err-pair c =
    rw c.in_err-pair.ensures.err_rows (are-alike c.self.inside c.self.invariant c.share.new.arena _ _ (record {
      arena_nodes = c.in_err-pair.ensures.err;
      lists = c.in_err-pair.ensures.err_lists;
      visible = c.in_err-pair.ensures.err_visible;
      nodes_in = c.make_room.ensures.nodes;
      owners_in = c.make_room.ensures.owners;
    }))

pub share-requires-clause-leaf : goal.share-requires-clause-leaf
share-requires-clause-leaf c =
    let h = found-node (forest_of c.self.inside) c.self.invariant.store _ c.make_room.ensures.nodes c.args.of.0 _ c.get-node.ensures in
    let range = rw (← c.self.view_is) at c.requires.range in
    rw h.is.at (ap is_some h.is.has_koid, omega (arith, range, pages-of (forest_of c.self.inside) c.self.invariant.store c.args.of.0 _ h))

pub node-requires : goal.node-requires
node-requires c =
    let h = found-node (forest_of c.self.inside) c.self.invariant.store _ c.make_room.ensures.nodes c.args.of.0 _ c.get-node.ensures in
    hidden-held (forest_of c.self.inside) c.self.invariant.store _ _ c.args.of.0 _ c.in_ok-pair.pair _ _ _ h c.in_ok-pair.ensures.ok

pub node-requires-2 : goal.node-requires-2
node-requires-2 c =
    let h = found-node (forest_of c.self.inside) c.self.invariant.store _ c.make_room.ensures.nodes c.args.of.0 _ c.get-node.ensures in
    leaf-held (forest_of c.self.inside) c.self.invariant.store _ _ c.args.of.0 _ c.in_ok-pair.pair _ _ _ h c.in_ok-pair.ensures.ok

pub overflow_add-self-2 : goal.overflow_add-self-2
overflow_add-self-2 c = let few = rw (← c.self.view_is) at c.requires.next in omega (arith, few, vmos_le (forest_of c.self.inside) c.self.invariant.store)

-- the two nodes came, and the entries
came : (c : goal.After-self-2-1) → HasPair (forest_of c.self.inside) c.share.new.arena c.share.new.lists c.enter.new.self c.enter-4.new.self
    c.get-node.result.0 c.in_ok-pair.pair c.args.first c.args.seen c.args.count
came c = record {
  shared = c.in_ok-pair.ensures.ok;
  nodes_in = c.enter.ensures.nodes ∙ ap (λ (map : ℕ → Option NodeId). with_key map c.self.inside.next c.in_ok-pair.pair.child) c.make_room.ensures.nodes;
  hidden = c.node.result;
  leaf = c.node-2.result;
  child = c.node-3.result;
  hidden_at = c.node.ensures;
  leaf_at = c.node-2.ensures;
  child_at = c.node-3.ensures;
  owners_in = c.enter-4.ensures.nodes
      ∙ ap (λ (map : ℕ → Option NodeId). with_key map c.node-3.result.list.0 c.in_ok-pair.pair.child) (c.enter-3.ensures.nodes
      ∙ ap (λ (map : ℕ → Option NodeId). with_key map c.node-2.result.list.0 c.get-node.result) (c.enter-2.ensures.nodes
      ∙ ap (λ (map : ℕ → Option NodeId). with_key map c.node.result.list.0 c.in_ok-pair.pair.hidden) c.make_room.ensures.owners));
  below = c.requires.count;
}

-- the jumps before the two nodes get theirs
jumps-now : (c : goal.After-self-2-1) → AreJumps (tree_of c.share.new.arena c.share.new.lists) (c.self.inside.next + 1) c.move_up.new.self
jumps-now c =
    let h = found-node (forest_of c.self.inside) c.self.invariant.store _ c.make_room.ensures.nodes c.args.of.0 _ c.get-node.ensures in
    jumps-shared (forest_of c.self.inside) c.self.invariant.store c.share.new.arena c.share.new.lists c.args.of.0 c.get-node.result.0
    c.in_ok-pair.pair _ _ _ _ h c.in_ok-pair.ensures.ok c.self.inside.next c.grow.new.self c.move_up.new.self
    (same-jumps (tree (forest_of c.self.inside)) c.self.inside.next c.self.inside.jumps c.grow.new.self c.grow.ensures.jumps c.grow.ensures.serials c.self.invariant.jumps)
    c.move_up.ensures

pub invariant_of-self-2 : goal.invariant_of-self-2
invariant_of-self-2 c =
    let h = found-node (forest_of c.self.inside) c.self.invariant.store _ c.make_room.ensures.nodes c.args.of.0 _ c.get-node.ensures in
    record {
      store = store-shared (forest_of c.self.inside) c.self.invariant.store _ _ _ _ c.args.of.0 _ _ _ _ _ h (came c);
      jumps = c.note_pair.ensures _ (jumps-now c);
      founders = founders-shared (forest_of c.self.inside) c.self.invariant.store c.share.new.arena c.share.new.lists c.args.of c.get-node.result.0
          c.in_ok-pair.pair _ _ _ _ h c.in_ok-pair.ensures.ok refl c.self.inside.founders c.note.new.self c.self.invariant.founders c.note.ensures.here
          c.note.ensures.others;
    }

pub returns-clause-ok : goal.returns-clause-ok
returns-clause-ok c =
    let h = found-node (forest_of c.self.inside) c.self.invariant.store _ c.make_room.ensures.nodes c.args.of.0 _ c.get-node.ensures in
    rw (← c.self.view_is) (content-shared (forest_of c.self.inside) c.self.invariant.store _ _ _ _ c.args.of.0 _ _ _ _ _ h (came c))

-- no row came, so there is room for as many
pub returns-clause-kept : goal.returns-clause-kept
returns-clause-kept c = rw (← c.self.view_is) (omega (arith, c.in_ok-pair.ensures.ok.spare))

-- ---- the jumps

pub move_up-requires-clause-to : goal.move_up-requires-clause-to
move_up-requires-clause-to c =
    let h = found-node (forest_of c.self.inside) c.self.invariant.store _ c.make_room.ensures.nodes c.args.of.0 _ c.get-node.ensures in
    λ same. held_apart (nodes_of c.self.inside.arena) c.get-node.result.0 c.in_ok-pair.pair.hidden.0 h.node h.is.at c.in_ok-pair.ensures.ok.new_hidden (sym same)

pub move_up-requires-clause-other : goal.move_up-requires-clause-other
move_up-requires-clause-other c = λ same. c.in_ok-pair.ensures.ok.apart (sym same)

pub note_pair-requires : goal.note_pair-requires
note_pair-requires c =
    let h = found-node (forest_of c.self.inside) c.self.invariant.store _ c.make_room.ensures.nodes c.args.of.0 _ c.get-node.ensures in
    record {
      forest = (c.in_ok-pair.ensures.ok.exact (is_taken c.self.inside.frames) c.self.invariant.store.exact).forest;
      hidden = hidden-held (forest_of c.self.inside) c.self.invariant.store _ _ c.args.of.0 _ c.in_ok-pair.pair _ _ _ h c.in_ok-pair.ensures.ok;
      leaf = leaf-held (forest_of c.self.inside) c.self.invariant.store _ _ c.args.of.0 _ c.in_ok-pair.pair _ _ _ h c.in_ok-pair.ensures.ok;
      child = ap is_some c.in_ok-pair.ensures.ok.comes;
      jumps = (
        c.self.inside.next + 1,
        jumps-shared (forest_of c.self.inside) c.self.invariant.store c.share.new.arena c.share.new.lists c.args.of.0 c.get-node.result.0
            c.in_ok-pair.pair _ _ _ _ h c.in_ok-pair.ensures.ok c.self.inside.next c.grow.new.self c.move_up.new.self
            (same-jumps (tree (forest_of c.self.inside)) c.self.inside.next c.self.inside.jumps c.grow.new.self c.grow.ensures.jumps c.grow.ensures.serials c.self.invariant.jumps)
            c.move_up.ensures,
      );
    }
