use Rattle.cow_forest.proofs.Words.{◌≡◌, ◌≤◌, ap, sym, ◌∙◌, arith, is_some, some_same, with_key, slots_of, Node, nodes_of, with_count, KeepsPages, HasNode}
use Rattle.cow_forest.proofs.Words.{forest_of}
use Rattle.cow_split.proofs.PartLaws.{part-same}
use Rattle.cow_forest.proofs.ContentLaws.{node-visible}
use Rattle.cow_forest.proofs.ResizingLaws.{grown-nodes, kept-grown, store-resized, content-resized}
use Rattle.cow_forest.proofs.JumpKeptLaws.{jumps-resized}
use Rattle.cow_forest.proofs.FounderLaws.{founders-resized}
use Rattle.cow_forest.proofs.forest.CowForestPageStore.set_count.Goals as goal

pub shrink_by_jumps-requires-clause-leaf : goal.shrink_by_jumps-requires-clause-leaf
shrink_by_jumps-requires-clause-leaf c =
    let h = c.self.invariant.store.named c.args.v.0 c.get-node.result c.get-node.ensures in
    let count = ap (λ (n : Node). n.count) (some_same (sym h.is.at ∙ c.node.ensures)) in
    rw h.is.at (ap is_some h.is.has_koid, omega (arith, count, c.if-count-node.true))

pub set_count-requires : goal.set_count-requires
set_count-requires c =
    let h = c.self.invariant.store.named c.args.v.0 c.get-node.result c.get-node.ensures in
    let count = ap (λ (n : Node). n.count) (some_same (sym h.is.at ∙ c.node.ensures)) in
    let seen = c.self.invariant.store.exact.forest.by.seen c.get-node.result.0 h.node h.is.at in
    rw h.is.at (ap is_some h.is.has_koid, omega (arith, count, seen, c.if-count-node.false))

pub invariant_of-self : goal.invariant_of-self
invariant_of-self c =
    let s = c.self.invariant.store in
    let h = s.named c.args.v.0 c.get-node.result c.get-node.ensures in
    record {
      store = store-resized (forest_of c.self.inside) _ _ _ c.args.v.0 c.get-node.result.0 c.args.count s h c.shrink_by_jumps.ensures.kept
          (c.shrink_by_jumps.ensures.nodes h.node h.is.at) c.shrink_by_jumps.ensures.visible c.requires.count;
      jumps = jumps-resized (forest_of c.self.inside) s c.shrink_by_jumps.new.arena c.shrink_by_jumps.new.lists c.shrink_by_jumps.new.frames c.args.v.0 c.get-node.result.0 c.args.count h
          c.shrink_by_jumps.ensures.kept c.shrink_by_jumps.ensures.part (c.shrink_by_jumps.ensures.nodes h.node h.is.at) c.self.inside.next c.self.inside.jumps c.self.invariant.jumps;
      founders = founders-resized (nodes_of c.self.inside.arena) (nodes_of c.shrink_by_jumps.new.arena) c.get-node.result.0 c.args.count h.node
          (node-visible (forest_of c.self.inside) s c.args.v.0 c.get-node.result.0 h) (c.shrink_by_jumps.ensures.nodes h.node h.is.at) c.self.inside.next
          c.self.inside.founders c.self.invariant.founders;
    }

pub returns-then-count-node-clause-content : goal.returns-then-count-node-clause-content
returns-then-count-node-clause-content c =
    let s = c.self.invariant.store in
    let h = s.named c.args.v.0 c.get-node.result c.get-node.ensures in
    rw (← c.self.view_is) (content-resized (forest_of c.self.inside) _ _ _ c.args.v.0 c.get-node.result.0 c.args.count s h c.shrink_by_jumps.ensures.kept
    (c.shrink_by_jumps.ensures.nodes h.node h.is.at) c.shrink_by_jumps.ensures.visible c.requires.count)

-- a node that grows
module _ (c : goal.After-set_count) where
  abbrev its : HasNode (forest_of c.self.inside) c.args.v.0 c.get-node.result.0
  its = c.self.invariant.store.named c.args.v.0 c.get-node.result c.get-node.ensures

  more : its.node.count ≤ c.args.count
  more = let count = ap (λ (n : Node). n.count) (some_same (sym its.is.at ∙ c.node.ensures)) in omega (arith, count, c.if-count-node.false)

  nodes : nodes_of c.set_count.new.self ≡ with_key (nodes_of c.self.inside.arena) c.get-node.result.0 (with_count its.node c.args.count)
  nodes = grown-nodes c.self.inside.arena c.set_count.new.self c.get-node.result.0 c.args.count its.node c.self.invariant.store.exact.forest its.is.at more c.set_count.ensures.nodes

  grown : KeepsPages c.self.inside.arena c.set_count.new.self c.self.inside.lists c.self.inside.lists c.self.inside.frames c.self.inside.frames
  grown = kept-grown _ _ c.self.inside.lists c.self.inside.frames _ c.args.count its.node c.self.invariant.store.exact
      (node-visible (forest_of c.self.inside) c.self.invariant.store c.args.v.0 c.get-node.result.0 its) more c.set_count.ensures.nodes c.set_count.ensures.lists
      c.set_count.ensures.forest

pub invariant_of-self-else-count-node : goal.invariant_of-self-else-count-node
invariant_of-self-else-count-node c =
    let s = c.self.invariant.store in
    let h = s.named c.args.v.0 c.get-node.result c.get-node.ensures in
    record {
      store = store-resized (forest_of c.self.inside) _ _ _ c.args.v.0 c.get-node.result.0 c.args.count s h (grown c) (nodes c)
          c.set_count.ensures.visible c.requires.count;
      jumps = jumps-resized (forest_of c.self.inside) s c.set_count.new.self c.self.inside.lists c.self.inside.frames c.args.v.0 c.get-node.result.0 c.args.count h (grown c)
          (part-same (slots_of c.self.inside.lists)) (nodes c) c.self.inside.next c.self.inside.jumps c.self.invariant.jumps;
      founders = founders-resized (nodes_of c.self.inside.arena) (nodes_of c.set_count.new.self) c.get-node.result.0 c.args.count h.node
          (node-visible (forest_of c.self.inside) s c.args.v.0 c.get-node.result.0 h) (nodes c) c.self.inside.next
          c.self.inside.founders c.self.invariant.founders;
    }

pub returns-else-count-node-clause-content : goal.returns-else-count-node-clause-content
returns-else-count-node-clause-content c =
    let s = c.self.invariant.store in
    let h = s.named c.args.v.0 c.get-node.result c.get-node.ensures in
    rw (← c.self.view_is) (content-resized (forest_of c.self.inside) _ _ _ c.args.v.0 c.get-node.result.0 c.args.count s h (grown c) (nodes c)
    c.set_count.ensures.visible c.requires.count)

pub shrink_by_jumps-requires-clause-jumps : goal.shrink_by_jumps-requires-clause-jumps
shrink_by_jumps-requires-clause-jumps c = (c.self.inside.next, c.self.invariant.jumps)
