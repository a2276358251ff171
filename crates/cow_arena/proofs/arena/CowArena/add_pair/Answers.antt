use Rattle.cow_arena.proofs.Words.{ap, subst, None, ◌+◌, ◌∙◌, ◌≡◌, ◌≢◌, arith, Slab, get, Node, Nodes, Arena, nodes_of, paired}
use Rattle.cow_arena.proofs.LinkLaws.{parents_held, parents_apart}
use Rattle.cow_arena.proofs.ArenaLaws.{IsAfter, Same, More, after_seen, grown, hidden_room, paired_is, grown_forest, pair_nodes, pair_after}
use Rattle.cow_arena.proofs.ViewLaws.{forest_seen, snapshot-shows, snapshot-walks, snapshot-inside, snapshot-past, snapshot-listed}
use Rattle.cow_arena.proofs.arena.CowArena.add_pair.Goals as goal

-- ---- no memory

unchanged : (c : goal.In_default) → IsAfter c.args.self.now (record (c.self.inside) { nodes = c.reserve.new.self }) Same Same
unchanged c = after_seen c.self.view_is
    (grown c.self.inside c.self.invariant c.reserve.new.self c.reserve.ensures.capacity (ap (λ (s : Slab Node). get s) c.reserve.ensures.rest_kept))

pub invariant_of-self : goal.invariant_of-self
invariant_of-self c = (unchanged c).arena

pub returns-in_default-clause-forest : goal.returns-in_default-clause-forest
returns-in_default-clause-forest c = (unchanged c).arena.forest

pub returns-in_default-clause-err_hidden : goal.returns-in_default-clause-err_hidden
returns-in_default-clause-err_hidden c = (unchanged c).hidden

pub returns-in_default-clause-err_visible : goal.returns-in_default-clause-err_visible
returns-in_default-clause-err_visible c = (unchanged c).visible

-- ---- two nodes more

pub put_pair-pair-requires-clause-parent : goal.put_pair-pair-requires-clause-parent
put_pair-pair-requires-clause-parent c =
    parents_held (get c.reserve.new.self) c.self.inside.lists (grown_forest c.self.inside c.self.invariant c.args.self.now c.self.view_is c.reserve.new.self c.reserve.ensures.capacity
    (ap (λ (s : Slab Node). get s) c.reserve.ensures.rest_kept)) c.args.leaf.0 c.index-node.result.now c.index-node.ensures

pub put_pair-pair-requires-clause-above : goal.put_pair-pair-requires-clause-above
put_pair-pair-requires-clause-above c =
    parents_apart (get c.reserve.new.self) c.self.inside.lists (grown_forest c.self.inside c.self.invariant c.args.self.now c.self.view_is c.reserve.new.self c.reserve.ensures.capacity
    (ap (λ (s : Slab Node). get s) c.reserve.ensures.rest_kept)) c.args.leaf.0 c.index-node.result.now c.index-node.ensures

paired_now : (c : goal.After-self-2-1) → get c.put_pair-pair.new.nodes
    ≡ paired (get c.reserve.new.self) c.args.leaf.0 c.index-node.result.now c.put_pair-pair.result.hidden.0 c.put_pair-pair.result.child.0 c.self.inside.lists c.args.koid c.args.first c.args.seen c.args.count
paired_now c = c.put_pair-pair.ensures.nodes
    ∙ paired_is (get c.reserve.new.self) c.args.leaf.0 c.index-node.result.now c.put_pair-pair.result.hidden.0 c.put_pair-pair.result.child.0 c.self.inside.lists c.args.koid
    c.args.first c.args.seen c.args.count c.window_first.result c.window_first.ensures

after : (c : goal.After-self-2-1) → IsAfter c.args.self.now (record { nodes = c.put_pair-pair.new.nodes; lists = c.self.inside.lists + 2; hidden = c.self.inside.hidden + 1 }) More More
after c = pair_after c.self.inside c.self.invariant c.args.self.now c.self.view_is c.reserve.new.self c.reserve.ensures.capacity (ap (λ (s : Slab Node). get s) c.reserve.ensures.rest_kept)
    c.put_pair-pair.new.nodes c.args.leaf.0 c.put_pair-pair.result.hidden.0 c.put_pair-pair.result.child.0 c.index-node.result.now c.index-node.ensures c.put_pair-pair.ensures.free
    c.args.koid c.args.first c.args.seen c.args.count (paired_now c) c.requires.leaf c.requires.seen c.put_pair-pair.ensures.capacity c.put_pair-pair.ensures.below

pub overflow_add-self-2 : goal.overflow_add-self-2
overflow_add-self-2 c = omega (
  arith,
  hidden_room c.self.inside c.self.invariant c.args.self.now c.self.view_is c.args.leaf.0 c.args.first c.args.seen c.requires.leaf,
  c.reserve.ensures.capacity,
  c.put_pair-pair.ensures.capacity,
  c.put_pair-pair.ensures.fits,
)

pub invariant_of-self-2 : goal.invariant_of-self-2
invariant_of-self-2 c = (after c).arena

pub returns-clause-nodes : goal.returns-clause-nodes
returns-clause-nodes c =
    pair_nodes c.self.inside c.self.invariant c.args.self.now c.self.view_is c.reserve.new.self c.reserve.ensures.capacity (ap (λ (s : Slab Node). get s) c.reserve.ensures.rest_kept)
    c.put_pair-pair.new.nodes c.args.leaf.0 c.put_pair-pair.result.hidden.0 c.put_pair-pair.result.child.0 c.index-node.result.now c.index-node.ensures c.put_pair-pair.ensures.free
    c.args.koid c.args.first c.args.seen c.args.count (paired_now c)

pub returns-clause-hidden : goal.returns-clause-hidden
returns-clause-hidden c = (after c).hidden

pub returns-clause-visible : goal.returns-clause-visible
returns-clause-visible c = (after c).visible

pub returns-clause-forest : goal.returns-clause-forest
returns-clause-forest c = (after c).arena.forest

free : (c : goal.After-self-2-1) → (nodes_of c.args.self.now c.put_pair-pair.result.hidden.0 ≡ None) × (nodes_of c.args.self.now c.put_pair-pair.result.child.0 ≡ None)
    × (c.put_pair-pair.result.hidden.0 ≢ c.put_pair-pair.result.child.0)
free c = subst (λ (f : Nodes). (f c.put_pair-pair.result.hidden.0 ≡ None) × (f c.put_pair-pair.result.child.0 ≡ None) × (c.put_pair-pair.result.hidden.0 ≢ c.put_pair-pair.result.child.0))
    (ap (λ (s : Slab Node). get s) c.reserve.ensures.rest_kept ∙ ap (λ (v : Arena). nodes_of v) c.self.view_is) c.put_pair-pair.ensures.free

pub returns-clause-shows : goal.returns-clause-shows
returns-clause-shows c = snapshot-shows c.args.self.now (forest_seen c.self.inside c.self.invariant c.args.self.now c.self.view_is) (after c).arena.forest
    (ap (λ (v : Arena). v.lists + 2) c.self.view_is) _ _ _ _ _ _ _ c.requires.leaf (free c) (returns-clause-nodes c)

pub returns-clause-walks : goal.returns-clause-walks
returns-clause-walks c = snapshot-walks c.args.self.now (forest_seen c.self.inside c.self.invariant c.args.self.now c.self.view_is) (after c).arena.forest
    (ap (λ (v : Arena). v.lists + 2) c.self.view_is) _ _ _ _ _ _ _ c.requires.leaf (free c) (returns-clause-nodes c)

pub returns-clause-inside : goal.returns-clause-inside
returns-clause-inside c = snapshot-inside c.args.self.now (forest_seen c.self.inside c.self.invariant c.args.self.now c.self.view_is) (after c).arena.forest
    (ap (λ (v : Arena). v.lists + 2) c.self.view_is) _ _ _ _ _ _ _ c.requires.leaf (free c) (returns-clause-nodes c)

pub returns-clause-past : goal.returns-clause-past
returns-clause-past c = snapshot-past c.args.self.now (forest_seen c.self.inside c.self.invariant c.args.self.now c.self.view_is) (after c).arena.forest
    (ap (λ (v : Arena). v.lists + 2) c.self.view_is) _ _ _ _ _ _ _ c.requires.leaf (free c) (returns-clause-nodes c)

pub returns-clause-listed : goal.returns-clause-listed
returns-clause-listed c = snapshot-listed c.args.self.now (forest_seen c.self.inside c.self.invariant c.args.self.now c.self.view_is) (after c).arena.forest
    (ap (λ (v : Arena). v.lists + 2) c.self.view_is) _ _ _ _ _ _ _ c.requires.leaf (free c) (returns-clause-nodes c)
