use Rattle.cow_arena.proofs.Words.{sym, ap, ◌∙◌, ◌+◌, Slab, get, Node, tree_with}
use Rattle.cow_arena.proofs.SlotLaws.{nodes_with}
use Rattle.cow_arena.proofs.ArenaLaws.{IsAfter, Same, More, after_seen, grown, rooted}
use Rattle.cow_arena.proofs.WindowWalkLaws.{put-listed}
use Rattle.cow_arena.proofs.arena.CowArena.add_root.Goals as goal

unchanged : (c : goal.In_default) → IsAfter c.args.self.now (record (c.self.inside) { nodes = c.insert.new.self }) Same Same
unchanged c = after_seen c.self.view_is
    (grown c.self.inside c.self.invariant c.insert.new.self c.insert.ensures.capacity (ap (λ (s : Slab Node). get s) c.in_default.ensures.err))

after : (c : goal.After-self-1) → IsAfter c.args.self.now (record (c.self.inside) { nodes = c.insert.new.self; lists = c.self.inside.lists + 1 }) Same More
after c = after_seen c.self.view_is (rooted c.self.inside c.self.invariant c.insert.new.self c.in-Ok.at c.in-Ok.ensures.was_vacant c.args.koid c.args.count
    c.insert.ensures.capacity c.in-Ok.ensures.key_in_range (nodes_with c.self.inside.nodes c.insert.new.self c.in-Ok.at _ c.in-Ok.ensures.updates))

pub invariant_of-self : goal.invariant_of-self
invariant_of-self c = (unchanged c).arena

pub returns-in_default-clause-hidden : goal.returns-in_default-clause-hidden
returns-in_default-clause-hidden c = (unchanged c).hidden

pub returns-in_default-clause-forest : goal.returns-in_default-clause-forest
returns-in_default-clause-forest c = (unchanged c).arena.forest

pub returns-in_default-clause-err_visible : goal.returns-in_default-clause-err_visible
returns-in_default-clause-err_visible c = (unchanged c).visible

pub invariant_of-self-2 : goal.invariant_of-self-2
invariant_of-self-2 c = (after c).arena

pub returns-clause-nodes : goal.returns-clause-nodes
returns-clause-nodes c = rw (← c.self.view_is) (nodes_with c.self.inside.nodes c.insert.new.self c.in-Ok.at _ c.in-Ok.ensures.updates)

pub returns-clause-hidden : goal.returns-clause-hidden
returns-clause-hidden c = (after c).hidden

pub returns-clause-visible : goal.returns-clause-visible
returns-clause-visible c = (after c).visible

pub returns-clause-forest : goal.returns-clause-forest
returns-clause-forest c = (after c).arena.forest

pub returns-clause-listed : goal.returns-clause-listed
returns-clause-listed c = rw (← c.self.view_is) (λ slots.
    put-listed (tree_with (get c.self.inside.nodes) c.self.inside.lists slots) (get c.insert.new.self) (c.self.inside.lists + 1) c.in-Ok.at _
    (nodes_with c.self.inside.nodes c.insert.new.self c.in-Ok.at _ c.in-Ok.ensures.updates)
    (λ node at. absurd (let none = sym at ∙ c.in-Ok.ensures.was_vacant in cc)))
