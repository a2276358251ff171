use Rattle.cow_arena.proofs.Words.{◌≡◌, rules, ap, get, without_key, Arena, nodes_of}
use Rattle.cow_arena.proofs.SlotLaws.{nodes_without}
use Rattle.cow_arena.proofs.ArenaLaws.{IsAfter, Same, Less, gone_after}
use Rattle.cow_arena.proofs.ViewLaws.{forest_seen, root-keeps-listed}
use Rattle.cow_arena.proofs.arena.CowArena.remove_root.Goals as goal

after : (c : goal.After-try_remove) → IsAfter c.args.self.now (record (c.self.inside) { nodes = c.try_remove.new.self }) Same Less
after c = gone_after c.self.inside c.self.invariant c.args.self.now c.self.view_is c.try_remove.new.self c.args.leaf.0 c.requires c.try_remove.ensures.capacity
    (nodes_without c.self.inside.nodes c.try_remove.new.self c.args.leaf.0 c.try_remove.ensures.updates)

nodes : (c : goal.After-try_remove) → get c.try_remove.new.self ≡ without_key (nodes_of c.args.self.now) c.args.leaf.0
nodes c = rw (← c.self.view_is) (nodes_without c.self.inside.nodes c.try_remove.new.self c.args.leaf.0 c.try_remove.ensures.updates)

pub invariant_of-self : goal.invariant_of-self
invariant_of-self c = (after c).arena

pub returns : goal.returns
returns c = let it = after c in record {
  nodes = nodes c;
  lists = search rules;
  hidden = it.hidden;
  visible = it.visible;
  forest = it.arena.forest;
  listed = λ slots node at.
      root-keeps-listed c.args.self.now (get c.try_remove.new.self) c.self.inside.lists
      (forest_seen c.self.inside c.self.invariant c.args.self.now c.self.view_is) it.arena.forest (ap (λ (v : Arena). v.lists) c.self.view_is)
      c.args.leaf.0 node c.requires (nodes c) slots at;
}
