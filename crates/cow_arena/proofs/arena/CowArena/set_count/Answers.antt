use Rattle.cow_arena.proofs.Words.{rules, refl, with_value, Node}
use Rattle.cow_arena.proofs.ArenaLaws.{IsAfter, Same, count_after, nodes_changed}
use Rattle.cow_arena.proofs.ViewLaws.{listed-changed}
use Rattle.cow_arena.proofs.arena.CowArena.set_count.Goals as goal

after : (c : goal.After-self-1) → IsAfter c.args.self.now (record (c.self.inside) {
  nodes =
      with_value c.self.inside.nodes c.args.at.0 (record (c.index_mut.result.now) { count = c.args.count });
}) Same Same
after c = count_after c.self.inside c.self.invariant c.args.self.now c.self.view_is c.args.at.0 c.index_mut.result.now c.index_mut.ensures.value c.args.count c.requires

pub invariant_of-self : goal.invariant_of-self
invariant_of-self c = (after c).arena

pub returns : goal.returns
returns c = let it = after c in record {
  nodes = nodes_changed c.self.inside c.args.self.now c.args.at.0 c.index_mut.result.now (λ (node : Node). record node { count = c.args.count }) c.self.view_is c.index_mut.ensures.value;
  lists = search rules;
  hidden = it.hidden;
  visible = it.visible;
  forest = it.arena.forest;
  listed = listed-changed c.self.inside c.args.self.now c.args.at.0 c.index_mut.result.now (λ (node : Node). record node { count = c.args.count }) (λ node. refl) c.self.view_is c.index_mut.ensures.value;
}
