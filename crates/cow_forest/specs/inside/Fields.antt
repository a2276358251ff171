-- How the fields of the forest are seen, and what holds of them.
use Rattle.cow_forest.specs.declared.forest.CowForest.TheInside.{Inside}
use Rattle.cow_forest.specs.Store.{Forest, tree, IsStore}
use Rattle.cow_arena.specs.Nodes.{nodes_of}
use Rattle.cow_jump.specs.Jumps.{AreJumps}
use Rattle.cow_forest.specs.inside.Founders.{AreFounders}

abbrev pub forest_of : Inside → Forest
forest_of a = record {
  arena = a.arena;
  rows = a.lists;
  pool = a.frames;
  nodes = a.nodes;
  owners = a.owners;
  next = a.next;
  vmos = a.vmos;
}

-- the fields are a store, and the jumps and the founders say what its tree says
pub record AreStore (a : Inside) : Type 0 where
  pub store : IsStore (forest_of a)
  pub jumps : AreJumps (tree (forest_of a)) a.next a.jumps
  pub founders : AreFounders (nodes_of a.arena) a.next a.founders
