use Rattle.cow_forest.proofs.Words.{refl, arith, Forest, tree, nodes_of}
use Rattle.cow_forest.proofs.EmptyLaws.{HasNothing, store-empty, content-empty}
use Rattle.cow_jump.proofs.JumpLaws.{empty-jumps}
use Rattle.cow_forest.proofs.FounderLaws.{founders-none}
use Rattle.cow_forest.proofs.forest.CowForest.new.Goals as goal

abbrev made : goal.After-new-7 → Forest
made c = record {
  arena = c.new.result;
  rows = c.new-2.result;
  pool = c.new-3.result;
  nodes = c.new-4.result;
  owners = c.new-5.result;
  next = 1;
  vmos = 0;
}

nothing-there : (c : goal.After-new-7) → HasNothing (made c)
nothing-there c = record {
  nodes = c.new.ensures.nodes;
  lists = c.new.ensures.lists;
  forest = c.new.ensures.forest;
  visible = c.new.ensures.visible;
  slots = c.new-2.ensures.slots;
  free = c.new-3.ensures.taken;
  table = c.new-4.ensures;
  next = refl;
  vmos = refl;
}

pub invariant_of-result : goal.invariant_of-result
invariant_of-result c = record {
  store = store-empty (made c) (nothing-there c);
  jumps = empty-jumps (tree (made c)) 1 c.new-6.result (omega arith) c.new-6.ensures.jumps c.new-6.ensures.serials;
  founders = founders-none (nodes_of c.new.result) c.new.ensures.nodes 1 c.new-7.result;
}

pub returns : goal.returns
returns c = record { content = content-empty (made c) (nothing-there c) c.new-3.ensures.frames }
