use Rattle.cow_jump.proofs.Words.{refl, sym, ap, is_some, tree_of}
use Rattle.cow_split.proofs.CostLaws.{parent-there}
use Rattle.cow_jump.proofs.JumpLaws.{step-jump}
use Rattle.cow_jump.proofs.jumping.step_of.Goals as goal

pub look-requires : goal.look-requires
look-requires c = parent-there _ _ c.requires.forest _ _ _ c.look-node.ensures c.in_ok-parent.was

pub returns : goal.returns
returns c = (
  record {
    is = step-jump (tree_of c.args.arena.now c.args.lists.now) c.args.at.0 c.in_ok-parent.parent c.look-node.result.now c.look.result.now c.side_of.result _
        c.look-node.ensures c.in_ok-parent.was c.look.ensures c.side_of.ensures refl refl refl;
    serial = sym c.serial.ensures;
  },
  ap is_some c.look.ensures,
)
