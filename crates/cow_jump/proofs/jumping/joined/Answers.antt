use Rattle.cow_jump.proofs.Words.{refl, arith, tree_of}
use Rattle.cow_jump.proofs.JumpLaws.{joined-jump}
use Rattle.cow_jump.proofs.jumping.joined.Goals as goal

pub returns : goal.returns
returns c =
    let first = c.in_ok-end.ensures in
    let shift = c.in_ok-checked_add.ensures in (
      joined-jump (tree_of c.args.arena.now c.args.lists.now) c.args.at.0 c.args.jump c.args.next _ c.look-node.result.now c.row_pages.result c.turned.result c.requires.jump
          c.requires.next c.look-node.ensures c.requires.to c.row_pages.ensures c.turned.ensures refl refl shift.1 refl
          (omega (arith, c.min.ensures, c.min-2.ensures, first)) (omega (arith, c.min.ensures, c.min-2.ensures, first)) (omega (arith, c.min-2.ensures)),
      refl,
      refl,
    )
