-- The rows that the child does not share are settled, and the others go over.
use Rattle.cow_merge.proofs.Words.{arith}
use Rattle.cow_merge.proofs.HandLaws.{over-lifted, handed-then}
use Rattle.cow_merge.proofs.handing.hand_over.Goals as goal
use Rattle.cow_merge.proofs.LiftedLaws.{family-then}
use Rattle.cow_merge.proofs.RangeLaws.{moves-as}

pub lift_rows-requires : goal.lift_rows-requires
lift_rows-requires c = c.share_rows-shared.ensures.lifting

pub lift_rows-requires-2 : goal.lift_rows-requires-2
lift_rows-requires-2 c = c.lift_rows.ensures.lifting

pub hand_rows-requires : goal.hand_rows-requires
hand_rows-requires c =
    let since = family-then c.requires.lifting.lifted.exact.forest c.lift_rows.ensures.moves c.lift_rows-2.ensures.moves in
    over-lifted c.args.arena.now c.args.lists.now c.share_rows-shared.new.lists c.lift_rows.new.lists c.lift_rows-2.new.lists
    c.share_rows-shared.new.frames c.lift_rows-2.new.frames c.args.family.leaf.0 c.args.family.hidden.0 c.args.family.sibling.0
    c.max-from.result c.min-to.result c.share_rows-shared.result c.node-node.result c.node-node.ensures c.lift_rows-2.ensures.lifting since
    c.requires.sees c.requires.seen (omega (arith, c.max-from.ensures)) (omega (arith, c.max-from.ensures))
    (omega (arith, c.min-to.ensures, c.saturating_add.ensures)) (omega (arith, c.min-to.ensures))
    c.share_rows-shared.ensures.moves.keeps.left c.share_rows-shared.ensures.shared
    c.lift_rows.ensures.empty c.lift_rows.ensures.moves.keeps.left c.lift_rows-2.ensures.empty c.lift_rows-2.ensures.moves.keeps.left

pub returns : goal.returns
returns c =
    let since = family-then c.requires.lifting.lifted.exact.forest c.lift_rows.ensures.moves c.lift_rows-2.ensures.moves in
    let all = family-then c.requires.lifting.lifted.exact.forest c.share_rows-shared.ensures.moves since in
    let over = c.hand_rows.ensures in
    handed-then over (moves-as all (all.keeps.below over.of))
