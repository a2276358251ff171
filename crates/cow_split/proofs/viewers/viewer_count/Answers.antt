use Rattle.cow_split.proofs.Words.{None, arith, tree_of}
use Rattle.cow_split.proofs.FoundLaws.{count-next, count-most}
use Rattle.cow_split.proofs.ViewersLaws.{viewers-few}
use Rattle.cow_split.proofs.viewers.viewer_count.Goals as goal

pub overflow_add-count : goal.overflow_add-count
overflow_add-count c =
    let more = count-most _ None _ _ _ (count-next _ None _ _ _ _ _ c.loop-after.invariant c.in-Some.ensures.next) in
    let few = viewers-few (tree_of c.args.arena.now c.args.lists.now) c.requires.forest None c.args.side c.args.node.0 c.args.page c.capacity-room.result c.capacity-room.ensures.below in
    omega arith

pub loop-after-preserved : goal.loop-after-preserved
loop-after-preserved c = count-next _ None _ _ _ _ _ c.loop-after.invariant c.in-Some.ensures.next
