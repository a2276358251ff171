use Rattle.cow_split.proofs.Words.{arith}
use Rattle.cow_split.proofs.WayLaws.{finds-here, goes-some, goes-onward}
use Rattle.cow_split.proofs.WeightLaws.{less-onward, weight-here}
use Rattle.cow_split.proofs.viewers.next_viewer.Goals as goal

pub meet-requires-clause-node : goal.meet-requires-clause-node
meet-requires-clause-node c =
    let some = c.requires.from in
    goes-some _ c.requires.forest _ _ _ _ _ (finds-here _ c.requires.forest _ _ _ _ c.in-Some.is (c.loop-next.invariant.finds some.ahead some.finds))

pub loop-next-smaller-in-Below : goal.loop-next-smaller-in-Below
loop-next-smaller-in-Below c =
    let less = less-onward _ _ c.requires.forest _ _ c.in-Below.ensures.node c.in-Below.ensures.through.at c.in-Below.ensures.left in
    let same = weight-here _ _ c.requires.forest _ _ c.in-Some.is in
    omega arith

pub loop-next-preserved-in-Below : goal.loop-next-preserved-in-Below
loop-next-preserved-in-Below c = record {
  finds = λ ahead finds. goes-onward _ c.requires.forest _ _ _ _ _ _ _
      (finds-here _ c.requires.forest _ _ _ _ c.in-Some.is (c.loop-next.invariant.finds ahead finds)) c.in-Below.ensures;
  less =
      let less = less-onward _ _ c.requires.forest _ _ c.in-Below.ensures.node c.in-Below.ensures.through.at c.in-Below.ensures.left in
      let same = weight-here _ _ c.requires.forest _ _ c.in-Some.is in
      let before = c.loop-next.invariant.less in
      omega arith;
}
