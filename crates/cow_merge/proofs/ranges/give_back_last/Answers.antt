use Rattle.cow_merge.proofs.RangeLaws.{given-one, given-kept}
use Rattle.cow_merge.proofs.ranges.give_back_last.Goals as goal

pub returns-in-LastViewer : goal.returns-in-LastViewer
returns-in-LastViewer c = rw c.in-LastViewer.is (given-one _ _ _ c.give_back.ensures.frames c.give_back.ensures.links c.give_back.ensures.taken)

pub returns-in_default : goal.returns-in_default
returns-in_default c = given-kept _ _ c.in_default.not-LastViewer
