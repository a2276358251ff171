use Rattle.cow_merge.proofs.RangeLaws.{given-one, given-none}
use Rattle.cow_merge.proofs.ranges.give_back_frame.Goals as goal

pub returns-in-Frame : goal.returns-in-Frame
returns-in-Frame c = rw c.in-Frame.is (given-one _ _ _ c.give_back.ensures.frames c.give_back.ensures.links c.give_back.ensures.taken)

pub returns-in_default : goal.returns-in_default
returns-in_default c = rw c.in_default.is (given-none _)
