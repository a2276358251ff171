use Rattle.moving_model.proofs.PinnedLaws.{pinned_stays}
use Rattle.moving_model.proofs.MovingLaws.{moving_pinned}
use Rattle.moving_model.proofs.laws.a_pinned_page_keeps_its_frame.Goals as goal

pub returns-clause-stays : goal.returns-clause-stays
returns-clause-stays c = pinned_stays

pub returns-clause-moving : goal.returns-clause-moving
returns-clause-moving c = moving_pinned
