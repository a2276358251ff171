use Rattle.std.proofs.Common.{sym, ◌∙◌}
use Rattle.checker_ready.proofs.NeedLaws.{need-sole, need-shared}
use Rattle.checker_ready.proofs.needing.frames_for_one.Goals as goal

pub returns-then-is_sole-clause-need : goal.returns-then-is_sole-clause-need
returns-then-is_sole-clause-need c = need-sole _ _ _ (sym c.is_sole.ensures ∙ c.if-is_sole.true)

pub returns-else-is_sole-clause-need : goal.returns-else-is_sole-clause-need
returns-else-is_sole-clause-need c = need-shared _ _ _ (sym c.is_sole.ensures ∙ c.if-is_sole.false)
