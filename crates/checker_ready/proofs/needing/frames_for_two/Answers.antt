use Rattle.std.proofs.Common.{sym, ◌∙◌}
use Rattle.checker_ready.proofs.NeedLaws.{need-first_sole}
use Rattle.checker_ready.proofs.needing.frames_for_two.Goals as goal

pub returns-then-is_sole : goal.returns-then-is_sole
returns-then-is_sole c = c.frames_for_one.ensures.need ∙ need-first_sole _ _ _ _ _ (sym c.is_sole.ensures ∙ c.if-is_sole.true)
