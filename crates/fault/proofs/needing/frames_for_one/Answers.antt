use Rattle.std.proofs.Common.{ap, ◌∙◌, arith}
use Rattle.page_store.specs.Needs.{need_by}
use Rattle.page_store.proofs.NeedLaws.{need-one}
use Rattle.fault.proofs.NeedingLaws.{FitsAs-free, FitsAs-same}
use Rattle.fault.proofs.needing.frames_for_one.Goals as goal

pub returns-then-free-gt0 : goal.returns-then-free-gt0
returns-then-free-gt0 g c = FitsAs-free _ _ _ (omega (arith, c.free.ensures, c.if-free-gt0.true))

pub returns : goal.returns
returns g c = FitsAs-same _ _ _ (c.need_of.ensures ∙ (ap need_by c.look.ensures ∙ need-one _ _ _))
