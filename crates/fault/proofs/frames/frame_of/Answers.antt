use Rattle.std.proofs.Common.{ap, ◌∙◌}
use Rattle.vm_model.specs.Space.Readiness.{frame_number}
use Rattle.fault.proofs.FrameLaws.{number-frame}
use Rattle.fault.proofs.frames.frame_of.Goals as goal

pub returns : goal.returns
returns g c = ap frame_number c.frame.ensures ∙ number-frame _
