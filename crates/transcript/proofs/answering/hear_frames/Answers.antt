use Rattle.std.proofs.Common.{ap, ◌∙◌, List, ℕ}
use Rattle.vm_model.specs.declared.reply.Reply.TheVariants.{Pins}
use Rattle.vm_model.specs.Language.Text.{reply_lines}
use Rattle.transcript.proofs.HearLaws.{frames_unheard}
use Rattle.transcript.proofs.answering.hear_frames.Goals as goal

pub returns-in-Some-clause-heard : goal.returns-in-Some-clause-heard
returns-in-Some-clause-heard c = c.see_told.ensures.heard _ (ap (λ (ts : List ℕ). reply_lines (Pins ts)) c.as_slice.ensures.value ∙ c.in-Some.ensures)

pub returns-in-None-clause-heard : goal.returns-in-None-clause-heard
returns-in-None-clause-heard c = frames_unheard _ _ c.args.frames.now _ c.in-None.ensures
