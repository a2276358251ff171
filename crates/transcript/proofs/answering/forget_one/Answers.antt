use Rattle.transcript.proofs.SeenLaws.{cleared_gone}
use Rattle.transcript.proofs.answering.forget_one.Goals as goal

pub returns-then-not-is_pinned_frame-clause-cleared : goal.returns-then-not-is_pinned_frame-clause-cleared
returns-then-not-is_pinned_frame-clause-cleared c =
    cleared_gone _ _ _ c.args.frame (λ h. absurd (let on = c.is_pinned_frame.ensures.1 h in let off = c.if-not-is_pinned_frame.true in cc)) c.forget.ensures.gone
