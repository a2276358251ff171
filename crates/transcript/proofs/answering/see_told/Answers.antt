use Rattle.transcript.proofs.HearLaws.{frames_heard}
use Rattle.transcript.proofs.NumberLaws.{wide_from}
use Rattle.transcript.proofs.answering.see_told.Goals as goal

pub returns-clause-heard : goal.returns-clause-heard
returns-clause-heard c = λ line e.
    frames_heard _ _ _ c.args.frames.now c.args.told.now line c.see_all.result e (wide_from c.args.told.now c.type_inv.told) c.see_all.ensures.may c.see_all.ensures.seen
