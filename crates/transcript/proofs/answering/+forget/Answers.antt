use Rattle.transcript.proofs.SeenLaws.{cleared_empty, cleared_split}
use Rattle.transcript.proofs.answering.+forget.Goals as goal

pub returns-in_default-clause-cleared : goal.returns-in_default-clause-cleared
returns-in_default-clause-cleared t c = cleared_empty _ _ c.args.freed.now c.in_default.ensures.cases

pub returns-clause-cleared : goal.returns-clause-cleared
returns-clause-cleared t c =
    cleared_split _ _ _ _ c.args.freed.now c.in-Some.frame.now c.in-Some.freed.now c.in-Some.ensures.cases.0 c.forget_one.ensures.cleared c.forget.ensures.cleared
