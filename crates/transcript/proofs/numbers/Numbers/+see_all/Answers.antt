use Rattle.transcript.proofs.NumberLaws.{tells_end, seen_end, tells_short, tells_other, tells_more, seen_more}
use Rattle.transcript.proofs.numbers.Numbers.+see_all.Goals as goal

pub returns-in_default-clause-may : goal.returns-in_default-clause-may
returns-in_default-clause-may t c = tells_end _ _ c.args.frames.now c.args.numbers.now c.is_empty.result c.in_default.ensures.cases c.is_empty.ensures

pub returns-in_default-clause-seen : goal.returns-in_default-clause-seen
returns-in_default-clause-seen t c = λ e. seen_end _ c.args.frames.now c.args.numbers.now c.in_default.ensures.cases

pub returns-in_default-split_first-clause-may : goal.returns-in_default-split_first-clause-may
returns-in_default-split_first-clause-may t c =
    tells_short _ _ c.args.frames.now c.args.numbers.now c.in-Some.frame.now c.in-Some.frames.now c.in-Some.ensures.cases.0 c.in_default-split_first.ensures.cases

pub returns-then-not-may_have-clause-may : goal.returns-then-not-may_have-clause-may
returns-then-not-may_have-clause-may t c =
    tells_other _ _ c.args.frames.now c.args.numbers.now c.in-Some.frame.now c.in-Some.frames.now c.in-Some-split_first.number.now c.in-Some-split_first.numbers.now c.may_have.result
    c.in-Some.ensures.cases.0 c.in-Some-split_first.ensures.cases.0 c.may_have.ensures c.if-not-may_have.true

pub returns-clause-may : goal.returns-clause-may
returns-clause-may t c =
    tells_more _ _ _ _ c.args.frames.now c.args.numbers.now c.in-Some.frame.now c.in-Some.frames.now c.in-Some-split_first.number.now c.in-Some-split_first.numbers.now c.may_have.result c.see_all.result
    c.in-Some.ensures.cases.0 c.in-Some-split_first.ensures.cases.0 c.may_have.ensures c.if-not-may_have.false c.see.ensures.seen c.see.ensures.len c.see_all.ensures.may

pub returns-clause-seen : goal.returns-clause-seen
returns-clause-seen t c = λ e.
    seen_more _ _ _ c.args.frames.now c.args.numbers.now c.in-Some.frame.now c.in-Some.frames.now c.in-Some-split_first.number.now c.in-Some-split_first.numbers.now
    c.in-Some.ensures.cases.0 c.in-Some-split_first.ensures.cases.0 c.see.ensures.seen (c.see_all.ensures.seen e)
