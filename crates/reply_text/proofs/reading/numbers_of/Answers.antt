use Rattle.std.proofs.Common.{◌∙◌, sym, subst}
use Rattle.std.proofs.lemmas.Bool.{eqb-false}
use Rattle.reply_text.proofs.SpaceLaws.{IsRead, IsRead-more, IsRead-none}
use Rattle.reply_text.proofs.reading.numbers_of.Goals as goal

pub returns-in_default : goal.returns-in_default
returns-in_default c = λ numbers few fits e.
    IsRead-none c.args.text.now c.loop-rest.numbers c.loop-rest.rest.now c.loop-rest.invariant (eqb-false _ 0 (sym c.is_empty.ensures ∙ c.loop-rest-test.true)) c.in_default.ensures.number numbers fits e

pub loop-rest-preserved : goal.loop-rest-preserved
loop-rest-preserved c =
    let number = c.in-Some.ensures.number in
    subst (λ numbers. IsRead c.args.text.now numbers c.in-Some.more.now) (sym (c.push.ensures.added (c.push.ensures.room.0 c.if-not-push.false)))
    (IsRead-more c.args.text.now c.loop-rest.numbers c.loop-rest.rest.now c.loop-rest.invariant c.in-Some.number c.in-Some.more.now number.0 number.1 number.2)
