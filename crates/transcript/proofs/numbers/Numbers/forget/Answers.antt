use Rattle.std.proofs.Common.{sym, ◌∙◌}
use Rattle.transcript.proofs.NumberLaws.{number_seen-none, number_seen-gone, inverse-less, inside}
use Rattle.transcript.proofs.numbers.Numbers.forget.Goals as goal

pub returns-in_default-clause-gone : goal.returns-in_default-clause-gone
returns-in_default-clause-gone c =
    rw (← c.self.view_is) (number_seen-none c.self.inside.told.items c.args.frame (sym c.value_at.ensures ∙ c.in_default.is))

pub put-requires : goal.put-requires
put-requires c = inside c.self.inside.told.items c.args.frame c.in-Some.number (sym c.value_at.ensures ∙ c.in-Some.is)

pub put-requires-2 : goal.put-requires-2
put-requires-2 c =
    let seen = sym c.value_at.ensures ∙ c.in-Some.is in
    inside c.self.inside.frames.items c.in-Some.number c.args.frame (c.self.invariant.there c.args.frame c.in-Some.number seen)

pub invariant_of-self : goal.invariant_of-self
invariant_of-self c =
    let seen = sym c.value_at.ensures ∙ c.in-Some.is in
    rw c.put.ensures (rw c.put-2.ensures (inverse-less c.self.inside.told.items c.self.inside.frames.items c.args.frame c.in-Some.number c.self.invariant seen))

pub returns-clause-gone : goal.returns-clause-gone
returns-clause-gone c =
    let h = inside c.self.inside.told.items c.args.frame c.in-Some.number (sym c.value_at.ensures ∙ c.in-Some.is) in
    rw (c.put.ensures, ← c.self.view_is) (number_seen-gone c.self.inside.told.items c.args.frame h)
