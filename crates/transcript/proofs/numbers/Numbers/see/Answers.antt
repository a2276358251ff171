use Rattle.std.proofs.Common.{arith}
use Rattle.transcript.proofs.NumberLaws.{is_for, may_of, inverse-more, number_seen-seen}
use Rattle.transcript.proofs.numbers.Numbers.see.Goals as goal

pub put-requires-2 : goal.put-requires-2
put-requires-2 c =
    let may = may_of c.args.self.now c.self.inside.told.items c.args.frame c.args.number c.self.view_is c.requires.may in
    omega (arith, (is_for c.self.inside.told.items c.self.inside.frames.items c.args.frame c.args.number c.self.invariant may).low, c.self.invariant.size)

pub invariant_of-self : goal.invariant_of-self
invariant_of-self c =
    let may = may_of c.args.self.now c.self.inside.told.items c.args.frame c.args.number c.self.view_is c.requires.may in
    let h = rw (← c.self.view_is) at c.requires.inside in
    rw c.put.ensures (rw c.put-2.ensures (inverse-more c.self.inside.told.items c.self.inside.frames.items c.args.frame c.args.number c.self.invariant h
    (is_for c.self.inside.told.items c.self.inside.frames.items c.args.frame c.args.number c.self.invariant may)))

pub returns-clause-seen : goal.returns-clause-seen
returns-clause-seen c =
    let h = rw (← c.self.view_is) at c.requires.inside in
    rw (c.put.ensures, ← c.self.view_is) (number_seen-seen c.self.inside.told.items c.args.frame c.args.number h)
