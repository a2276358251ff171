use Rattle.pin_table.proofs.CountedLaws.{pinned-none, pinned-first}
use Rattle.pin_table.proofs.pin_table.PinTable.next_pinned.Goals as goal

pub returns-in-Some-clause-some : goal.returns-in-Some-clause-some
returns-in-Some-clause-some c = rw (← c.self.view_is) (pinned-first _ _ c.self.invariant.pages c.args.koid.0 c.args.from _ c.in-Some.ensures.next)

pub returns-in-None-clause-none : goal.returns-in-None-clause-none
returns-in-None-clause-none c = rw (← c.self.view_is) (λ end. pinned-none _ _ c.self.invariant.pages c.args.koid.0 c.args.from end c.in-None.ensures.next)
