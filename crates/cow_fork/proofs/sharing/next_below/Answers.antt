use Rattle.cow_fork.proofs.Words.{first_key, first-below, first-past}
use Rattle.cow_fork.proofs.sharing.next_below.Goals as goal

pub returns-in-Some : goal.returns-in-Some
returns-in-Some c = first-below (first_key _ _ _ (c.next.ensures.least _ c.in-Some.is)) _ c.if-page-end.true

pub returns-in_default : goal.returns-in_default
returns-in_default c = first-past (first_key _ _ _ (c.next.ensures.least _ c.in-Some.is)) _ c.if-page-end.false
