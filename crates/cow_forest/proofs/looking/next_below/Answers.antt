use Rattle.cow_forest.proofs.Words.{first_key, first-below, first-past}
use Rattle.cow_forest.proofs.looking.next_below.Goals as goal

pub returns-then-row-to : goal.returns-then-row-to
returns-then-row-to c = first-below (first_key _ _ _ (c.next.ensures.least _ c.in_ok-row.was)) _ c.if-row-to.true

pub returns-else-row-to : goal.returns-else-row-to
returns-else-row-to c = first-past (first_key _ _ _ (c.next.ensures.least _ c.in_ok-row.was)) _ c.if-row-to.false
