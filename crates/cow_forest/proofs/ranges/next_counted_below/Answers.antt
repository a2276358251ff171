use Rattle.cow_forest.proofs.Words.{first_key, first-below, first-past}
use Rattle.cow_forest.proofs.ranges.next_counted_below.Goals as goal

pub returns-then-row-to-clause-next : goal.returns-then-row-to-clause-next
returns-then-row-to-clause-next g c = first-below (first_key _ _ _ (c.next_counted.ensures.page.least _ c.in_ok-row.was)) _ c.if-row-to.true

pub returns-else-row-to-clause-next : goal.returns-else-row-to-clause-next
returns-else-row-to-clause-next g c = first-past (first_key _ _ _ (c.next_counted.ensures.page.least _ c.in_ok-row.was)) _ c.if-row-to.false
