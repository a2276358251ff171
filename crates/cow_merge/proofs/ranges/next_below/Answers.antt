use Rattle.cow_merge.proofs.Words.{first_key, first-below, first-past}
use Rattle.cow_merge.proofs.ranges.next_below.Goals as goal

pub returns-then-page-to : goal.returns-then-page-to
returns-then-page-to c = first-below (first_key _ _ _ (c.next.ensures.least _ c.in_ok-page.was)) _ c.if-page-to.true

pub returns-else-page-to : goal.returns-else-page-to
returns-else-page-to c = first-past (first_key _ _ _ (c.next.ensures.least _ c.in_ok-page.was)) _ c.if-page-to.false
