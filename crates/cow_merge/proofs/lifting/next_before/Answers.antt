-- No row stands before the one that is next, and this is past the end.
use Rattle.cow_merge.proofs.Words.{slots_of}
use Rattle.cow_merge.proofs.LiftedLaws.{none-below}
use Rattle.cow_merge.proofs.lifting.next_before.Goals as goal

pub returns-then-is_past-clause-end : goal.returns-then-is_past-clause-end
returns-then-is_past-clause-end c =
    none-below (slots_of c.args.lists.now c.args.list.0) c.args.from c.in_ok-page.page c.args.to c.in_ok-page.ensures (c.is_past.ensures c.if-is_past.true)
