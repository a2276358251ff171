use Rattle.std.proofs.Common.{◌+◌}
use Rattle.vm_base.proofs.SearchLaws.{first-below, first-past}
use Rattle.vmo_ops.proofs.CopyRows.{copy-first, no_copy}
use Rattle.vmo_ops.proofs.copies.next_copy.Goals as goal

pub returns-in_default : goal.returns-in_default
returns-in_default c = no_copy _ _ _ _ (c.in_default.ensures.none (c.args.first + c.args.seen))

pub returns-then-page-end : goal.returns-then-page-end
returns-then-page-end c = no_copy _ _ _ _ (first-past c.in-Some.ensures.some (c.args.first + c.args.seen) c.if-page-end.true)

pub returns : goal.returns
returns c = copy-first _ _ _ _ _ (first-below c.in-Some.ensures.some (c.args.first + c.args.seen) c.if-page-end.false)
