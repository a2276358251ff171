use Rattle.std.proofs.Common.{rules}
use Rattle.vmo_ops.proofs.OwningLaws.{IsOwning-row, IsOwning-room, IsOwning-owned}
use Rattle.vmo_ops.proofs.committing.own_pages.Goals as goal

pub loop-page-init : goal.loop-page-init
loop-page-init g c = search (rules, IsOwning-row)

pub own-requires-clause-room : goal.own-requires-clause-room
own-requires-clause-room g c = IsOwning-room c.loop-page.invariant c.loop-page-test.true

pub loop-page-preserved : goal.loop-page-preserved
loop-page-preserved g c =
    IsOwning-owned c.loop-page.invariant c.loop-page-test.true c.own.ensures.owns c.own.ensures.spare
