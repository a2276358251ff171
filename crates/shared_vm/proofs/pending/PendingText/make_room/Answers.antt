use Rattle.shared_vm.proofs.PendingLaws.{PassesOn-none, flushed_all, flushed_room}
use Rattle.shared_vm.proofs.pending.PendingText.make_room.Goals as goal

pub returns-then-count-self-clause-ok : goal.returns-then-count-self-clause-ok
returns-then-count-self-clause-ok g c = PassesOn-none _ _

pub returns-clause-ok : goal.returns-clause-ok
returns-clause-ok g c = flushed_all c.flush.result _ _ _ _ c.flush.ensures.ok c.flush.ensures.none

pub returns-clause-room : goal.returns-clause-room
returns-clause-room g c = flushed_room c.flush.result _ _ _ c.requires c.flush.ensures.none
