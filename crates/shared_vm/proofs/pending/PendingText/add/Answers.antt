use Rattle.std.proofs.Common.{refl}
use Rattle.script_io.proofs.Moving.{on_err}
use Rattle.shared_vm.proofs.PendingLaws.{PassesOn-added, IsCutOff-more}
use Rattle.shared_vm.proofs.pending.PendingText.add.Goals as goal

pub returns-in_err-make_room-clause-err : goal.returns-in_err-make_room-clause-err
returns-in_err-make_room-clause-err g c =
    on_err c.from_residual.result (IsCutOff-more _ _ c.args.self.now c.args.bytes.now _ refl c.in_err-make_room.ensures.err)

pub returns-clause-ok : goal.returns-clause-ok
returns-clause-ok g c = PassesOn-added _ _ _ _ _ _ c.in_ok-make_room.ensures.ok c.append.ensures
