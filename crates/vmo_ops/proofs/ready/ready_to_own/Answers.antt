use Rattle.std.proofs.Common.{refl, inr}
use Rattle.vmo_ops.proofs.ready.ready_to_own.Goals as goal

pub returns-in-Err-room_to_own-clause-err : goal.returns-in-Err-room_to_own-clause-err
returns-in-Err-room_to_own-clause-err g c =
    let ok = c.in-Ok.ensures.ok in
    inr (ok.0, c.in-Ok.range.at, ok.1, inr (refl, ok.3, rw c.in-Ok.ensures.touched.row c.in-Err-room_to_own.ensures.err))
