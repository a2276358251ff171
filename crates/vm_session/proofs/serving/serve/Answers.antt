use Rattle.std.proofs.Common.{refl, arith}
use Rattle.vm_model.proofs.MachineLaws.{IsGoodMachine-empty}
use Rattle.vm_core.proofs.StartLaws.{filled_fresh, machine_of-filled}
use Rattle.line_server.proofs.Beginning.{NothingDone-yet}
use Rattle.vm_session.proofs.serving.serve.Goals as goal

pub returns-in_default-clause-ends : goal.returns-in_default-clause-ends
returns-in_default-clause-ends g c = NothingDone-yet _ _ _ _ refl c.requires.empty

pub serve-status-requires-clause-agrees : goal.serve-status-requires-clause-agrees
serve-status-requires-clause-agrees g c =
    let fresh = filled_fresh c.args.frames _ _ refl refl in
    c.in-Ok.ensures.agrees _ fresh.0 (omega (arith, fresh.1))

pub serve-status-requires-clause-start : goal.serve-status-requires-clause-start
serve-status-requires-clause-start g c =
    machine_of-filled c.args.frames _ _ c.in-Ok.interpreter c.in-Ok.ensures.bare refl refl

pub serve-status-requires-clause-good : goal.serve-status-requires-clause-good
serve-status-requires-clause-good g c = IsGoodMachine-empty c.args.frames
