use Rattle.std.proofs.Common.{sym, subst, arith}
use Rattle.vm_model.specs.Machine.Machine.{IsGoodMachine}
use Rattle.vm_model.proofs.MachineLaws.{IsGoodMachine-empty}
use Rattle.vm_core.proofs.StartLaws.{filled_fresh, machine_of-filled}
use Rattle.held_vm.proofs.held.HeldVm+P.over.Goals as goal

pub invariant_of-result : goal.invariant_of-result
invariant_of-result g c =
    let fresh = filled_fresh c.args.frames _ _ c.in_ok-store.ensures c.requires.empty in
    let is = machine_of-filled c.args.frames _ _ c.in_ok-interpreter.interpreter c.in_ok-interpreter.ensures.bare c.in_ok-store.ensures c.requires.empty in
    record { agrees = c.in_ok-interpreter.ensures.agrees _ fresh.0 (omega (arith, fresh.1)); good = subst IsGoodMachine (sym is) (IsGoodMachine-empty c.args.frames) }

pub returns : goal.returns
returns g c = record { machine = machine_of-filled c.args.frames _ _ c.in_ok-interpreter.interpreter c.in_ok-interpreter.ensures.bare c.in_ok-store.ensures c.requires.empty }
