use Rattle.std.proofs.Common.{refl, arith}
use Rattle.vm_core.proofs.StartLaws.{filled_fresh, machine_of-filled}
use Rattle.line_server.proofs.Beginning.{NothingDone-yet}
use Rattle.vm_session.proofs.Beginning.{first_koid}
use Rattle.vm_session.proofs.WorkLaws.{Works-told}
use Rattle.vm_session.proofs.working.work.Goals as goal

pub returns-in_default-clause-ends : goal.returns-in_default-clause-ends
returns-in_default-clause-ends g c = λ source. NothingDone-yet _ _ _ _ refl c.requires.empty

pub returns-in_default-fill-clause-ends : goal.returns-in_default-fill-clause-ends
returns-in_default-fill-clause-ends g c = λ source. NothingDone-yet _ _ _ _ c.in_default-fill.ensures.err c.requires.empty

pub work_through-tally-requires-clause-agrees : goal.work_through-tally-requires-clause-agrees
work_through-tally-requires-clause-agrees g c =
    let fresh = filled_fresh c.args.frames _ _ c.in-Ok-fill.ensures.ok c.requires.empty in
    c.new-vm.ensures.agrees _ fresh.0 (omega (arith, fresh.1))

pub work_through-tally-requires-clause-next : goal.work_through-tally-requires-clause-next
work_through-tally-requires-clause-next g c =
    let empty = machine_of-filled c.args.frames _ _ c.new-vm.result c.new-vm.ensures.bare c.in-Ok-fill.ensures.ok
    c.requires.empty in
    omega (arith, first_koid c.args.frames _ empty, c.requires.count)

pub returns-in-Ok-push_all-clause-ends : goal.returns-in-Ok-push_all-clause-ends
returns-in-Ok-push_all-clause-ends g c =
    let empty = machine_of-filled c.args.frames _ _ c.new-vm.result c.new-vm.ensures.bare c.in-Ok-fill.ensures.ok
    c.requires.empty in
    λ source. Works-told _ _ _ _ source _ _ _ _ empty c.work_through-tally.ensures.steps
    c.work_through-tally.ensures.good c.write_tally-end.ensures.line c.in-Ok-push_all.ensures.ok

pub returns-clause-ends : goal.returns-clause-ends
returns-clause-ends g c =
    let empty = machine_of-filled c.args.frames _ _ c.new-vm.result c.new-vm.ensures.bare c.in-Ok-fill.ensures.ok
    c.requires.empty in
    λ source. Works-told _ _ _ _ source _ _ _ _ empty c.work_through-tally.ensures.steps
    c.work_through-tally.ensures.good c.write_tally-end.ensures.line c.in-Err.ensures.err
