use Rattle.std.proofs.Common.{arith, rules, refl, ap, length}
use Rattle.script_io.specs.Slices.{lent}
use Rattle.script_io.proofs.Lending.{lent_out, lent_bound}
use Rattle.vmosim_c.proofs.ScriptLaws.{whole_run, longer_run, nothing_done, ends_otherwise}
use Rattle.vmosim_c.proofs.script.answer_script.Goals as goal

pub returns-in-Done : goal.returns-in-Done
returns-in-Done c =
    let s = c.serve-status.new.sink in (
      record { some = omega (arith, c.if-frames-lt1.false); few = omega (arith, c.if-frames-gt-FRAMES.false) },
      whole_run c.answered_lines_are_a_legal_run.ensures c.args.frames _ c.args.script.now _ _ c.args.out.now _ (lent c.new-text.result) (lent s) _ _
          c.new-source.ensures c.new-text.ensures c.serve-status.ensures.ends s.out.now s.out.ghost_name _ refl (lent_out s) (search rules)
          _ c.taken-len.ensures c.in-Done.is,
    )

pub returns-in-WriteFault : goal.returns-in-WriteFault
returns-in-WriteFault c =
    let s = c.serve-status.new.sink in
    let longer = longer_run c.answered_lines_are_a_legal_run.ensures c.args.frames _ c.args.script.now _ _ c.args.out.now _ (lent c.new-text.result) (lent s) _ _
    c.new-source.ensures c.new-text.ensures c.serve-status.ensures.ends s.out.now s.out.ghost_name _ refl (lent_out s) (search rules)
    c.in-WriteFault.is (omega arith) (c.serve-status.ensures.write_cause c.in-WriteFault.is) (lent_bound s) in
    (record { some = omega (arith, c.if-frames-lt1.false); few = omega (arith, c.if-frames-gt-FRAMES.false) }, longer.0, longer.1)

pub returns-in-HostMemory : goal.returns-in-HostMemory
returns-in-HostMemory c =
    let s = c.serve-status.new.sink in (
      record { some = omega (arith, c.if-frames-lt1.false); few = omega (arith, c.if-frames-gt-FRAMES.false) },
      nothing_done c.answered_lines_are_a_legal_run.ensures c.args.frames _ c.args.script.now _ _ c.args.out.now _ (lent c.new-text.result) (lent s) _ _
          c.new-source.ensures c.new-text.ensures c.serve-status.ensures.ends s.out.now s.out.ghost_name _ refl (lent_out s) (search rules)
          c.in-HostMemory.is,
    )

pub unreachable-requires : goal.unreachable-requires
unreachable-requires c =
    let short = ap length c.new-source.ensures in
    ends_otherwise c.args.frames _ c.new-source.result _ _ _ _ _ (omega (arith, short)) c.serve-status.ensures.ends c.serve-status.ensures.read_cause c.in-Usage.is
