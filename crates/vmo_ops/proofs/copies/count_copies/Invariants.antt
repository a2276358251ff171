use Rattle.std.proofs.Common.{◌≡◌, ◌+◌, ◌-◌, ◌≤◌, length}
use Rattle.vm_model.specs.Naming.Pins.{is_pinned}
use Rattle.pin_table.specs.Table.{pins_of}
use Rattle.vmo_ops.specs.inside.Copies.{copies_of}
use Rattle.vmo_ops.proofs.copies.count_copies.Given as goal

-- the copies before this page were counted
abbrev pub invariant-loop-page : goal.invariant-loop-page
invariant-loop-page l = record {
  bound : l.from ≤ l.seen;
  few : l.copied ≤ l.from;
  counted : l.copied + length (copies_of (is_pinned (pins_of l.pins) l.of.0) l.first l.seen l.from)
      ≡ length (copies_of (is_pinned (pins_of l.pins) l.of.0) l.first l.seen 0);
}

abbrev pub decreases-loop-page : goal.decreases-loop-page
decreases-loop-page l = l.seen - l.from
