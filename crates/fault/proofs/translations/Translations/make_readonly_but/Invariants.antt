use Rattle.std.proofs.Common.{◌≡◌, ◌-◌, ◌≤◌}
use Rattle.vm_model.specs.Naming.Pins.{is_pinned}
use Rattle.pin_table.specs.Table.{pins_of}
use Rattle.fault.specs.Table.{translations_of}
use Rattle.fault.specs.inside.Left.{with_read_only_but}
use Rattle.fault.proofs.translations.Translations.make_readonly_but.Given as goal

-- the pages up to here are for reading alone, but for the pinned ones
abbrev pub invariant-loop-pinned : goal.invariant-loop-pinned
invariant-loop-pinned l = record {
  first : l.first ≤ l.from;
  bound : l.from ≤ l.end;
  left : translations_of l.self ≡ with_read_only_but (is_pinned (pins_of l.pins) l.v.0) l.v.0 l.first l.from (translations_of l.initial.self);
}

abbrev pub decreases-loop-pinned : goal.decreases-loop-pinned
decreases-loop-pinned l = l.end - l.from
