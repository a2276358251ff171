use Rattle.std.proofs.Common.{ap, ◌∙◌}
use Rattle.pin_table.specs.Table.{pins_of}
use Rattle.pin_table.proofs.EntryLaws.{pins_in-same}
use Rattle.pin_table.proofs.CountedLaws.{AreCountedByPage-same}
use Rattle.pin_table.proofs.pin_table.PinTable.reserve.Goals as goal

pub invariant_of-self-in_default-reserve : goal.invariant_of-self-in_default-reserve
invariant_of-self-in_default-reserve c =
    let pins = pins_in-same c.self.inside.pins.entries c.reserve.new.self.entries c.reserve.ensures.entries.2 in
    record { pages = AreCountedByPage-same _ _ _ _ pins c.reserve-2.ensures.values c.self.invariant.pages }

pub returns-in_default-reserve-clause-pins : goal.returns-in_default-reserve-clause-pins
returns-in_default-reserve-clause-pins c =
    pins_in-same c.self.inside.pins.entries c.reserve.new.self.entries c.reserve.ensures.entries.2 ∙ ap pins_of c.self.view_is

pub invariant_of-self-2 : goal.invariant_of-self-2
invariant_of-self-2 c =
    let pins = pins_in-same c.self.inside.pins.entries c.reserve.new.self.entries c.reserve.ensures.entries.2 in
    record { pages = AreCountedByPage-same _ _ _ _ pins c.reserve-2.ensures.values c.self.invariant.pages }

pub returns-clause-pins : goal.returns-clause-pins
returns-clause-pins c =
    pins_in-same c.self.inside.pins.entries c.reserve.new.self.entries c.reserve.ensures.entries.2 ∙ ap pins_of c.self.view_is
