use Rattle.std.proofs.Common.{sym, ap, ◌∙◌}
use Rattle.std.specs.Option.{option_map}
use Rattle.pin_table.specs.Table.{Pins, pin_of_held, pins_of}
use Rattle.pin_table.proofs.EntryLaws.{pins_in-is}
use Rattle.pin_table.proofs.pin_table.PinTable.get.Goals as goal

pub returns-in-Some : goal.returns-in-Some
returns-in-Some c =
    ap (option_map pin_of_held) c.in-Some.ensures.value
    ∙ (sym (pins_in-is c.self.inside.pins.entries c.args.pin.0) ∙ ap (λ (t : Pins). pins_of t c.args.pin.0) c.self.view_is)

pub returns-in-None : goal.returns-in-None
returns-in-None c =
    ap (option_map pin_of_held) c.in-None.ensures.value
    ∙ (sym (pins_in-is c.self.inside.pins.entries c.args.pin.0) ∙ ap (λ (t : Pins). pins_of t c.args.pin.0) c.self.view_is)
