use Rattle.std.proofs.Common.{◌≡◌, ◌≤◌, refl, ap, ◌∙◌, arith}
use Rattle.vm_base.specs.Entries.{with_key}
use Rattle.pair_map.specs.Maps.{values_of}
use Rattle.pin_table.specs.Table.{Pins, pins_in, pins_of}
use Rattle.pin_table.specs.inside.TableFields.{pin_table_of}
use Rattle.pin_table.proofs.EntryLaws.{pins_in-put, from_ok}
use Rattle.pin_table.proofs.CountedLaws.{AreCountedByPage-same, AreCountedByPage-added, pins_few}
use Rattle.pin_table.proofs.pin_table.PinTable.add.Goals as goal

pub pin_pages-requires-clause-few : goal.pin_pages-requires-clause-few
pin_pages-requires-clause-few c = pins_few _ _ c.self.invariant.pages c.args.koid.0

-- the pin had room
added : (c : goal.After-pin_pages) → pins_in c.insert-added.new.self.entries ≡ with_key (pins_in c.self.inside.pins.entries) c.args.pin.0 (record { koid = c.args.koid.0; first = c.args.first; count = c.args.count })
added c =
    let room : 1 ≤ (pin_table_of c.self.inside).room = rw (← c.self.view_is) at c.requires.room in
    pins_in-put c.self.inside.pins.entries c.insert-added.new.self.entries c.args.pin.0 (record { koid = c.args.koid; first = c.args.first; count = c.args.count })
    (from_ok c.insert-added.result (c.insert-added.ensures.succeeds (omega arith)) c.insert-added.ensures.updates).0

pub invariant_of-self : goal.invariant_of-self
invariant_of-self c =
    let free = ap (λ (t : Pins). pins_of t c.args.pin.0) c.self.view_is ∙ c.requires.pin in
    let more = AreCountedByPage-added _ _ c.self.invariant.pages c.args.pin.0 (record { koid = c.args.koid.0; first = c.args.first; count = c.args.count }) (values_of c.pin_pages.new.pages)
    (omega arith) free c.requires.pages c.pin_pages.ensures.kept c.pin_pages.ensures.pin in
    record { pages = AreCountedByPage-same _ _ _ _ (added c) refl more }

pub returns : goal.returns
returns c =
    added c
    ∙ ap (λ (t : Pins). with_key (pins_of t) c.args.pin.0 (record { koid = c.args.koid.0; first = c.args.first; count = c.args.count })) c.self.view_is
