use Rattle.std.proofs.Common.{IsSome, refl, sym, ap, subst, ◌∙◌}
use Rattle.vm_base.specs.Entries.{without_key}
use Rattle.pair_map.specs.Maps.{values_of}
use Rattle.pin_table.specs.Table.{Pins, pin_of_held, pins_of}
use Rattle.pin_table.proofs.EntryLaws.{pins_in_found, pins_in-taken, held_there}
use Rattle.pin_table.proofs.CountedLaws.{AreCountedByPage-same, AreCountedByPage-removed, pages_counted}
use Rattle.pin_table.proofs.pin_table.PinTable.remove.Goals as goal

pub index-held-requires : goal.index-held-requires
index-held-requires c = held_there c.self.inside.pins.entries c.args.pin.0 (subst (λ (t : Pins). IsSome (pins_of t c.args.pin.0)) (sym c.self.view_is) c.requires)

pub unpin_pages-requires-clause-pinned : goal.unpin_pages-requires-clause-pinned
unpin_pages-requires-clause-pinned c =
    pages_counted _ _ c.self.invariant.pages c.args.pin.0 (pin_of_held c.index-held.result.now) (pins_in_found c.self.inside.pins.entries c.args.pin.0 c.index-held.result.now c.index-held.ensures)

pub unpin_pages-requires-clause-end : goal.unpin_pages-requires-clause-end
unpin_pages-requires-clause-end c =
    c.self.invariant.pages.ends c.args.pin.0 (pin_of_held c.index-held.result.now) (pins_in_found c.self.inside.pins.entries c.args.pin.0 c.index-held.result.now c.index-held.ensures)

pub invariant_of-self : goal.invariant_of-self
invariant_of-self c =
    let found = pins_in_found c.self.inside.pins.entries c.args.pin.0 c.index-held.result.now c.index-held.ensures in
    let taken = pins_in-taken c.self.inside.pins.entries c.remove-removed.new.self.entries c.args.pin.0 c.remove-removed.ensures.updates.0 in
    let removed = AreCountedByPage-removed _ _ c.self.invariant.pages c.args.pin.0 (pin_of_held c.index-held.result.now) (values_of c.unpin_pages.new.pages) found c.unpin_pages.ensures.kept c.unpin_pages.ensures.pin in
    record { pages = AreCountedByPage-same _ _ _ _ taken refl removed }

pub returns-clause-pins : goal.returns-clause-pins
returns-clause-pins c =
    pins_in-taken c.self.inside.pins.entries c.remove-removed.new.self.entries c.args.pin.0 c.remove-removed.ensures.updates.0
    ∙ ap (λ (t : Pins). without_key (pins_of t) c.args.pin.0) c.self.view_is

pub returns-clause-pin : goal.returns-clause-pin
returns-clause-pin c =
    sym (pins_in_found c.self.inside.pins.entries c.args.pin.0 c.index-held.result.now c.index-held.ensures)
    ∙ ap (λ (t : Pins). pins_of t c.args.pin.0) c.self.view_is
