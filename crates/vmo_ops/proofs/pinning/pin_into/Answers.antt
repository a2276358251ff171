use Rattle.std.proofs.Common.{refl, sym, arith}
use Rattle.vm_model.proofs.StepLaws.{Step-lacks}
use Rattle.vmo_ops.specs.Targets.{with_tables}
use Rattle.vmo_ops.proofs.AskLaws.{Step-refused}
use Rattle.vmo_ops.proofs.NameLaws.{named_inside, named_known}
use Rattle.vmo_ops.proofs.PinLaws.{few_keepers, pinned_counts, pinned_step, placed_range}
use Rattle.pin_table.specs.Table.{pins_of}
use Rattle.vmo_ops.proofs.pinning.pin_into.Goals as goal

pub ask_to_pin-requires-clause-good : goal.ask_to_pin-requires-clause-good
ask_to_pin-requires-clause-good g c = c.requires.parts.1.good.content

pub ask_to_pin-requires-clause-inside : goal.ask_to_pin-requires-clause-inside
ask_to_pin-requires-clause-inside g c = named_inside _ _ c.requires.parts.1.good c.requires.named

pub room_to_pin-requires-clause-good : goal.room_to_pin-requires-clause-good
room_to_pin-requires-clause-good g c = c.requires.parts.1.good.content

pub room_to_pin-requires-clause-vmo : goal.room_to_pin-requires-clause-vmo
room_to_pin-requires-clause-vmo g c = (named_inside _ _ c.requires.parts.1.good c.requires.named).vmo

pub room_to_pin-requires-clause-inside : goal.room_to_pin-requires-clause-inside
room_to_pin-requires-clause-inside g c = omega (arith, c.in-Ok.ensures.ok.placed.inside, c.in-Ok.ensures.touched.end)

pub room_to_pin-requires-clause-order : goal.room_to_pin-requires-clause-order
room_to_pin-requires-clause-order g c = c.in-Ok.ensures.touched.order

pub room_to_pin-requires-clause-rows : goal.room_to_pin-requires-clause-rows
room_to_pin-requires-clause-rows g c = rw (← c.in-Ok.ensures.touched.row) c.in-Ok.ensures.ok.asked

pub add_pin-requires-clause-good : goal.add_pin-requires-clause-good
add_pin-requires-clause-good g c = rw c.room_to_pin.ensures.content c.requires.parts.1.good.content

pub add_pin-requires-clause-inside : goal.add_pin-requires-clause-inside
add_pin-requires-clause-inside g c = rw c.room_to_pin.ensures.content c.in-Ok.ensures.ok.placed.inside

pub add_pin-requires-clause-whole : goal.add_pin-requires-clause-whole
add_pin-requires-clause-whole g c = placed_range _ _ _ _ _ c.in-Ok.ensures.ok.placed c.in-Ok.ensures.ok.range

pub add_pin-requires-clause-rows : goal.add_pin-requires-clause-rows
add_pin-requires-clause-rows g c = rw (c.room_to_pin.ensures.content, c.in-Ok.ensures.touched.row) c.in-Ok-room_to_pin.ensures.rows

pub add_pin-requires-clause-frames : goal.add_pin-requires-clause-frames
add_pin-requires-clause-frames g c = rw c.room_to_pin.ensures.content c.in-Ok.ensures.ok.frames

pub add_pin-requires-clause-free : goal.add_pin-requires-clause-free
add_pin-requires-clause-free g c = rw c.room_to_pin.ensures.pins c.requires.free

pub add_pin-requires-clause-pins : goal.add_pin-requires-clause-pins
add_pin-requires-clause-pins g c = c.in-Ok-room_to_pin.ensures.room

pub add_pin-requires-clause-numbers : goal.add_pin-requires-clause-numbers
add_pin-requires-clause-numbers g c = c.requires.room

pub add_pin-requires-clause-koid : goal.add_pin-requires-clause-koid
add_pin-requires-clause-koid g c = named_known _ _ c.requires.parts.1.good c.requires.named

pub add_pin-requires-clause-few : goal.add_pin-requires-clause-few
add_pin-requires-clause-few g c = few_keepers (with_tables c.requires.parts.0 (g.P.PageStore.content c.args.store.now) c.args.vmos.now c.args.pins.now) c.args.vmos.now _ c.requires.parts.1.counted

pub returns-clause-step : goal.returns-clause-step
returns-clause-step g c = λ s name named.
    let added = c.add_pin.ensures in
    rw (added.names, added.lineage, added.pins, c.room_to_pin.ensures.pins) (
    pinned_step (with_tables s (g.P.PageStore.content c.args.store.now) c.args.vmos.now c.args.pins.now) c.args.pin name c.args.offset c.args.len _ named c.requires.free
    _ _ (g.P.PageStore.content c.add_pin.new.store) _ c.in-Ok.ensures.ok (rw c.room_to_pin.ensures.content at added.owns) added.numbers
    )

pub returns-clause-counted : goal.returns-clause-counted
returns-clause-counted g c = λ s counted.
    let added = c.add_pin.ensures in
    rw (added.pins, c.room_to_pin.ensures.pins) (pinned_counts s c.args.vmos.now c.add_pin.new.vmos (pins_of c.args.pins.now) c.args.pin.0 _ added.pin c.requires.free added.keepers counted)

pub returns-in-Err-clause-step : goal.returns-in-Err-clause-step
returns-in-Err-clause-step g c = λ s name named.
    Step-refused (with_tables s (g.P.PageStore.content c.args.store.now) c.args.vmos.now c.args.pins.now) _ _
    (c.in-Err.ensures.refusal c.args.pin (pins_of c.args.pins.now) c.requires.free (with_tables s (g.P.PageStore.content c.args.store.now) c.args.vmos.now c.args.pins.now) name named)

pub returns-in_default-clause-step : goal.returns-in_default-clause-step
returns-in_default-clause-step g c = λ s name named.
    let old = with_tables s (g.P.PageStore.content c.args.store.now) c.args.vmos.now c.args.pins.now in
    rw (c.room_to_pin.ensures.content, c.room_to_pin.ensures.pins)
    (Step-lacks old _ (sym (c.in-Ok.ensures.refusal c.args.pin (pins_of c.args.pins.now) c.requires.free old name named)) refl)

pub returns-in_default-clause-counted : goal.returns-in_default-clause-counted
returns-in_default-clause-counted g c = λ s counted. rw c.room_to_pin.ensures.pins counted
