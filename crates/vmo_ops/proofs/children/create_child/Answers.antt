use Rattle.pin_table.specs.Table.{pins_of}
use Rattle.vmo_ops.proofs.children.create_child.Goals as goal

pub slice-requires-clause-parts : goal.slice-requires-clause-parts
slice-requires-clause-parts g c = record {
  rest = record c.requires.parts.rest { pins = pins_of c.args.pins.now };
  good = c.requires.parts.good;
}

pub returns-in-Snapshot-clause-step : goal.returns-in-Snapshot-clause-step
returns-in-Snapshot-clause-step g c = λ rest parent named. rw c.in-Snapshot.is (c.snapshot.ensures.step rest parent named)

pub returns-in-Slice-clause-step : goal.returns-in-Slice-clause-step
returns-in-Slice-clause-step g c = λ rest parent named.
    rw c.in-Slice.is (c.slice.ensures.step (record rest { pins = pins_of c.args.pins.now }) parent named)

pub returns-in-Reference-clause-step : goal.returns-in-Reference-clause-step
returns-in-Reference-clause-step g c = λ rest parent named.
    rw c.in-Reference.is (c.reference.ensures.step (g.P.PageStore.content c.args.store.now)
    (record rest { pins = pins_of c.args.pins.now }) parent named)
