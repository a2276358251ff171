-- A row that is seen through the child is seen by the child, and moves. Any other row goes.
use Rattle.cow_merge.proofs.Words.{sym, ◌∙◌, slots_of}
use Rattle.cow_merge.proofs.LiftedLaws.{lifting-with, row-taken, list-gone, list-moved, settled-sees, settled-reached, settled-gone, settled-moved}
use Rattle.cow_merge.proofs.lifting.settle.Goals as goal

pub give_back_frame-requires : goal.give_back_frame-requires
give_back_frame-requires c =
    let was = lifting-with c.requires.lifting c.args.branch.above c.args.branch.node c.requires.above c.requires.node in
    row-taken c.remove-slot.new.self c.args.page c.remove-slot.result was c.remove-slot.ensures.slot c.remove-slot.ensures.slots

pub returns-then-not-is_seen_through-clause-lifted : goal.returns-then-not-is_seen_through-clause-lifted
returns-then-not-is_seen_through-clause-lifted c =
    let was = lifting-with c.requires.lifting c.args.branch.above c.args.branch.node c.requires.above c.requires.node in
    settled-gone c.remove-slot.new.self c.args.page c.remove-slot.result was c.remove-slot.ensures.slot c.remove-slot.ensures.slots c.side_of-side.result c.side_of-side.ensures c.is_seen_through.result c.is_seen_through.ensures
    c.if-not-is_seen_through.true c.give_back_frame.ensures c.remove-slot.ensures.count c.remove-slot.ensures.spare

pub returns-then-not-is_seen_through-clause-gone : goal.returns-then-not-is_seen_through-clause-gone
returns-then-not-is_seen_through-clause-gone c =
    let was = lifting-with c.requires.lifting c.args.branch.above c.args.branch.node c.requires.above c.requires.node in
    list-gone c.remove-slot.new.self c.args.page c.remove-slot.result was c.remove-slot.ensures.slot c.remove-slot.ensures.slots

pub overflow_sub-to : goal.overflow_sub-to
overflow_sub-to c =
    let was = lifting-with c.requires.lifting c.args.branch.above c.args.branch.node c.requires.above c.requires.node in
    let sees = settled-sees c.remove-slot.new.self c.args.page c.remove-slot.result was c.remove-slot.ensures.slot c.remove-slot.ensures.slots c.side_of-side.result c.side_of-side.ensures c.is_seen_through.result c.is_seen_through.ensures c.if-not-is_seen_through.false in
    sees.from

pub slot_in-moved-requires-clause-forest : goal.slot_in-moved-requires-clause-forest
slot_in-moved-requires-clause-forest c = c.requires.lifting.lifted.exact.forest

pub slot_in-moved-requires-clause-seen : goal.slot_in-moved-requires-clause-seen
slot_in-moved-requires-clause-seen c = λ tag frame none.
    let was = lifting-with c.requires.lifting c.args.branch.above c.args.branch.node c.requires.above c.requires.node in
    settled-reached c.remove-slot.new.self c.args.page c.remove-slot.result was c.remove-slot.ensures.slot c.remove-slot.ensures.slots c.side_of-side.result c.side_of-side.ensures c.is_seen_through.result c.is_seen_through.ensures
    c.if-not-is_seen_through.false tag frame none

pub insert-requires-clause-absent : goal.insert-requires-clause-absent
insert-requires-clause-absent c =
    let was = lifting-with c.requires.lifting c.args.branch.above c.args.branch.node c.requires.above c.requires.node in
    let sees = settled-sees c.remove-slot.new.self c.args.page c.remove-slot.result was c.remove-slot.ensures.slot c.remove-slot.ensures.slots c.side_of-side.result c.side_of-side.ensures c.is_seen_through.result c.is_seen_through.ensures c.if-not-is_seen_through.false in
    sees.free

pub note_place-requires : goal.note_place-requires
note_place-requires c = λ tag frame.
    let was = lifting-with c.requires.lifting c.args.branch.above c.args.branch.node c.requires.above c.requires.node in
    row-taken c.remove-slot.new.self c.args.page c.remove-slot.result was c.remove-slot.ensures.slot c.remove-slot.ensures.slots tag
    (sym c.slot_in-moved.ensures.frame ∙ frame)

pub returns-clause-lifted : goal.returns-clause-lifted
returns-clause-lifted c =
    let was = lifting-with c.requires.lifting c.args.branch.above c.args.branch.node c.requires.above c.requires.node in
    settled-moved c.remove-slot.new.self c.args.page c.remove-slot.result was c.remove-slot.ensures.slot c.remove-slot.ensures.slots c.side_of-side.result c.side_of-side.ensures c.is_seen_through.result c.is_seen_through.ensures
    c.insert.new.self c.note_place.new.frames c.slot_in-moved.result c.slot_in-moved.ensures c.insert.ensures.slots c.note_place.ensures.taken c.note_place.ensures.frames c.note_place.ensures.links
    c.if-not-is_seen_through.false c.remove-slot.ensures.count c.remove-slot.ensures.spare c.insert.ensures.count c.insert.ensures.spare

pub returns-clause-gone : goal.returns-clause-gone
returns-clause-gone c =
    let was = lifting-with c.requires.lifting c.args.branch.above c.args.branch.node c.requires.above c.requires.node in
    list-moved c.remove-slot.new.self c.args.page c.remove-slot.result was c.remove-slot.ensures.slot c.remove-slot.ensures.slots (slots_of c.insert.new.self) _ _ c.insert.ensures.slots
