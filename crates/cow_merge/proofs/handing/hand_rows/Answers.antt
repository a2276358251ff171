-- Each row of the child is put into the list of its parent; the pages between have gone over as they are.
use Rattle.cow_merge.proofs.Words.{◌≡◌, ◌+◌, false, is_some, has_row, None, Some, refl, sym, ap, subst, ◌∙◌, arith, Rows, Row, slots_of, frame_there, IsHandingOver}
use Rattle.cow_merge.proofs.LiftedLaws.{ahead-less}
use Rattle.cow_merge.proofs.HandLaws.{put-free, put-taken, hand-taken, hand-under, hand-apart, hand-gone, hand-next, over-all}
use Rattle.cow_merge.proofs.handing.hand_rows.Goals as goal

pub loop-page-init : goal.loop-page-init
loop-page-init c = record { handing = (0, omega arith, c.requires, λ p from less. absurd (omega arith)) }

pub clear_page-requires : goal.clear_page-requires
clear_page-requires c =
    let up = c.loop-page.invariant.handing in
    hand-under up.2 up.1 c.node-2.ensures up.3 c.in-Some.ensures.page c.in-Some.ensures.slot c.node.ensures c.take_next.new.self c.in-Some.ensures.slots

pub insert-requires-clause-absent : goal.insert-requires-clause-absent
insert-requires-clause-absent c =
    put-free (slots_of c.take_next.new.self) (slots_of c.clear_page.new.lists) c.node.result.list.0 c.in-Some.page c.clear_page.ensures.slots

pub insert-requires-clause-room : goal.insert-requires-clause-room
insert-requires-clause-room c = omega (arith, c.in-Some.ensures.spare, c.clear_page.ensures.spare)

pub note_place-requires : goal.note_place-requires
note_place-requires c = λ tag frame.
    let up = c.loop-page.invariant.handing in
    put-taken c.loop-page.frames c.clear_page.new.frames (frame_there (slots_of c.take_next.new.self c.node.result.list.0 c.in-Some.page)) tag c.clear_page.ensures.given
    (hand-taken up.2 up.1 c.node-2.ensures up.3 c.in-Some.ensures.page c.in-Some.ensures.slot tag frame)
    (hand-apart up.2 up.1 c.node-2.ensures up.3 c.in-Some.ensures.page c.in-Some.ensures.slot c.node.ensures c.take_next.new.self c.in-Some.ensures.slots tag frame)

-- the row has gone from the child's list
gone : (c : goal.After-note_place) → slots_of c.insert.new.self c.node-2.result.list.0 c.in-Some.page ≡ None
gone c =
    let up = c.loop-page.invariant.handing in
    hand-gone up.2 up.1 c.node-2.ensures up.3 c.in-Some.ensures.page c.in-Some.ensures.slot c.node.ensures c.take_next.new.self c.in-Some.ensures.slots
    c.clear_page.new.lists c.insert.new.self c.clear_page.ensures.slots c.insert.ensures.slots

pub loop-page-smaller : goal.loop-page-smaller
loop-page-smaller c =
    let list = c.node-2.result.list.0 in
    let least = c.in-Some.ensures.page.least c.in-Some.page refl in
    ahead-less (slots_of c.loop-page.lists list) (slots_of c.insert.new.self list) c.loop-page.from c.in-Some.page least.0 c.in-Some.ensures.fits least.1 (gone c)

pub loop-page-preserved : goal.loop-page-preserved
loop-page-preserved c =
    let up = c.loop-page.invariant.handing in
    record {
      handing = (
        c.in-Some.page + 1,
        omega arith,
        hand-next up.2 up.1 c.node-2.ensures up.3 c.in-Some.ensures.page c.in-Some.ensures.slot c.node.ensures c.take_next.new.self c.in-Some.ensures.slots
            c.clear_page.new.lists c.insert.new.self c.clear_page.ensures.slots c.insert.ensures.slots c.clear_page.ensures.given c.note_place.ensures.taken
            c.note_place.ensures.frames c.note_place.ensures.links (omega (arith, c.in-Some.ensures.spare, c.clear_page.ensures.spare, c.insert.ensures.spare))
            (omega (arith, c.in-Some.ensures.count, c.clear_page.ensures.count, c.insert.ensures.count)),
        λ p from less. subst (λ x. has_row (slots_of c.insert.new.self c.node-2.result.list.0) x ≡ false) (omega arith) (ap is_some (gone c)),
      );
    }

pub returns : goal.returns
returns c =
    let up = c.loop-page.invariant.handing in
    over-all c.node-2.result c.node-2.ensures up.0
    (subst (λ (rows : Rows Row). IsHandingOver c.args.arena.now c.args.lists.now rows c.args.frames.now c.loop-page.frames c.args.family.leaf.0 c.args.family.hidden.0 c.args.family.sibling.0 (Some up.0))
    (sym c.in_default.ensures.none) up.2)
    (λ p from.
    ap (λ (rows : Rows Row). slots_of rows c.node-2.result.list.0 p) c.in_default.ensures.none
    ∙ c.in_default.ensures.page.none refl p (let low = up.1 in omega arith))
