-- The own row goes, if it covers a row of the parent.
use Rattle.cow_merge.proofs.Words.{◌≡◌, ◌+◌, None, Some, sym, ap, ◌∙◌, arith, is_some, with_pair, slots_of, without_bits}
use Rattle.cow_merge.proofs.UncoverLaws.{above-stays, uncovered-lists, uncovered-fits, uncovered-none, uncovered-row, uncovered-lost}
use Rattle.cow_merge.proofs.RangeLaws.{lost-same}
use Rattle.cow_merge.proofs.uncovering.uncover_row.Goals as goal

pub node-node-requires : goal.node-node-requires
node-node-requires c = ap is_some c.requires.uncovering.visible.at

pub node-above-requires : goal.node-above-requires
node-above-requires c =
    let was = c.requires.uncovering in
    let below = was.exact.forest.by.below c.args.hidden.0 c.args.leaf.0 was.node was.visible.at was.up in
    ap is_some below.at

pub overflow_add-page_above : goal.overflow_add-page_above
overflow_add-page_above c =
    let fits = uncovered-fits c.requires.uncovering c.node-node.result c.node-above.result c.node-node.ensures c.node-above.ensures in
    let below = c.requires.inside c.node-node.result c.node-node.ensures in
    omega arith

pub returns-in_default-clause-uncovering : goal.returns-in_default-clause-uncovering
returns-in_default-clause-uncovering c =
    uncovered-none c.requires.uncovering c.node-node.result c.node-above.result c.node-node.ensures c.node-above.ensures (sym c.find.ensures ∙ c.in_default.is)

pub returns-in_default-clause-lost : goal.returns-in_default-clause-lost
returns-in_default-clause-lost c = lost-same

pub remove-own-requires : goal.remove-own-requires
remove-own-requires c = c.requires.row c.node-node.result c.node-node.ensures

pub give_back_frame-requires : goal.give_back_frame-requires
give_back_frame-requires c = λ tag frame.
    c.requires.uncovering.exact.used c.node-node.result.list.0 c.args.page c.remove-own.result tag c.remove-own.ensures.slot frame

pub replace-requires : goal.replace-requires
replace-requires c =
    above-stays (slots_of c.args.lists.now) (slots_of c.remove-own.new.self) c.node-node.result.list.0 c.args.page c.node-above.result.list.0
    (c.node-node.result.first + c.args.page) c.in-Some.slot c.remove-own.ensures.slots
    (uncovered-lists c.requires.uncovering c.node-node.result c.node-above.result c.node-node.ensures c.node-above.ensures) (sym c.find.ensures ∙ c.in-Some.is)

now-slots : (c : goal.After-replace) → slots_of c.replace.new.self ≡ with_pair (with_pair (slots_of c.args.lists.now) c.node-node.result.list.0 c.args.page None)
    c.node-above.result.list.0 (c.node-node.result.first + c.args.page) (Some (without_bits c.in-Some.slot))
now-slots c = c.replace.ensures.slots ∙ (λ i.
    with_pair (c.remove-own.ensures.slots i) c.node-above.result.list.0 (c.node-node.result.first + c.args.page) (Some (c.without_bits.ensures i)))

pub returns-clause-uncovering : goal.returns-clause-uncovering
returns-clause-uncovering c =
    uncovered-row c.requires.uncovering c.node-node.result c.node-above.result c.node-node.ensures c.node-above.ensures
    (c.requires.inside c.node-node.result c.node-node.ensures) c.replace.new.self c.give_back_frame.new.frames c.remove-own.result c.in-Some.slot
    c.remove-own.ensures.slot (sym c.find.ensures ∙ c.in-Some.is) (now-slots c) c.give_back_frame.ensures

pub returns-clause-lost : goal.returns-clause-lost
returns-clause-lost c =
    uncovered-lost c.requires.uncovering c.node-node.result c.node-above.result c.node-node.ensures c.node-above.ensures
    (c.requires.inside c.node-node.result c.node-node.ensures) c.replace.new.self c.give_back_frame.new.frames c.remove-own.result c.in-Some.slot
    c.remove-own.ensures.slot (sym c.find.ensures ∙ c.in-Some.is) (now-slots c) c.give_back_frame.ensures (omega arith) (omega arith)
