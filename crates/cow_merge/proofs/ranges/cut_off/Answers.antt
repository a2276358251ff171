-- A frame that a cut takes the last row of is taken, and the page is left out then, or nothing has changed.
use Rattle.cow_merge.proofs.Words.{sym, ◌∙◌}
use Rattle.cow_merge.proofs.PassedLaws.{split-passed, row-taken, row-passed}
use Rattle.cow_merge.proofs.ranges.cut_off.Goals as goal

pub returns-then-is_split-clause-passed : goal.returns-then-is_split-clause-passed
returns-then-is_split-clause-passed c = λ out exact _.
    split-passed c.args.arena.now c.args.lists.now c.args.frames.now c.args.leaf.0 c.args.own c.args.row.side c.args.row.node.0 c.args.row.page c.args.row.slot
    c.requires.exact c.requires.row c.requires.hidden c.requires.only (sym c.is_split.ensures ∙ c.if-is_split.true) out exact

pub give_back_last-requires : goal.give_back_last-requires
give_back_last-requires c = λ tag is.
    let has = c.requires.exact in
    row-taken has (c.requires.bare has.node has.visible.at) c.requires.row c.requires.hidden c.requires.only
    c.cut_row-answer.ensures.seen (c.cut_row-answer.ensures.unseen has.out _ has.exact) tag is

pub returns-clause-passed : goal.returns-clause-passed
returns-clause-passed c =
    let has = c.requires.exact in
    row-passed has (c.requires.bare has.node has.visible.at) c.requires.row c.requires.hidden c.requires.only
    c.cut_row-answer.ensures.seen (c.cut_row-answer.ensures.unseen has.out _ has.exact) c.give_back_last.new.frames c.give_back_last.ensures
    c.cut_row-answer.ensures.spare c.cut_row-answer.ensures.count

pub returns-clause-others : goal.returns-clause-others
returns-clause-others c = λ above at l apart i q. c.cut_row-answer.ensures.others above at l apart q i
