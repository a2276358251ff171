-- Nothing is seen, or a row of the parent, or a row further up, from which the page is cut off.
use Rattle.cow_merge.proofs.BesideLaws.{page-nothing, page-row, page-only, page-hidden, page-parent, page-other, page-keeps, bare-there}
use Rattle.cow_merge.proofs.witness.cut_page.Goals as goal

pub above_with-found-requires-clause-bare : goal.above_with-found-requires-clause-bare
above_with-found-requires-clause-bare c =
    let has = c.requires.exact in
    bare-there c.args.arena.now c.args.lists.now c.args.window.leaf.0 c.args.own has.node has.visible.at (c.requires.bare has.node has.visible.at)

pub cut_off-requires-clause-row : goal.cut_off-requires-clause-row
cut_off-requires-clause-row c =
    let has = c.requires.exact in
    page-row c.args.own c.args.window.hidden.0 has (c.requires.bare has.node has.visible.at) c.above_with-found.result c.above_with-found.ensures c.in-Above.is

pub cut_off-requires-clause-hidden : goal.cut_off-requires-clause-hidden
cut_off-requires-clause-hidden c =
    let has = c.requires.exact in
    page-hidden c.args.own c.args.window.hidden.0 has (c.requires.bare has.node has.visible.at) c.above_with-found.result c.above_with-found.ensures c.in-Above.is

pub cut_off-requires-clause-only : goal.cut_off-requires-clause-only
cut_off-requires-clause-only c =
    let has = c.requires.exact in
    page-only c.args.own c.args.window.hidden.0 has (c.requires.bare has.node has.visible.at) c.above_with-found.result c.above_with-found.ensures c.in-Above.is

pub returns-then-node-window-clause-cut : goal.returns-then-node-window-clause-cut
returns-then-node-window-clause-cut c = λ out exact _.
    let has = c.requires.exact in
    page-parent c.args.own c.args.window.hidden.0 has (c.requires.bare has.node has.visible.at) c.above_with-found.result c.above_with-found.ensures c.in-Above.is c.if-node-window.true out exact

pub returns-else-node-window-clause-cut : goal.returns-else-node-window-clause-cut
returns-else-node-window-clause-cut c = λ out exact only.
    let has = c.requires.exact in
    page-other c.args.own c.args.window.hidden.0 has (c.requires.bare has.node has.visible.at) c.above_with-found.result c.above_with-found.ensures c.in-Above.is
    c.cut_off.new.lists c.cut_off.new.frames out (c.cut_off.ensures.passed out exact only)

pub returns-else-node-window-clause-kept : goal.returns-else-node-window-clause-kept
returns-else-node-window-clause-kept c =
    let has = c.requires.exact in
    page-keeps c.args.own c.args.window.hidden.0 has (c.requires.bare has.node has.visible.at) c.above_with-found.result c.above_with-found.ensures c.in-Above.is
    c.cut_off.new.lists c.if-node-window.false c.cut_off.ensures.others

pub returns-in_default-clause-cut : goal.returns-in_default-clause-cut
returns-in_default-clause-cut c = λ out exact _.
    let has = c.requires.exact in
    page-nothing c.args.own c.args.window.hidden.0 has (c.requires.bare has.node has.visible.at) c.above_with-found.result c.above_with-found.ensures c.in_default.not-Above out exact
