use Rattle.cow_forest.proofs.Words.{sym, ◌∙◌, tree_of}
use Rattle.cow_fork.proofs.LeafLaws.{leaf-is}
use Rattle.cow_fork.proofs.HolderLaws.{held-shown, own-row}
use Rattle.cow_forest.proofs.ViewingLaws.{held-hidden, held-frame, count-own}
use Rattle.cow_forest.proofs.viewing.viewer_count_of.Goals as goal

pub viewers_of-requires-clause-hidden : goal.viewers_of-requires-clause-hidden
viewers_of-requires-clause-hidden c = held-hidden (tree_of c.args.arena.now c.args.lists.now) c.requires.exact c.args.leaf.0 c.args.page c.in-Above.node
    c.in-Above.page c.in-Above.side c.in-Above.slot (sym c.in-Above.is ∙ c.holder.ensures)

pub returns-in-Above : goal.returns-in-Above
returns-in-Above c = λ tag shown. c.viewers_of.ensures tag
    (held-frame (tree_of c.args.arena.now c.args.lists.now) c.requires.exact c.args.leaf.0 c.args.page c.in-Above.node c.in-Above.page c.in-Above.side
    c.in-Above.slot (sym c.in-Above.is ∙ c.holder.ensures) tag shown)

pub returns-in-Own : goal.returns-in-Own
returns-in-Own c = λ tag shown.
    let held = sym c.in-Own.is ∙ c.holder.ensures in
    let page = c.requires.page in
    let own = own-row (leaf-is c.args.arena.now c.args.lists.now c.args.leaf.0 c.args.page page.node c.requires.exact.1.forest page page.visible.at)
    c.in-Own.field-0 held in
    count-own (tree_of c.args.arena.now c.args.lists.now) c.requires.exact c.args.leaf.0 c.args.page tag
    (record {
      slot = c.in-Own.field-0;
      row = record { node = page.node; at = page.visible.at; row = own };
      frame = held-shown (tree_of c.args.arena.now c.args.lists.now) c.args.leaf.0 c.args.page _ held ∙ shown;
    }) page.visible
