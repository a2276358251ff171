-- What a cut would answer goes by the holder of the page.
use Rattle.cow_split.proofs.Words.{sym, ap, ◌∙◌, tree_of, leaves_frame}
use Rattle.cow_split.proofs.HolderLaws.{held-row, held-way, above-cut, own-cut, nothing-cut}
use Rattle.cow_split.proofs.cutting.is_last.Goals as goal

pub is_last_from-requires-clause-row : goal.is_last_from-requires-clause-row
is_last_from-requires-clause-row c =
    held-row (tree_of c.args.arena.now c.args.lists.now) c.requires.forest c.args.leaf.0 c.args.page c.in-Above.node c.in-Above.row c.in-Above.side c.in-Above.slot
    (sym c.in-Above.is ∙ c.requires.found)

pub is_last_from-requires-clause-way : goal.is_last_from-requires-clause-way
is_last_from-requires-clause-way c =
    held-way (tree_of c.args.arena.now c.args.lists.now) c.requires.forest c.args.leaf.0 c.args.page c.in-Above.node c.in-Above.row c.in-Above.side c.in-Above.slot
    (sym c.in-Above.is ∙ c.requires.found)

pub returns-in-Above : goal.returns-in-Above
returns-in-Above c = c.is_last_from.ensures ∙ ap leaves_frame (above-cut (tree_of c.args.arena.now c.args.lists.now)
    c.args.leaf.0 c.args.page c.in-Above.node c.in-Above.row c.in-Above.side c.in-Above.slot (sym c.in-Above.is ∙ c.requires.found)).1

pub returns-in-Own : goal.returns-in-Own
returns-in-Own c = ap leaves_frame
    (own-cut (tree_of c.args.arena.now c.args.lists.now) c.args.leaf.0 c.args.page c.in-Own.field-0 (sym c.in-Own.is ∙ c.requires.found)).1

pub returns-in-Nothing : goal.returns-in-Nothing
returns-in-Nothing c = ap leaves_frame
    (nothing-cut (tree_of c.args.arena.now c.args.lists.now) c.args.leaf.0 c.args.page (sym c.in-Nothing.is ∙ c.requires.found)).1
