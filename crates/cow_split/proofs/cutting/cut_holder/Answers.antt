-- A cut goes by the holder of the page: it changes the row of a hidden node alone.
use Rattle.cow_split.proofs.Words.{sym, ◌∙◌, arith, tree_of}
use Rattle.cow_split.proofs.HolderLaws.{held-row, held-way, way-node, own-cut, nothing-cut}
use Rattle.cow_split.proofs.cutting.cut_holder.Goals as goal

pub cut_row-requires-clause-row : goal.cut_row-requires-clause-row
cut_row-requires-clause-row c =
    held-row (tree_of c.args.arena.now c.args.lists.now) c.requires.forest c.args.leaf.0 c.args.page c.in-Above.node c.in-Above.row c.in-Above.side c.in-Above.slot
    (sym c.in-Above.is ∙ c.requires.found)

pub cut_row-requires-clause-leaf : goal.cut_row-requires-clause-leaf
cut_row-requires-clause-leaf c =
    way-node (held-way (tree_of c.args.arena.now c.args.lists.now) c.requires.forest c.args.leaf.0 c.args.page c.in-Above.node c.in-Above.row c.in-Above.side
    c.in-Above.slot (sym c.in-Above.is ∙ c.requires.found))

pub returns-in-Above : goal.returns-in-Above
returns-in-Above c = record {
  cut = c.cut_row.ensures.seen
      (held-way (tree_of c.args.arena.now c.args.lists.now) c.requires.forest c.args.leaf.0 c.args.page c.in-Above.node c.in-Above.row c.in-Above.side c.in-Above.slot
      (sym c.in-Above.is ∙ c.requires.found));
}

pub returns-in-Own : goal.returns-in-Own
returns-in-Own c =
    let after = own-cut (tree_of c.args.arena.now c.args.lists.now) c.args.leaf.0 c.args.page c.in-Own.field-0 (sym c.in-Own.is ∙ c.requires.found) in
    record { cut = record { slots = after.0; answers = after.1; spare = omega arith; count = omega arith } }

pub returns-in-Nothing : goal.returns-in-Nothing
returns-in-Nothing c =
    let after = nothing-cut (tree_of c.args.arena.now c.args.lists.now) c.args.leaf.0 c.args.page (sym c.in-Nothing.is ∙ c.requires.found) in
    record { cut = record { slots = after.0; answers = after.1; spare = omega arith; count = omega arith } }
