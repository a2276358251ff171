use Rattle.cow_split.proofs.Words.{sym, ◌∙◌, tree_of}
use Rattle.cow_split.proofs.SearchLaws.{leaf-alone}
use Rattle.cow_split.proofs.others.reached_by_others.Goals as goal

pub returns-then-is_child_on : goal.returns-then-is_child_on
returns-then-is_child_on c = record {
  others = λ e. absurd (cc);
  nobody = λ e.
      leaf-alone (tree_of c.args.arena.now c.args.lists.now) c.requires.forest c.args.leaf.0 c.args.row.node.0 c.args.row.page c.args.row.side
      (c.is_child_on.ensures c.if-is_child_on.true);
}

pub returns-then-reached_beside : goal.returns-then-reached_beside
returns-then-reached_beside c = record {
  others = λ e way. c.reached_beside.ensures c.if-reached_beside.true c.args.row.side c.args.row.page way;
  nobody = λ e. absurd (cc);
}

pub returns : goal.returns
returns c = record { others = λ e way. sym c.reached_from.ensures ∙ e; nobody = λ e. sym c.reached_from.ensures ∙ e }
