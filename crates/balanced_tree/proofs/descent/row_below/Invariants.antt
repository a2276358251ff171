use Rattle.balanced_tree.specs.inside.Tree.{row_in}
use Rattle.balanced_tree.specs.inside.Standing.{height_at}
use Rattle.balanced_tree.proofs.DescentLaws.{Descends}
use Rattle.balanced_tree.proofs.descent.row_below.Given as goal

abbrev pub invariant-loop-at : goal.invariant-loop-at
invariant-loop-at g l =
    let f = g.R.TreeRow.functions in
    Descends f l.rows l.fn.at l.at l.initial.steps l.steps (row_in f l.rank) (row_in f l.rank)

abbrev pub decreases-loop-at : goal.decreases-loop-at
decreases-loop-at g l = height_at g.R.TreeRow.functions l.rows l.at
