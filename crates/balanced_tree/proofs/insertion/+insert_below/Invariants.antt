use Rattle.balanced_tree.specs.inside.Standing.{height_at}
use Rattle.balanced_tree.proofs.insertion.+insert_below.Given as goal

abbrev pub decreases-insert_below : goal.decreases-insert_below
decreases-insert_below g l = height_at g.R.TreeRow.functions l.rows.now l.at
