use Rattle.balanced_tree.specs.inside.Standing.{height_at}
use Rattle.balanced_tree.proofs.moving.+move_below.Given as goal

abbrev pub decreases-move_below : goal.decreases-move_below
decreases-move_below g l = height_at g.R.TreeRow.functions l.rows.now l.at
