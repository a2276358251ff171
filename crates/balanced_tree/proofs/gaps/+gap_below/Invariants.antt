use Rattle.balanced_tree.specs.inside.Standing.{height_at}
use Rattle.balanced_tree.proofs.gaps.+gap_below.Given as goal

abbrev pub decreases-gap_below : goal.decreases-gap_below
decreases-gap_below g l = height_at g.R.TreeRow.functions l.rows.now l.at
