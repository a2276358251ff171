use Rattle.std.proofs.Common.{Some}
use Rattle.balanced_tree.specs.inside.Standing.{height_at}
use Rattle.balanced_tree.proofs.removal.+take_least.Given as goal

abbrev pub decreases-take_least : goal.decreases-take_least
decreases-take_least g l = height_at g.R.TreeRow.functions l.rows.now (Some l.place)
