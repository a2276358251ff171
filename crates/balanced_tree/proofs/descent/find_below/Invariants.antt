use Rattle.std.specs.Prelude.{None, option_copied}
use Rattle.std.specs.Option.{option_map}
use Rattle.balanced_tree.specs.Row.{plain}
use Rattle.balanced_tree.specs.inside.Tree.{found}
use Rattle.balanced_tree.specs.inside.Standing.{height_at}
use Rattle.balanced_tree.proofs.DescentLaws.{Descends}
use Rattle.balanced_tree.proofs.descent.find_below.Given as goal

abbrev pub invariant-loop-at : goal.invariant-loop-at
invariant-loop-at g l =
    let f = g.R.TreeRow.functions in
    Descends f l.rows l.fn.at l.at l.initial.steps l.steps (found f l.down l.rank (option_map (plain f) (option_copied l.best))) (found f l.down l.rank None)

abbrev pub decreases-loop-at : goal.decreases-loop-at
decreases-loop-at g l = height_at g.R.TreeRow.functions l.rows l.at
