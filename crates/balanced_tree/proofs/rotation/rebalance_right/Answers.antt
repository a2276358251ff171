use Rattle.std.proofs.Common.{sym, ap, ◌∙◌}
use Rattle.std.proofs.lemmas.Option.{same_Some}
use Rattle.balanced_tree.proofs.rotation.rebalance_right.Goals as goal

pub returns-clause-tree : goal.returns-clause-tree
returns-clause-tree g c =
    let f = g.R.TreeRow.functions in
    λ row e l x r low high split same left_is right_is.
    let is = same_Some _ _ (sym e ∙ c.look.ensures.row) in
    c.rebalance.ensures.tree row e l x r low high split same (left_is ∙ ap f.left is ∙ sym c.left-left.ensures) right_is
