use Rattle.std.proofs.Common.{length, ap, subst, ◌∙◌}
use Rattle.balanced_tree.specs.Rows.{IsRising}
use Rattle.balanced_tree.proofs.Views.{length-rows, rising-rows}
use Rattle.balanced_tree.proofs.balanced_tree.BalancedTree.len.Goals as goal

pub returns-clause-len : goal.returns-clause-len
returns-clause-len g c =
    let f = g.R.TreeRow.functions in
    let law = g.met.R.TreeRow.lawful in
    let h = c.self.invariant in
    c.len.ensures ∙ length-rows f law h ∙ ap (λ v. length v.rows) c.self.view_is

pub returns-clause-rising : goal.returns-clause-rising
returns-clause-rising g c =
    let f = g.R.TreeRow.functions in
    let law = g.met.R.TreeRow.lawful in
    let h = c.self.invariant in
    subst (λ v. IsRising f v.rows) c.self.view_is (rising-rows f law h)
