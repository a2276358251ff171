use Rattle.std.proofs.Common.{arith, ◌+◌, ◌-◌, ◌^◌, ◌≤◌, length, ap, subst, ◌∙◌}
use Rattle.balanced_tree.specs.Rows.{row_at}
use Rattle.balanced_tree.proofs.Views.{row_in-IsTree, look_cost-IsTree}
use Rattle.balanced_tree.proofs.balanced_tree.BalancedTree.find_counted.Goals as goal

pub returns-clause-row : goal.returns-clause-row
returns-clause-row g c =
    let f = g.R.TreeRow.functions in
    let law = g.met.R.TreeRow.lawful in
    let h = c.self.invariant in
    c.alone.ensures ∙ c.row_below.ensures.row h.tree 0 (2 ^ 128) h.standing ∙ row_in-IsTree f law c.args.rank h ∙ ap (λ v. row_at f c.args.rank v.rows) c.self.view_is

pub returns-clause-cost : goal.returns-clause-cost
returns-clause-cost g c =
    let f = g.R.TreeRow.functions in
    let law = g.met.R.TreeRow.lawful in
    let h = c.self.invariant in
    let steps = c.row_below.ensures.steps h.tree 0 (2 ^ 128) h.standing in
    subst (λ v. 2 ^ (c.row_below.new.steps - c.args.steps.now) ≤ (length v.rows + 1) ^ 2) c.self.view_is
    (look_cost-IsTree f law 1 _ _ h (omega (arith, steps)))
