use Rattle.std.proofs.Common.{◌+◌, ◌-◌, ◌^◌, ◌≤◌, length, ap, subst, sym, ◌∙◌}
use Rattle.balanced_tree.proofs.Views.{rows_in-standing, look_cost-IsTree}
use Rattle.balanced_tree.proofs.balanced_tree.BalancedTree.first_gap_counted.Goals as goal

pub returns-clause-gap : goal.returns-clause-gap
returns-clause-gap g c =
    let f = g.R.TreeRow.functions in
    let e = g.R.ExtentRow.extents in
    let law = g.met.R.TreeRow.lawful in
    let h = c.self.invariant in
    let rows = sym (rows_in-standing f law h.standing) ∙ ap (λ v. v.rows) c.self.view_is in
    let done = c.gap_below.ensures h.tree 0 (2 ^ 128) 0 (2 ^ 128) h.standing (rw rows c.requires) in
    rw (← rows) done.gap

pub returns-clause-cost : goal.returns-clause-cost
returns-clause-cost g c =
    let f = g.R.TreeRow.functions in
    let e = g.R.ExtentRow.extents in
    let law = g.met.R.TreeRow.lawful in
    let h = c.self.invariant in
    let rows = sym (rows_in-standing f law h.standing) ∙ ap (λ v. v.rows) c.self.view_is in
    let done = c.gap_below.ensures h.tree 0 (2 ^ 128) 0 (2 ^ 128) h.standing (rw rows c.requires) in
    subst (λ v. 2 ^ (c.gap_below.new.steps - c.args.steps.now) ≤ (length v.rows + 1) ^ 8) c.self.view_is
    (look_cost-IsTree f law 4 _ _ h done.steps)
