use Rattle.std.proofs.Common.{ℕ, ◌+◌, ◌-◌, ◌^◌, ◌≤◌, cond, length, ap, subst, sym, ◌∙◌, arith}
use Rattle.balanced_tree.specs.Rows.{row_at, without_rank}
use Rattle.balanced_tree.proofs.Views.{IsTree-removed, rows-IsTree_removed, change_cost-IsTree, row_at-removed, there-removed}
use Rattle.balanced_tree.proofs.balanced_tree.BalancedTree.take_counted.Goals as goal

pub invariant_of-self : goal.invariant_of-self
invariant_of-self g c =
    let f = g.R.TreeRow.functions in
    let law = g.met.R.TreeRow.lawful in
    let h = c.self.invariant in
    let made = c.remove_below-change.ensures.removed h.tree 0 (2 ^ 128) h.standing in
    IsTree-removed f law c.args.rank h made c.root_after-self-inside.ensures c.remove_below-change.ensures.capacity

pub returns-clause-row : goal.returns-clause-row
returns-clause-row g c =
    let f = g.R.TreeRow.functions in
    let law = g.met.R.TreeRow.lawful in
    let h = c.self.invariant in
    let made = c.remove_below-change.ensures.removed h.tree 0 (2 ^ 128) h.standing in
    sym (ap (λ v. row_at f c.args.rank v.rows) (sym c.self.view_is) ∙ row_at-removed f law c.args.rank h made c.root_after-self-inside.ensures)

pub returns-clause-rows : goal.returns-clause-rows
returns-clause-rows g c =
    let f = g.R.TreeRow.functions in
    let law = g.met.R.TreeRow.lawful in
    let h = c.self.invariant in
    let made = c.remove_below-change.ensures.removed h.tree 0 (2 ^ 128) h.standing in
    rows-IsTree_removed f law c.args.rank h made c.root_after-self-inside.ensures ∙ ap (λ v. without_rank f c.args.rank v.rows) c.self.view_is

pub returns-clause-spare : goal.returns-clause-spare
returns-clause-spare g c =
    let f = g.R.TreeRow.functions in
    let law = g.met.R.TreeRow.lawful in
    let h = c.self.invariant in
    let made = c.remove_below-change.ensures.removed h.tree 0 (2 ^ 128) h.standing in
    let spare = ap (λ v. v.spare) c.self.view_is in
    omega (arith, made.len, h.holds, ap {B = ℕ} (λ b. cond b 1 0) (there-removed f law c.args.rank h made c.root_after-self-inside.ensures), c.remove_below-change.ensures.capacity)

pub returns-clause-cost : goal.returns-clause-cost
returns-clause-cost g c =
    let f = g.R.TreeRow.functions in
    let law = g.met.R.TreeRow.lawful in
    let h = c.self.invariant in
    let made = c.remove_below-change.ensures.removed h.tree 0 (2 ^ 128) h.standing in
    subst (λ v. 2 ^ (c.remove_below-change.new.steps - c.args.steps.now) ≤ (length v.rows + 2) ^ 32) c.self.view_is (change_cost-IsTree f law _ _ h (omega (arith, made.steps)))
