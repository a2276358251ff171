use Rattle.std.proofs.Common.{ℕ, ◌+◌, ◌-◌, ◌^◌, ◌≤◌, cond, length, IsNone, ap, subst, sym, ◌∙◌, arith}
use Rattle.balanced_tree.specs.Row.{plain}
use Rattle.balanced_tree.specs.Rows.{row_at, with_row}
use Rattle.balanced_tree.proofs.Views.{IsTree-inserted, rows-IsTree_inserted, change_cost-IsTree, not_there}
use Rattle.balanced_tree.proofs.balanced_tree.BalancedTree.insert_counted.Goals as goal

pub insert_below-change-requires : goal.insert_below-change-requires
insert_below-change-requires g c =
    let f = g.R.TreeRow.functions in
    let law = g.met.R.TreeRow.lawful in
    let h = c.self.invariant in
    let spare = ap (λ v. v.spare) c.self.view_is in
    record {
      tree = h.tree;
      low = 0;
      high = 2 ^ 128;
      standing = h.standing;
      from_low = omega arith;
      below_high = omega (arith, c.rank-rank.ensures, c.rank-rank.type_inv);
      absent = not_there f law (f.rank c.args.row) h (subst (λ v. IsNone (row_at f (f.rank c.args.row) v.rows)) (sym c.self.view_is) c.requires.absent);
      room = omega (arith, spare, c.requires.room);
    }

pub invariant_of-self : goal.invariant_of-self
invariant_of-self g c =
    let f = g.R.TreeRow.functions in
    let law = g.met.R.TreeRow.lawful in
    let h = c.self.invariant in
    let made = c.insert_below-change.ensures.inserted h.tree 0 (2 ^ 128) h.standing (omega arith) (omega (arith, c.rank-rank.ensures, c.rank-rank.type_inv)) in
    let absent = not_there f law (f.rank c.args.row) h (subst (λ v. IsNone (row_at f (f.rank c.args.row) v.rows)) (sym c.self.view_is) c.requires.absent) in
    let spare = ap (λ v. v.spare) c.self.view_is in
    let room = c.requires.room in
    IsTree-inserted f law c.args.row h made c.root_after-self-inside.ensures c.insert_below-change.ensures.capacity (omega (arith, made.len, ap {B = ℕ} (λ b. cond b 0 1) absent))

pub returns-clause-rows : goal.returns-clause-rows
returns-clause-rows g c =
    let f = g.R.TreeRow.functions in
    let law = g.met.R.TreeRow.lawful in
    let h = c.self.invariant in
    let made = c.insert_below-change.ensures.inserted h.tree 0 (2 ^ 128) h.standing (omega arith) (omega (arith, c.rank-rank.ensures, c.rank-rank.type_inv)) in
    rows-IsTree_inserted f law c.args.row h made c.root_after-self-inside.ensures ∙ ap (λ v. with_row f (plain f c.args.row) v.rows) c.self.view_is

pub returns-clause-spare : goal.returns-clause-spare
returns-clause-spare g c =
    let f = g.R.TreeRow.functions in
    let law = g.met.R.TreeRow.lawful in
    let h = c.self.invariant in
    let made = c.insert_below-change.ensures.inserted h.tree 0 (2 ^ 128) h.standing (omega arith) (omega (arith, c.rank-rank.ensures, c.rank-rank.type_inv)) in
    let absent = not_there f law (f.rank c.args.row) h (subst (λ v. IsNone (row_at f (f.rank c.args.row) v.rows)) (sym c.self.view_is) c.requires.absent) in
    let spare = ap (λ v. v.spare) c.self.view_is in
    let room = c.requires.room in
    omega (arith, made.len, ap {B = ℕ} (λ b. cond b 0 1) absent, c.insert_below-change.ensures.capacity)

pub returns-clause-cost : goal.returns-clause-cost
returns-clause-cost g c =
    let f = g.R.TreeRow.functions in
    let law = g.met.R.TreeRow.lawful in
    let h = c.self.invariant in
    let made = c.insert_below-change.ensures.inserted h.tree 0 (2 ^ 128) h.standing (omega arith) (omega (arith, c.rank-rank.ensures, c.rank-rank.type_inv)) in
    subst (λ v. 2 ^ (c.insert_below-change.new.steps - c.args.steps.now) ≤ (length v.rows + 2) ^ 32) c.self.view_is (change_cost-IsTree f law _ _ h (omega (arith, made.steps)))
