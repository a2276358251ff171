use Rattle.std.proofs.Common.{◌-◌, ◌+◌, ◌^◌, ◌≤◌, length, IsSome, ap, subst, sym, ◌∙◌, arith}
use Rattle.balanced_tree.specs.Row.{plain}
use Rattle.balanced_tree.specs.Rows.{row_at, with_row, without_rank, AreAllBeside}
use Rattle.balanced_tree.proofs.Views.{IsTree-moved, rows-IsTree_moved, beside-IsTree, change_cost-IsTree, there}
use Rattle.balanced_tree.proofs.balanced_tree.BalancedTree.replace_at_counted.Goals as goal

pub move_below-requires : goal.move_below-requires
move_below-requires g c =
    let f = g.R.TreeRow.functions in
    let law = g.met.R.TreeRow.lawful in
    let h = c.self.invariant in
    record {
      tree = h.tree;
      low = 0;
      high = 2 ^ 128;
      standing = h.standing;
      beside = beside-IsTree f law c.args.rank (f.rank c.args.row) h (subst (λ v. AreAllBeside f c.args.rank (f.rank c.args.row) v.rows) (sym c.self.view_is) c.requires.beside);
      from_low = omega arith;
      below_high = omega (arith, c.rank-rank.ensures, c.rank-rank.type_inv);
    }

pub invariant_of-self : goal.invariant_of-self
invariant_of-self g c =
    let f = g.R.TreeRow.functions in
    let law = g.met.R.TreeRow.lawful in
    let h = c.self.invariant in
    let beside = beside-IsTree f law c.args.rank (f.rank c.args.row) h (subst (λ v. AreAllBeside f c.args.rank (f.rank c.args.row) v.rows) (sym c.self.view_is) c.requires.beside) in
    let made = c.move_below.ensures.moved h.tree 0 (2 ^ 128) h.standing beside (omega arith) (omega (arith, c.rank-rank.ensures, c.rank-rank.type_inv)) in
    IsTree-moved f law c.args.rank c.args.row h made c.move_below.ensures.capacity

pub returns-clause-rows : goal.returns-clause-rows
returns-clause-rows g c =
    let f = g.R.TreeRow.functions in
    let law = g.met.R.TreeRow.lawful in
    let h = c.self.invariant in
    let beside = beside-IsTree f law c.args.rank (f.rank c.args.row) h (subst (λ v. AreAllBeside f c.args.rank (f.rank c.args.row) v.rows) (sym c.self.view_is) c.requires.beside) in
    let made = c.move_below.ensures.moved h.tree 0 (2 ^ 128) h.standing beside (omega arith) (omega (arith, c.rank-rank.ensures, c.rank-rank.type_inv)) in
    let present = there f law c.args.rank h (subst (λ v. IsSome (row_at f c.args.rank v.rows)) (sym c.self.view_is) c.requires.there) in
    rows-IsTree_moved f law c.args.rank c.args.row h made beside (omega (arith, c.rank-rank.ensures, c.rank-rank.type_inv)) present
    ∙ ap (λ v. with_row f (plain f c.args.row) (without_rank f c.args.rank v.rows)) c.self.view_is

pub returns-clause-spare : goal.returns-clause-spare
returns-clause-spare g c =
    let f = g.R.TreeRow.functions in
    let law = g.met.R.TreeRow.lawful in
    let h = c.self.invariant in
    let beside = beside-IsTree f law c.args.rank (f.rank c.args.row) h (subst (λ v. AreAllBeside f c.args.rank (f.rank c.args.row) v.rows) (sym c.self.view_is) c.requires.beside) in
    let made = c.move_below.ensures.moved h.tree 0 (2 ^ 128) h.standing beside (omega arith) (omega (arith, c.rank-rank.ensures, c.rank-rank.type_inv)) in
    let spare = ap (λ v. v.spare) c.self.view_is in
    omega (arith, made.len, c.move_below.ensures.capacity)

pub returns-clause-cost : goal.returns-clause-cost
returns-clause-cost g c =
    let f = g.R.TreeRow.functions in
    let law = g.met.R.TreeRow.lawful in
    let h = c.self.invariant in
    let beside = beside-IsTree f law c.args.rank (f.rank c.args.row) h (subst (λ v. AreAllBeside f c.args.rank (f.rank c.args.row) v.rows) (sym c.self.view_is) c.requires.beside) in
    let made = c.move_below.ensures.moved h.tree 0 (2 ^ 128) h.standing beside (omega arith) (omega (arith, c.rank-rank.ensures, c.rank-rank.type_inv)) in
    subst (λ v. 2 ^ (c.move_below.new.steps - c.args.steps.now) ≤ (length v.rows + 2) ^ 32) c.self.view_is (change_cost-IsTree f law _ _ h (omega (arith, made.steps)))
