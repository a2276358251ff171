use Rattle.std.proofs.Common.{IsSome, sym, ap, subst, ◌∙◌}
use Rattle.balanced_tree.specs.Row.{plain}
use Rattle.balanced_tree.specs.Rows.{row_at, with_row, without_rank, AreAllBeside}
use Rattle.balanced_tree.proofs.RowLaws.{beside-itself, with_row-again}
use Rattle.balanced_tree.proofs.balanced_tree.BalancedTree.replace_counted.Goals as goal

pub replace_at_counted-requires-clause-there : goal.replace_at_counted-requires-clause-there
replace_at_counted-requires-clause-there g c =
    let f = g.R.TreeRow.functions in
    subst (λ n. IsSome (row_at f n c.args.self.now.rows)) (sym c.rank-rank.ensures) c.requires

pub replace_at_counted-requires-clause-beside : goal.replace_at_counted-requires-clause-beside
replace_at_counted-requires-clause-beside g c =
    let f = g.R.TreeRow.functions in
    subst (λ n. AreAllBeside f n (f.rank c.args.row) c.args.self.now.rows) (sym c.rank-rank.ensures) (beside-itself f g.met.R.TreeRow.lawful (f.rank c.args.row) c.args.self.now.rows)

pub returns-clause-rows : goal.returns-clause-rows
returns-clause-rows g c =
    let f = g.R.TreeRow.functions in
    c.replace_at_counted.ensures.rows
    ∙ (ap (λ n. with_row f (plain f c.args.row) (without_rank f n c.args.self.now.rows)) c.rank-rank.ensures
    ∙ with_row-again f g.met.R.TreeRow.lawful c.args.row c.args.self.now.rows)
