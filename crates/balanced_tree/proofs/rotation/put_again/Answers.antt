use Rattle.std.proofs.Common.{sym, ◌∙◌, subst}
use Rattle.std.proofs.lemmas.Option.{same_Some}
use Rattle.balanced_tree.specs.inside.Standing.{IsPut}
use Rattle.balanced_tree.proofs.rotation.put_again.Goals as goal

pub returns-clause-put : goal.returns-clause-put
returns-clause-put g c =
    λ had e. subst (λ y. IsPut g.R.TreeRow.functions c.args.rows.now c.put_for.new.rows c.args.place y y c.put_for.result) (same_Some _ _ (sym c.row-row.ensures.row ∙ e)) c.put_for.ensures.put
