use Rattle.std.proofs.Common.{ap, ◌∙◌}
use Rattle.balanced_tree.proofs.Views.{IsTree-roomy, rows-roomy}
use Rattle.balanced_tree.proofs.balanced_tree.BalancedTree.reserve.Goals as goal

pub invariant_of-self : goal.invariant_of-self
invariant_of-self g c =
    let f = g.R.TreeRow.functions in
    let law = g.met.R.TreeRow.lawful in
    let h = c.self.invariant in
    IsTree-roomy f law c.reserve.ensures.slots c.reserve.ensures.holds c.reserve.ensures.fits h

pub returns-clause-rows : goal.returns-clause-rows
returns-clause-rows g c =
    let f = g.R.TreeRow.functions in
    let law = g.met.R.TreeRow.lawful in
    let h = c.self.invariant in
    rows-roomy f law c.self.inside.rows c.reserve.new.self c.self.inside.root c.reserve.ensures.slots h ∙ ap (λ v. v.rows) c.self.view_is
