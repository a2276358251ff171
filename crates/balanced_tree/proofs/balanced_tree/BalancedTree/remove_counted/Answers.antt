use Rattle.std.proofs.Common.{is_some, ap, sym, ◌∙◌, arith, ℕ, cond}
use Rattle.balanced_tree.proofs.balanced_tree.BalancedTree.remove_counted.Goals as goal

pub unreachable-requires : goal.unreachable-requires
unreachable-requires g c =
    let none = ap is_some (sym c.take_counted.ensures.row ∙ c.in_default.is) in
    let some = c.requires in
    absurd (cc)

pub returns-clause-row : goal.returns-clause-row
returns-clause-row g c = sym c.take_counted.ensures.row ∙ c.in-Some.is

pub returns-clause-spare : goal.returns-clause-spare
returns-clause-spare g c = omega (arith, c.take_counted.ensures.spare, ap {B = ℕ} (λ o. cond (is_some o) 1 0) c.in-Some.is)
