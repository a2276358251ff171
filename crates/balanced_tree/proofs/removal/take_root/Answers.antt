use Rattle.std.proofs.Common.{◌+◌, refl, sym, ap, ◌∙◌}
use Rattle.balanced_tree.specs.inside.Standing.{root_after}
use Rattle.balanced_tree.proofs.PlainLaws.{to_next, to_second}
use Rattle.balanced_tree.proofs.Nodes.{node_of, standing-at, Stands-right}
use Rattle.balanced_tree.proofs.Removals.{take_root-leaf, take_root-node, Splits-root}
use Rattle.balanced_tree.proofs.removal.take_root.Goals as goal

pub returns-in_default-clause-taken : goal.returns-in_default-clause-taken
returns-in_default-clause-taken g c =
    let f = g.R.TreeRow.functions in
    let law = g.met.R.TreeRow.lawful in
    λ tree low high h.
    let n = node_of f law h refl c.look-here.ensures.row in
    take_root-leaf f law n (sym c.right.ensures ∙ c.in_default.is) c.left-left.ensures c.take.ensures.updates c.take.ensures.len (to_second c.args.steps.now c.look-here.ensures.step c.take.ensures.step)

pub take_least-least-requires : goal.take_least-least-requires
take_least-least-requires g c =
    Stands-right g.R.TreeRow.functions g.met.R.TreeRow.lawful c.requires refl c.look-here.ensures.row (sym c.in-Some.is ∙ c.right.ensures)

pub balance-requires : goal.balance-requires
balance-requires g c =
    let f = g.R.TreeRow.functions in
    let law = g.met.R.TreeRow.lawful in
    let n = node_of f law c.requires.standing refl c.look-here.ensures.row in
    let sub = c.take_least-least.ensures.taken n.right (f.rank n.row + 1) c.requires.high (standing-at f (sym c.right.ensures ∙ c.in-Some.is) n.right_standing) in
    Splits-root f law n sub c.left-left.ensures (c.root_after-right.ensures ∙ ap (root_after c.take_least-least.result.rest) (sym c.in-Some.is ∙ c.right.ensures))

pub returns-clause-taken : goal.returns-clause-taken
returns-clause-taken g c =
    let f = g.R.TreeRow.functions in
    let law = g.met.R.TreeRow.lawful in
    λ tree low high h.
    let n = node_of f law h refl c.look-here.ensures.row in
    let sub = c.take_least-least.ensures.taken n.right (f.rank n.row + 1) high (standing-at f (sym c.right.ensures ∙ c.in-Some.is) n.right_standing) in
    take_root-node f law n (sym c.right.ensures ∙ c.in-Some.is) sub c.left-left.ensures (c.root_after-right.ensures ∙ ap (root_after c.take_least-least.result.rest) (sym c.in-Some.is ∙ c.right.ensures)) c.balance.ensures.tree c.balance.ensures.len
    (to_next c.args.steps.now c.look-here.ensures.step) c.balance.ensures.steps
