use Rattle.std.proofs.Common.{refl, sym, ap, ◌∙◌, arith}
use Rattle.balanced_tree.specs.inside.Standing.{root_after}
use Rattle.balanced_tree.proofs.PlainLaws.{to_next, to_second}
use Rattle.balanced_tree.proofs.Nodes.{node_of, standing-at, lower-left, stays_left, Stands-left}
use Rattle.balanced_tree.proofs.Removals.{take-first, take-later, take-later_hidden, Splits-least}
use Rattle.balanced_tree.proofs.removal.+take_least.Goals as goal

pub returns-in_default-clause-taken : goal.returns-in_default-clause-taken
returns-in_default-clause-taken g t c =
    let f = g.R.TreeRow.functions in
    let law = g.met.R.TreeRow.lawful in
    λ tree low high h.
    let n = node_of f law h refl c.look-here.ensures.row in
    rw c.change_to.ensures (take-first f law n (sym c.left.ensures ∙ c.in_default.is) c.right-rest.ensures c.take-row.ensures.row c.take-row.ensures.updates c.take-row.ensures.len (to_second c.args.steps.now c.look-here.ensures.step c.take-row.ensures.step))

pub take_least-least-requires : goal.take_least-least-requires
take_least-least-requires g t c κs within =
    let f = g.R.TreeRow.functions in
    let law = g.met.R.TreeRow.lawful in
    let is = sym c.in-Some.is ∙ c.left.ensures in
    let less = lower-left f law c.requires.standing refl c.look-here.ensures.row is in
    (omega (arith, less), (within.0, (within.1, Stands-left f law c.requires refl c.look-here.ensures.row is)))

pub rebalance_left-rest-requires : goal.rebalance_left-rest-requires
rebalance_left-rest-requires g t c =
    let f = g.R.TreeRow.functions in
    let law = g.met.R.TreeRow.lawful in
    let n = node_of f law c.requires.standing refl c.look-here.ensures.row in
    let sub = c.take_least-least.ensures.taken n.left c.requires.low (f.rank n.row) (standing-at f (sym c.left.ensures ∙ c.in-Some.is) n.left_standing) in
    let at = stays_left f n sub.kept in
    (_, at, Splits-least f law n sub (c.root_after-left.ensures ∙ ap (root_after c.take_least-least.result.rest) (sym c.in-Some.is ∙ c.left.ensures)) at refl)

pub returns-in_default-rest-clause-taken : goal.returns-in_default-rest-clause-taken
returns-in_default-rest-clause-taken g t c =
    let f = g.R.TreeRow.functions in
    let law = g.met.R.TreeRow.lawful in
    λ tree low high h.
    let n = node_of f law h refl c.look-here.ensures.row in
    let sub = c.take_least-least.ensures.taken n.left low (f.rank n.row) (standing-at f (sym c.left.ensures ∙ c.in-Some.is) n.left_standing) in
    let at = stays_left f n sub.kept in
    take-later f law n (sym c.left.ensures ∙ c.in-Some.is) sub (c.root_after-left.ensures ∙ ap (root_after c.take_least-least.result.rest) (sym c.in-Some.is ∙ c.left.ensures)) at refl (c.rebalance_left-rest.ensures.tree _ at) c.rebalance_left-rest.ensures.len
    (to_next c.args.steps.now c.look-here.ensures.step) c.rebalance_left-rest.ensures.steps

pub returns-in-Hidden-clause-taken : goal.returns-in-Hidden-clause-taken
returns-in-Hidden-clause-taken g t c =
    let f = g.R.TreeRow.functions in
    let law = g.met.R.TreeRow.lawful in
    λ tree low high h.
    let n = node_of f law h refl c.look-here.ensures.row in
    let sub = c.take_least-least.ensures.taken n.left low (f.rank n.row) (standing-at f (sym c.left.ensures ∙ c.in-Some.is) n.left_standing) in
    take-later_hidden f law n (sym c.left.ensures ∙ c.in-Some.is) sub c.in-Hidden.is (to_next c.args.steps.now c.look-here.ensures.step)
