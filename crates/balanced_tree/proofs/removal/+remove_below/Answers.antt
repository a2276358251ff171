use Rattle.std.proofs.Common.{◌+◌, Some, refl, sym, ap, ◌∙◌, arith}
use Rattle.balanced_tree.specs.inside.Standing.{root_after}
use Rattle.balanced_tree.proofs.PlainLaws.{less_of, most_of, to_next}
use Rattle.balanced_tree.proofs.Nodes.{node_of, standing-at, lower-left, lower-right, stays_left, stays_right, Stands-left, Stands-right, Splits-left, Splits-right}
use Rattle.balanced_tree.proofs.Hiding.{rooted-link}
use Rattle.balanced_tree.proofs.Removals.{remove-left, remove-right, remove-left_hidden, remove-right_hidden, remove-here, remove-leaf}
use Rattle.balanced_tree.proofs.removal.+remove_below.Goals as goal

pub returns-in_default-clause-removed : goal.returns-in_default-clause-removed
returns-in_default-clause-removed g t c =
    let f = g.R.TreeRow.functions in
    λ tree low high h.
    remove-leaf f tree (standing-at f c.in_default.is h)

pub remove_below-change-requires : goal.remove_below-change-requires
remove_below-change-requires g t c κs within =
    let f = g.R.TreeRow.functions in
    let law = g.met.R.TreeRow.lawful in
    let less = lower-left f law c.requires.standing c.in-Some.is c.look-here.ensures.row c.left-below.ensures in
    (omega (arith, less), (within.0, (within.1, Stands-left f law c.requires c.in-Some.is c.look-here.ensures.row c.left-below.ensures)))

pub remove_below-change-requires-then-there-rank : goal.remove_below-change-requires-then-there-rank
remove_below-change-requires-then-there-rank g t c κs within =
    let f = g.R.TreeRow.functions in
    let law = g.met.R.TreeRow.lawful in
    let less = lower-right f law c.requires.standing c.in-Some.is c.look-here.ensures.row c.right-below.ensures in
    (omega (arith, less), (within.0, (within.1, Stands-right f law c.requires c.in-Some.is c.look-here.ensures.row c.right-below.ensures)))

pub rebalance_left-requires : goal.rebalance_left-requires
rebalance_left-requires g t c =
    let f = g.R.TreeRow.functions in
    let law = g.met.R.TreeRow.lawful in
    let n = node_of f law c.requires.standing c.in-Some.is c.look-here.ensures.row in
    let sub = c.remove_below-change.ensures.removed n.left c.requires.low (f.rank n.row) (standing-at f (sym c.left-below.ensures) n.left_standing) in
    let at = stays_left f n sub.becomes.kept in
    (_, at, Splits-left f law n sub.becomes at (rooted-link f n.left sub.rooted n.left_standing.is_at ∙ sym (c.root_after-left.ensures ∙ ap (root_after c.remove_below-change.result) c.left-below.ensures)) refl)

pub rebalance_right-requires : goal.rebalance_right-requires
rebalance_right-requires g t c =
    let f = g.R.TreeRow.functions in
    let law = g.met.R.TreeRow.lawful in
    let n = node_of f law c.requires.standing c.in-Some.is c.look-here.ensures.row in
    let sub = c.remove_below-change-then-there-rank.ensures.removed n.right (f.rank n.row + 1) c.requires.high (standing-at f (sym c.right-below.ensures) n.right_standing) in
    let at = stays_right f n sub.becomes.kept in
    (_, at, Splits-right f law n sub.becomes at refl (rooted-link f n.right sub.rooted n.right_standing.is_at ∙ sym (c.root_after-right.ensures ∙ ap (root_after c.remove_below-change-then-there-rank.result) c.right-below.ensures)))

pub returns-in_default-change-clause-removed : goal.returns-in_default-change-clause-removed
returns-in_default-change-clause-removed g t c =
    let f = g.R.TreeRow.functions in
    let law = g.met.R.TreeRow.lawful in
    λ tree low high h.
    let n = node_of f law h c.in-Some.is c.look-here.ensures.row in
    let sub = c.remove_below-change.ensures.removed n.left low (f.rank n.row) (standing-at f (sym c.left-below.ensures) n.left_standing) in
    let at = stays_left f n sub.becomes.kept in
    remove-left f law n (less_of refl c.rank-there.ensures c.if-rank-there.true) sub (c.root_after-left.ensures ∙ ap (root_after c.remove_below-change.result) c.left-below.ensures) at refl (c.rebalance_left.ensures.tree _ at) c.rebalance_left.ensures.len
    (to_next c.args.steps.now c.look-here.ensures.step) c.rebalance_left.ensures.steps

pub returns-in_default-change-2-clause-removed : goal.returns-in_default-change-2-clause-removed
returns-in_default-change-2-clause-removed g t c =
    let f = g.R.TreeRow.functions in
    let law = g.met.R.TreeRow.lawful in
    λ tree low high h.
    let n = node_of f law h c.in-Some.is c.look-here.ensures.row in
    let sub = c.remove_below-change-then-there-rank.ensures.removed n.right (f.rank n.row + 1) high (standing-at f (sym c.right-below.ensures) n.right_standing) in
    let at = stays_right f n sub.becomes.kept in
    remove-right f law n (less_of c.rank-there.ensures refl c.if-there-rank.true) sub (c.root_after-right.ensures ∙ ap (root_after c.remove_below-change-then-there-rank.result) c.right-below.ensures) at refl (c.rebalance_right.ensures.tree _ at) c.rebalance_right.ensures.len
    (to_next c.args.steps.now c.look-here.ensures.step) c.rebalance_right.ensures.steps

pub returns-in-Hidden-clause-removed : goal.returns-in-Hidden-clause-removed
returns-in-Hidden-clause-removed g t c =
    let f = g.R.TreeRow.functions in
    let law = g.met.R.TreeRow.lawful in
    λ tree low high h.
    let n = node_of f law h c.in-Some.is c.look-here.ensures.row in
    let sub = c.remove_below-change.ensures.removed n.left low (f.rank n.row) (standing-at f (sym c.left-below.ensures) n.left_standing) in
    remove-left_hidden f law n (less_of refl c.rank-there.ensures c.if-rank-there.true) sub c.in-Hidden.is (to_next c.args.steps.now c.look-here.ensures.step)

pub returns-in-Hidden-change-clause-removed : goal.returns-in-Hidden-change-clause-removed
returns-in-Hidden-change-clause-removed g t c =
    let f = g.R.TreeRow.functions in
    let law = g.met.R.TreeRow.lawful in
    λ tree low high h.
    let n = node_of f law h c.in-Some.is c.look-here.ensures.row in
    let sub = c.remove_below-change-then-there-rank.ensures.removed n.right (f.rank n.row + 1) high (standing-at f (sym c.right-below.ensures) n.right_standing) in
    remove-right_hidden f law n (less_of c.rank-there.ensures refl c.if-there-rank.true) sub c.in-Hidden-change.is (to_next c.args.steps.now c.look-here.ensures.step)

pub returns-else-there-rank-clause-removed : goal.returns-else-there-rank-clause-removed
returns-else-there-rank-clause-removed g t c =
    let f = g.R.TreeRow.functions in
    let law = g.met.R.TreeRow.lawful in
    λ tree low high h.
    let n = node_of f law h c.in-Some.is c.look-here.ensures.row in
    rw c.change_to.ensures (remove-here f n (most_of refl c.rank-there.ensures c.if-rank-there.false) (most_of c.rank-there.ensures refl c.if-there-rank.false) (ap Some c.linked.ensures) (c.take_root.ensures.taken tree low high (standing-at f c.in-Some.is h)) (to_next c.args.steps.now c.look-here.ensures.step))
