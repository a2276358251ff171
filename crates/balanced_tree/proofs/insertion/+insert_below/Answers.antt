use Rattle.std.proofs.Common.{◌+◌, refl, sym, ap, ◌∙◌, arith}
use Rattle.balanced_tree.specs.inside.Standing.{root_after}
use Rattle.balanced_tree.proofs.PlainLaws.{less_of, most_of, less_there, past_there, to_next}
use Rattle.balanced_tree.proofs.Nodes.{node_of, standing-at, lower-left, lower-right, rank_here, stays_left, stays_right, past-absent, Splits-left, Splits-right, StandsFor-left, StandsFor-right}
use Rattle.balanced_tree.proofs.Hiding.{rooted-link}
use Rattle.balanced_tree.proofs.Insertions.{insert-left, insert-right, insert-left_hidden, insert-right_hidden, insert-leaf}
use Rattle.balanced_tree.proofs.insertion.+insert_below.Goals as goal

pub returns-in_default-clause-inserted : goal.returns-in_default-clause-inserted
returns-in_default-clause-inserted g t c =
    let f = g.R.TreeRow.functions in
    λ tree low high standing from below.
    insert-leaf f tree (standing-at f c.in_default.is standing) from below c.add.ensures.was_vacant c.add.ensures.place
    (rw (← c.linked.ensures) c.add.ensures.updates) c.add.ensures.len (to_next c.args.steps.now c.add.ensures.step)

pub insert_below-change-requires : goal.insert_below-change-requires
insert_below-change-requires g t c κs within =
    let f = g.R.TreeRow.functions in
    let law = g.met.R.TreeRow.lawful in
    let less = lower-left f law c.requires.standing c.in-Some.is c.look-here.ensures.row c.left-below.ensures in
    (omega (arith, less), (within.0, (within.1, StandsFor-left f law c.requires c.in-Some.is c.look-here.ensures.row c.left-below.ensures (less_of c.rank-rank.ensures c.rank-there.ensures c.if-rank-there.true))))

pub insert_below-change-requires-else-rank-there : goal.insert_below-change-requires-else-rank-there
insert_below-change-requires-else-rank-there g t c κs within =
    let f = g.R.TreeRow.functions in
    let law = g.met.R.TreeRow.lawful in
    let less = lower-right f law c.requires.standing c.in-Some.is c.look-here.ensures.row c.right-below.ensures in
    (omega (arith, less), (within.0, (within.1, StandsFor-right f law c.requires c.in-Some.is c.look-here.ensures.row c.right-below.ensures (past-absent f law c.requires c.in-Some.is c.look-here.ensures.row (most_of c.rank-rank.ensures c.rank-there.ensures c.if-rank-there.false)))))

pub rebalance_left-requires : goal.rebalance_left-requires
rebalance_left-requires g t c =
    let f = g.R.TreeRow.functions in
    let law = g.met.R.TreeRow.lawful in
    let n = node_of f law c.requires.standing c.in-Some.is c.look-here.ensures.row in
    let sub = c.insert_below-change.ensures.inserted n.left c.requires.low (f.rank n.row) (standing-at f (sym c.left-below.ensures) n.left_standing) c.requires.from_low (less_there c.rank-rank.ensures c.rank-there.ensures (rank_here f n) c.if-rank-there.true) in
    let at = stays_left f n sub.becomes.kept in
    (_, at, Splits-left f law n sub.becomes at (rooted-link f n.left sub.rooted n.left_standing.is_at ∙ sym (c.root_after-left.ensures ∙ ap (root_after c.insert_below-change.result) c.left-below.ensures)) refl)

pub rebalance_right-requires : goal.rebalance_right-requires
rebalance_right-requires g t c =
    let f = g.R.TreeRow.functions in
    let law = g.met.R.TreeRow.lawful in
    let n = node_of f law c.requires.standing c.in-Some.is c.look-here.ensures.row in
    let sub = c.insert_below-change-else-rank-there.ensures.inserted n.right (f.rank n.row + 1) c.requires.high (standing-at f (sym c.right-below.ensures) n.right_standing) (past_there refl refl (rank_here f n) (past-absent f law c.requires c.in-Some.is c.look-here.ensures.row (most_of c.rank-rank.ensures c.rank-there.ensures c.if-rank-there.false))) c.requires.below_high in
    let at = stays_right f n sub.becomes.kept in
    (_, at, Splits-right f law n sub.becomes at refl (rooted-link f n.right sub.rooted n.right_standing.is_at ∙ sym (c.root_after-right.ensures ∙ ap (root_after c.insert_below-change-else-rank-there.result) c.right-below.ensures)))

pub returns-in_default-change-clause-inserted : goal.returns-in_default-change-clause-inserted
returns-in_default-change-clause-inserted g t c =
    let f = g.R.TreeRow.functions in
    let law = g.met.R.TreeRow.lawful in
    λ tree low high standing from below.
    let n = node_of f law standing c.in-Some.is c.look-here.ensures.row in
    let sub = c.insert_below-change.ensures.inserted n.left low (f.rank n.row) (standing-at f (sym c.left-below.ensures) n.left_standing) from (less_there c.rank-rank.ensures c.rank-there.ensures (rank_here f n) c.if-rank-there.true) in
    let at = stays_left f n sub.becomes.kept in
    insert-left f law n (less_of c.rank-rank.ensures c.rank-there.ensures c.if-rank-there.true) sub (c.root_after-left.ensures ∙ ap (root_after c.insert_below-change.result) c.left-below.ensures) at refl (c.rebalance_left.ensures.tree _ at) c.rebalance_left.ensures.len
    (to_next c.args.steps.now c.look-here.ensures.step) c.rebalance_left.ensures.steps

pub returns-in_default-change-2-clause-inserted : goal.returns-in_default-change-2-clause-inserted
returns-in_default-change-2-clause-inserted g t c =
    let f = g.R.TreeRow.functions in
    let law = g.met.R.TreeRow.lawful in
    λ tree low high standing from below.
    let n = node_of f law standing c.in-Some.is c.look-here.ensures.row in
    let sub = c.insert_below-change-else-rank-there.ensures.inserted n.right (f.rank n.row + 1) high (standing-at f (sym c.right-below.ensures) n.right_standing) (past_there refl refl (rank_here f n) (past-absent f law c.requires c.in-Some.is c.look-here.ensures.row (most_of c.rank-rank.ensures c.rank-there.ensures c.if-rank-there.false))) below in
    let at = stays_right f n sub.becomes.kept in
    insert-right f law n (past-absent f law c.requires c.in-Some.is c.look-here.ensures.row (most_of c.rank-rank.ensures c.rank-there.ensures c.if-rank-there.false)) sub (c.root_after-right.ensures ∙ ap (root_after c.insert_below-change-else-rank-there.result) c.right-below.ensures) at refl (c.rebalance_right.ensures.tree _ at) c.rebalance_right.ensures.len
    (to_next c.args.steps.now c.look-here.ensures.step) c.rebalance_right.ensures.steps

pub returns-in-Hidden-clause-inserted : goal.returns-in-Hidden-clause-inserted
returns-in-Hidden-clause-inserted g t c =
    let f = g.R.TreeRow.functions in
    let law = g.met.R.TreeRow.lawful in
    λ tree low high standing from below.
    let n = node_of f law standing c.in-Some.is c.look-here.ensures.row in
    let sub = c.insert_below-change.ensures.inserted n.left low (f.rank n.row) (standing-at f (sym c.left-below.ensures) n.left_standing) from (less_there c.rank-rank.ensures c.rank-there.ensures (rank_here f n) c.if-rank-there.true) in
    insert-left_hidden f law n (less_of c.rank-rank.ensures c.rank-there.ensures c.if-rank-there.true) sub c.in-Hidden.is (to_next c.args.steps.now c.look-here.ensures.step)

pub returns-in-Hidden-change-clause-inserted : goal.returns-in-Hidden-change-clause-inserted
returns-in-Hidden-change-clause-inserted g t c =
    let f = g.R.TreeRow.functions in
    let law = g.met.R.TreeRow.lawful in
    λ tree low high standing from below.
    let n = node_of f law standing c.in-Some.is c.look-here.ensures.row in
    let sub = c.insert_below-change-else-rank-there.ensures.inserted n.right (f.rank n.row + 1) high (standing-at f (sym c.right-below.ensures) n.right_standing) (past_there refl refl (rank_here f n) (past-absent f law c.requires c.in-Some.is c.look-here.ensures.row (most_of c.rank-rank.ensures c.rank-there.ensures c.if-rank-there.false))) below in
    insert-right_hidden f law n (past-absent f law c.requires c.in-Some.is c.look-here.ensures.row (most_of c.rank-rank.ensures c.rank-there.ensures c.if-rank-there.false)) sub c.in-Hidden-change.is (to_next c.args.steps.now c.look-here.ensures.step)
