use Rattle.std.proofs.Common.{◌+◌, refl, sym, arith}
use Rattle.balanced_tree.proofs.PlainLaws.{less_of, most_of, to_next, to_fifth}
use Rattle.balanced_tree.proofs.Nodes.{node_of, standing-at, lower-left, lower-right, stays_left, stays_right}
use Rattle.balanced_tree.proofs.Moves.{move-leaf, move-left, move-right, move-left_hidden, move-right_hidden, move-here, sub-left, sub-right, StandsBeside-left, StandsBeside-right, children-here, children-left, children-right}
use Rattle.balanced_tree.proofs.moving.+move_below.Goals as goal

pub returns-in_default-clause-moved : goal.returns-in_default-clause-moved
returns-in_default-clause-moved g t c =
    let f = g.R.TreeRow.functions in
    λ tree low high standing beside from below. move-leaf f tree c.args.rank c.args.row.now c.in_default.is standing

pub move_below-requires : goal.move_below-requires
move_below-requires g t c κs within =
    let f = g.R.TreeRow.functions in
    let law = g.met.R.TreeRow.lawful in
    let less = lower-left f law c.requires.standing c.in-Some.is c.look-here.ensures.row c.left-below.ensures in
    (omega (arith, less), (within.0, (within.1, StandsBeside-left f law c.requires c.in-Some.is c.look-here.ensures.row c.left-below.ensures (less_of refl c.rank-there.ensures c.if-rank-there.true))))

pub move_below-requires-then-there-rank : goal.move_below-requires-then-there-rank
move_below-requires-then-there-rank g t c κs within =
    let f = g.R.TreeRow.functions in
    let law = g.met.R.TreeRow.lawful in
    let less = lower-right f law c.requires.standing c.in-Some.is c.look-here.ensures.row c.right-below.ensures in
    (omega (arith, less), (within.0, (within.1, StandsBeside-right f law c.requires c.in-Some.is c.look-here.ensures.row c.right-below.ensures (less_of c.rank-there.ensures refl c.if-there-rank.true))))

pub put_again-requires : goal.put_again-requires
put_again-requires g t c =
    let f = g.R.TreeRow.functions in
    let law = g.met.R.TreeRow.lawful in
    let d = node_of f law c.requires.standing c.in-Some.is c.look-here.ensures.row in
    let side = sub-left f c.args.rank (f.rank c.args.row.now) d c.requires.beside c.rank-there.ensures c.if-rank-there.true in
    children-left f law d (c.move_below.ensures.moved d.left c.requires.low (f.rank d.row) (standing-at f (sym c.left-below.ensures) d.left_standing) side.0 c.requires.from_low side.1)

pub put_again-requires-in_default-move_below-2 : goal.put_again-requires-in_default-move_below-2
put_again-requires-in_default-move_below-2 g t c =
    let f = g.R.TreeRow.functions in
    let law = g.met.R.TreeRow.lawful in
    let d = node_of f law c.requires.standing c.in-Some.is c.look-here.ensures.row in
    let side = sub-right f c.args.rank (f.rank c.args.row.now) d c.requires.beside c.rank-there.ensures c.if-there-rank.true in
    children-right f law d (c.move_below-then-there-rank.ensures.moved d.right (f.rank d.row + 1) c.requires.high (standing-at f (sym c.right-below.ensures) d.right_standing) side.0 side.1 c.requires.below_high)

pub put_instead-requires : goal.put_instead-requires
put_instead-requires g t c =
    let f = g.R.TreeRow.functions in
    let law = g.met.R.TreeRow.lawful in
    children-here f (node_of f law c.requires.standing c.in-Some.is c.look-here.ensures.row)

pub returns-in_default-move_below-clause-moved : goal.returns-in_default-move_below-clause-moved
returns-in_default-move_below-clause-moved g t c =
    let f = g.R.TreeRow.functions in
    let law = g.met.R.TreeRow.lawful in
    λ tree low high standing beside from below.
    let d = node_of f law standing c.in-Some.is c.look-here.ensures.row in
    let side = sub-left f c.args.rank (f.rank c.args.row.now) d beside c.rank-there.ensures c.if-rank-there.true in
    let sub = c.move_below.ensures.moved d.left low (f.rank d.row) (standing-at f (sym c.left-below.ensures) d.left_standing) side.0 from side.1 in
    move-left f law d (less_of refl c.rank-there.ensures c.if-rank-there.true) sub (c.put_again.ensures.put _ (stays_left f d sub.becomes.kept)) c.put_again.ensures.root c.put_again.ensures.len
    (to_next c.args.steps.now c.look-here.ensures.step) c.put_again.ensures.steps

pub returns-in_default-move_below-2-clause-moved : goal.returns-in_default-move_below-2-clause-moved
returns-in_default-move_below-2-clause-moved g t c =
    let f = g.R.TreeRow.functions in
    let law = g.met.R.TreeRow.lawful in
    λ tree low high standing beside from below.
    let d = node_of f law standing c.in-Some.is c.look-here.ensures.row in
    let side = sub-right f c.args.rank (f.rank c.args.row.now) d beside c.rank-there.ensures c.if-there-rank.true in
    let sub = c.move_below-then-there-rank.ensures.moved d.right (f.rank d.row + 1) high (standing-at f (sym c.right-below.ensures) d.right_standing) side.0 side.1 below in
    move-right f law d (less_of c.rank-there.ensures refl c.if-there-rank.true) sub (c.put_again-in_default-move_below-2.ensures.put _ (stays_right f d sub.becomes.kept)) c.put_again-in_default-move_below-2.ensures.root
    c.put_again-in_default-move_below-2.ensures.len (to_next c.args.steps.now c.look-here.ensures.step) c.put_again-in_default-move_below-2.ensures.steps

pub returns-in-Hidden-clause-moved : goal.returns-in-Hidden-clause-moved
returns-in-Hidden-clause-moved g t c =
    let f = g.R.TreeRow.functions in
    let law = g.met.R.TreeRow.lawful in
    λ tree low high standing beside from below.
    let d = node_of f law standing c.in-Some.is c.look-here.ensures.row in
    let side = sub-left f c.args.rank (f.rank c.args.row.now) d beside c.rank-there.ensures c.if-rank-there.true in
    let sub = c.move_below.ensures.moved d.left low (f.rank d.row) (standing-at f (sym c.left-below.ensures) d.left_standing) side.0 from side.1 in
    move-left_hidden f law d (less_of refl c.rank-there.ensures c.if-rank-there.true) sub c.in-Hidden.is (to_next c.args.steps.now c.look-here.ensures.step)

pub returns-in-Hidden-move_below-clause-moved : goal.returns-in-Hidden-move_below-clause-moved
returns-in-Hidden-move_below-clause-moved g t c =
    let f = g.R.TreeRow.functions in
    let law = g.met.R.TreeRow.lawful in
    λ tree low high standing beside from below.
    let d = node_of f law standing c.in-Some.is c.look-here.ensures.row in
    let side = sub-right f c.args.rank (f.rank c.args.row.now) d beside c.rank-there.ensures c.if-there-rank.true in
    let sub = c.move_below-then-there-rank.ensures.moved d.right (f.rank d.row + 1) high (standing-at f (sym c.right-below.ensures) d.right_standing) side.0 side.1 below in
    move-right_hidden f law d (less_of c.rank-there.ensures refl c.if-there-rank.true) sub c.in-Hidden-move_below.is (to_next c.args.steps.now c.look-here.ensures.step)

pub returns-else-there-rank-clause-moved : goal.returns-else-there-rank-clause-moved
returns-else-there-rank-clause-moved g t c =
    let f = g.R.TreeRow.functions in
    let law = g.met.R.TreeRow.lawful in
    λ tree low high standing beside from below.
    let d = node_of f law standing c.in-Some.is c.look-here.ensures.row in
    move-here f law d (most_of refl c.rank-there.ensures c.if-rank-there.false) (most_of c.rank-there.ensures refl c.if-there-rank.false) beside from below
    (c.put_instead.ensures.put _ c.look-here.ensures.row) c.put_instead.ensures.root c.put_instead.ensures.len (to_fifth c.args.steps.now c.look-here.ensures.step c.put_instead.ensures.steps)
