use Rattle.std.proofs.Common.{refl, sym, ap, ◌∙◌, subst, arith}
use Rattle.std.proofs.lemmas.Option.{same_Some}
use Rattle.balanced_tree.specs.inside.Standing.{Same, Splits}
use Rattle.balanced_tree.proofs.Spelling.{ContainsKey-place_of, child_at-link, place_over-tree}
use Rattle.balanced_tree.proofs.Hiding.{rooted-at, rooted-placed}
use Rattle.balanced_tree.proofs.Turns.{balanced-right, balanced-left, balanced-level}
use Rattle.balanced_tree.proofs.rotation.rebalance.Goals as goal

pub child_under-left_child-requires : goal.child_under-left_child-requires
child_under-left_child-requires g c =
    let there = c.requires.2 in
    λ q e. ContainsKey-place_of g.R.TreeRow.functions c.args.rows.now there.left_tree q there.split.left (there.left_is ∙ e)

pub child_under-right_child-requires : goal.child_under-right_child-requires
child_under-right_child-requires g c =
    let there = c.requires.2 in
    λ q e. ContainsKey-place_of g.R.TreeRow.functions c.args.rows.now there.right_tree q there.split.right (there.right_is ∙ e)

pub height_under-left_height-requires : goal.height_under-left_height-requires
height_under-left_height-requires g c =
    let there = c.requires.2 in
    λ q e. ContainsKey-place_of g.R.TreeRow.functions c.args.rows.now there.left_tree q there.split.left (there.left_is ∙ e)

pub height_under-right_height-requires : goal.height_under-right_height-requires
height_under-right_height-requires g c =
    let there = c.requires.2 in
    λ q e. ContainsKey-place_of g.R.TreeRow.functions c.args.rows.now there.right_tree q there.split.right (there.right_is ∙ e)

pub lean_right-requires-clause-split : goal.lean_right-requires-clause-split
lean_right-requires-clause-split g c =
    subst (λ z. Splits g.R.TreeRow.functions c.args.rows.now c.args.left c.args.place z c.args.right) (same_Some _ _ (sym c.requires.1 ∙ c.row-high.ensures.row)) c.requires.2

pub lean_left-requires-clause-split : goal.lean_left-requires-clause-split
lean_left-requires-clause-split g c =
    subst (λ z. Splits g.R.TreeRow.functions c.args.rows.now c.args.left c.args.place z c.args.right) (same_Some _ _ (sym c.requires.1 ∙ c.row-low.ensures.row)) c.requires.2

pub returns-then-right_height-left_height-clause-tree : goal.returns-then-right_height-left_height-clause-tree
returns-then-right_height-left_height-clause-tree g c =
    let f = g.R.TreeRow.functions in
    λ row e l x r low high split same left_is right_is.
    let made = c.lean_right.ensures.tree l x r low high split (subst (Same f x) (same_Some _ _ (sym e ∙ c.row-high.ensures.row)) same) left_is right_is in
    rw (balanced-right f split left_is right_is (omega (arith, c.height_under-left_height.ensures.height, c.height_under-right_height.ensures.height, c.if-right_height-left_height.true))) (made.0, rooted-at f made.1)

pub returns-then-left_height-right_height-clause-tree : goal.returns-then-left_height-right_height-clause-tree
returns-then-left_height-right_height-clause-tree g c =
    let f = g.R.TreeRow.functions in
    λ row e l x r low high split same left_is right_is.
    let made = c.lean_left.ensures.tree l x r low high split (subst (Same f x) (same_Some _ _ (sym e ∙ c.row-low.ensures.row)) same) left_is right_is in
    rw (balanced-left f split left_is right_is (omega (arith, c.height_under-left_height.ensures.height, c.height_under-right_height.ensures.height, c.if-left_height-right_height.true))) (made.0, rooted-at f made.1)

pub returns-clause-tree : goal.returns-clause-tree
returns-clause-tree g c =
    let f = g.R.TreeRow.functions in
    λ row e l x r low high split same left_is right_is.
    let is = same_Some _ _ (sym e ∙ c.row-had.ensures.row) in
    let on_left = c.child_under-left_child.ensures.child ∙ child_at-link f c.args.rows.now l split.left left_is in
    let on_right = c.child_under-right_child.ensures.child ∙ child_at-link f c.args.rows.now r split.right right_is in
    let placed = place_over-tree f g.met.R.TreeRow.lawful split (subst (Same f x) is same) on_left on_right refl c.place_over-child.ensures.updates c.place_over-child.ensures.child in
    rw (balanced-level f split left_is right_is (omega (arith, c.height_under-left_height.ensures.height, c.height_under-right_height.ensures.height, c.if-right_height-left_height.false)) (omega (arith, c.height_under-left_height.ensures.height, c.height_under-right_height.ensures.height, c.if-left_height-right_height.false))) (placed.becomes, rooted-placed f is (ap (λ y. y.link) c.place_over-child.ensures.child) placed.child c.change_from.ensures.root c.change_from.ensures.hidden)
