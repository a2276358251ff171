use Rattle.cow_forest.proofs.Words.{Some, None, refl, subst, arith, MatchOption, Side, nodes_of, tree_of, IsBelowAll, HasLesser}
use Rattle.cow_forest.proofs.Words.{viewers_from}
use Rattle.cow_forest.proofs.ViewingLaws.{lesser-own, lesser-above, lesser-beside}
use Rattle.cow_forest.proofs.viewing.lesser_koid_of.Goals as goal

pub returns-then-own-koid : goal.returns-then-own-koid
returns-then-own-koid c = lesser-own (tree_of c.args.arena.now c.args.lists.now) c.requires.exact c.args.node.0 c.args.page c.node.result c.in-Some.own c.args.koid
    c.node.ensures c.in-Some.is (Some c.in-Some.own) (refl, omega (arith, c.if-own-koid.true))

pub returns-else-own-koid : goal.returns-else-own-koid
returns-else-own-koid c = lesser-own (tree_of c.args.arena.now c.args.lists.now) c.requires.exact c.args.node.0 c.args.page c.node.result c.in-Some.own c.args.koid
    c.node.ensures c.in-Some.is None (omega (arith, c.if-own-koid.false))

pub returns-in-Some-koid_below : goal.returns-in-Some-koid_below
returns-in-Some-koid_below c = λ tag has. lesser-above (tree_of c.args.arena.now c.args.lists.now) c.requires.exact c.args.node.0 c.args.page c.node.result c.node.ensures
    c.in_default.is c.args.koid tag has c.first_side-first.result c.in-Some-koid_below.less c.in-Some-koid_below.ensures

pub returns : goal.returns
returns c = λ tag has.
    let found : Side → Type 0 = λ side. MatchOption c.koid_below-2.result
    (IsBelowAll (nodes_of c.args.arena.now) (viewers_from (tree_of c.args.arena.now c.args.lists.now) None side c.args.node.0 c.args.page) c.args.koid)
    (λ less. HasLesser (nodes_of c.args.arena.now) (viewers_from (tree_of c.args.arena.now c.args.lists.now) None side c.args.node.0 c.args.page) c.args.koid less) in
    lesser-beside (tree_of c.args.arena.now c.args.lists.now) c.requires.exact c.args.node.0 c.args.page c.node.result c.node.ensures
    c.in_default.is c.args.koid tag has c.first_side-first.result c.koid_below-2.result c.in_default-koid_below.ensures (subst found c.other_side.ensures c.koid_below-2.ensures)
