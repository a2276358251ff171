-- What is left of the search is always all that is found.
use Rattle.cow_split.proofs.Words.{sym, ap, arith, slots_of, tree_of, has_some, hidden_at}
use Rattle.cow_split.proofs.WayLaws.{finds-here, finds-end, goes-some, goes-onward_by}
use Rattle.cow_split.proofs.WeightLaws.{less-onward, weight-here}
use Rattle.cow_split.proofs.ExistingLaws.{hidden-begins, goes-first, goes-past}
use Rattle.cow_split.proofs.existing.any_below.Goals as goal

pub loop-next-init : goal.loop-next-init
loop-next-init c =
    hidden-begins (tree_of c.args.arena.now c.args.lists.now) c.requires.forest c.args.except c.args.start.0 c.args.page (omega (arith, c.ranges.page)) c.requires.node

pub look_below-requires-clause-node : goal.look_below-requires-clause-node
look_below-requires-clause-node c =
    goes-some (tree_of c.args.arena.now c.args.lists.now) c.requires.forest _ _ _ _ _
    (finds-here _ c.requires.forest _ _ _ _ c.in-Some.is c.loop-next.invariant)

pub returns-in-Viewer : goal.returns-in-Viewer
returns-in-Viewer c =
    sym (goes-first _ _ _ _ _ _ (finds-here _ c.requires.forest _ _ _ _ c.in-Some.is c.loop-next.invariant) c.in-Viewer.ensures)

pub loop-next-smaller-in-Below : goal.loop-next-smaller-in-Below
loop-next-smaller-in-Below c =
    let on = c.in-Below.ensures.onward in
    omega (arith, less-onward _ _ c.requires.forest _ _ on.node on.through.at on.left, weight-here _ _ c.requires.forest _ _ c.in-Some.is)

pub loop-next-preserved-in-Below : goal.loop-next-preserved-in-Below
loop-next-preserved-in-Below c =
    goes-onward_by (tree_of c.args.arena.now c.args.lists.now) c.requires.forest (hidden_at (tree_of c.args.arena.now c.args.lists.now) c.args.except) _ _ _ _ _ _
    (finds-here _ c.requires.forest _ _ _ _ c.in-Some.is c.loop-next.invariant) c.in-Below.ensures.onward c.in-Below.ensures.children

pub next_after-next-requires-clause-passed : goal.next_after-next-requires-clause-passed
next_after-next-requires-clause-passed c =
    let here = finds-here _ c.requires.forest _ _ _ _ c.in-Some.is c.loop-next.invariant in
    record { slots = slots_of c.args.lists.now; below = hidden_at (tree_of c.args.arena.now c.args.lists.now) c.args.except; after = here.after; passed = here.passed }

pub loop-next-preserved : goal.loop-next-preserved
loop-next-preserved c =
    let below = hidden_at (tree_of c.args.arena.now c.args.lists.now) c.args.except in
    goes-past (tree_of c.args.arena.now c.args.lists.now) below _ _ _ _
    (finds-here _ c.requires.forest _ _ _ _ c.in-Some.is c.loop-next.invariant)
    c.in-Nobody.ensures c.next_after-next.result (c.next_after-next.ensures.next (slots_of c.args.lists.now) below)

pub returns : goal.returns
returns c = sym (ap has_some (finds-end _ c.requires.forest _ _ _ c.in_default.is c.loop-next.invariant))
