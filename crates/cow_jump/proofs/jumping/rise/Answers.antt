use Rattle.cow_jump.proofs.Words.{sym, ap, is_some, tree_of, holder_of}
use Rattle.cow_jump.proofs.JumpLaws.{rising-start, rises-there, rise-past, rise-ended, rise-found, rise-cost, rise-on, rise-less}
use Rattle.cow_jump.proofs.jumping.rise.Goals as goal

pub loop-place-init : goal.loop-place-init
loop-place-init g c = rising-start _ _ _ _ _ c.requires.bare

pub next_place-requires-clause-node : goal.next_place-requires-clause-node
next_place-requires-clause-node g c = ap is_some c.loop-place.invariant.climbing.there

pub look-requires : goal.look-requires
look-requires g c = rises-there (tree_of c.args.arena.now c.args.lists.now) c.requires.forest _ _ _ _ _ c.in-Some.ensures.some

pub returns-in-Some-find_counted-clause-holder : goal.returns-in-Some-find_counted-clause-holder
returns-in-Some-find_counted-clause-holder g c =
    ap holder_of (sym (rise-found _ c.requires.forest _ _ _ _ _ _ _ c.loop-place.invariant _ _ _ _ _ c.in-Some.ensures.some c.look.ensures
    c.find_counted.ensures.cost c.in-Some-find_counted.slot (sym c.in-Some-find_counted.ensures.slot)))

pub returns-in-Some-find_counted-clause-cost : goal.returns-in-Some-find_counted-clause-cost
returns-in-Some-find_counted-clause-cost g c =
    rise-cost _ c.requires.forest _ _ _ _ _ _ _ c.loop-place.invariant _ _ _ _ _ c.in-Some.ensures.some c.look.ensures c.find_counted.ensures.cost

pub loop-place-smaller : goal.loop-place-smaller
loop-place-smaller g c =
    rise-less _ c.requires.forest _ _ _ _ _ _ _ c.loop-place.invariant _ _ _ _ _ c.in-Some.ensures.some c.look.ensures c.find_counted.ensures.cost

pub loop-place-preserved : goal.loop-place-preserved
loop-place-preserved g c =
    rise-on _ c.requires.forest _ _ _ _ _ _ _ c.loop-place.invariant _ _ _ _ _ c.in-Some.ensures.some c.look.ensures
    c.find_counted.ensures.cost (sym c.in_default-find_counted.ensures.slot)

pub returns-clause-holder : goal.returns-clause-holder
returns-clause-holder g c = ap holder_of (sym (rise-past _ c.requires.forest _ _ _ _ _ _ _ c.loop-place.invariant c.in_default.ensures.none))

pub returns-clause-cost : goal.returns-clause-cost
returns-clause-cost g c = rise-ended _ c.requires.forest _ _ _ _ _ _ _ c.loop-place.invariant
