-- Each row that is passed has settled the row to which its page comes.
use Rattle.cow_merge.proofs.Words.{◌+◌, subst, arith, HasNone, IsFirst, has_row, ListId, slots_of, tree_of}
use Rattle.cow_merge.proofs.SharingLaws.{down-row, down-end}
use Rattle.cow_merge.proofs.sharing.settle_under.Goals as goal
use Rattle.cow_merge.proofs.LiftedLaws.{below-found, family-same, family-then}

pub loop-page-init : goal.loop-page-init
loop-page-init c = record { from = omega arith; lifting = c.requires.lifting; moves = family-same; down = λ parent side seen at was. was }

pub overflow_add-at : goal.overflow_add-at
overflow_add-at c =
    let fits = c.requires.fits c.in-Some.page (omega (arith, c.in-Some.ensures.order, c.loop-page.invariant.from)) c.in-Some.ensures.below in omega arith

pub overflow_add-at-in-Some : goal.overflow_add-at-in-Some
overflow_add-at-in-Some c =
    let fits = c.requires.fits c.in-Some.page (omega (arith, c.in-Some.ensures.order, c.loop-page.invariant.from)) c.in-Some.ensures.below in omega arith

pub loop-page-preserved : goal.loop-page-preserved
loop-page-preserved c =
    record {
      from = omega (arith, c.in-Some.ensures.order, c.loop-page.invariant.from);
      lifting = c.lift_rows.ensures.lifting;
      moves = family-then c.requires.lifting.lifted.exact.forest c.loop-page.invariant.moves c.lift_rows.ensures.moves;
      down = λ parent side seen at was.
          let it = c.loop-page.invariant.down parent side seen at was in
          let now = c.lift_rows.ensures.lifting in
          down-row (tree_of c.args.arena.now c.loop-page.lists) now.lifted.exact.forest (slots_of c.lift_rows.new.lists) parent now.of.sibling c.args.family.sibling.0
          now.of.family.sibling_at
          (below-found c.lift_rows.ensures.moves.keeps now.of parent at) (c.lift_rows.ensures.moves.keeps.left parent at) seen side c.args.way c.loop-page.from it c.in-Some.page
          (subst (λ (l : ListId). IsFirst (has_row (slots_of c.loop-page.lists l.0)) c.loop-page.from c.args.way.to c.in-Some.page) (c.requires.list it.node it.node_at)
          c.in-Some.ensures) (c.lift_rows.ensures.empty parent at (c.in-Some.page + c.args.way.shift) (omega arith) (omega arith));
    }

pub returns-clause-down : goal.returns-clause-down
returns-clause-down c = λ parent side seen at was.
    let it = c.loop-page.invariant.down parent side seen at was in
    down-end (tree_of c.args.arena.now c.loop-page.lists) parent.list.0 c.args.family.sibling.0 seen side c.args.way c.loop-page.from it
    (subst (λ (l : ListId). HasNone (has_row (slots_of c.loop-page.lists l.0)) c.loop-page.from c.args.way.to) (c.requires.list it.node it.node_at) c.in_default.ensures)
