-- Each row that is passed has cut off the page that comes under it.
use Rattle.cow_merge.proofs.Words.{◌+◌, ◌-◌, refl, sym, ap, subst, ◌∙◌, arith, some_same, HasNone, IsFirst, has_row, ListId, slots_of, Node}
use Rattle.cow_merge.proofs.BesideLaws.{beside-bare, beside-cut, beside-end, beside-lost}
use Rattle.cow_merge.proofs.JumpingLaws.{jumps-left}
use Rattle.cow_merge.proofs.witness.cut_under.Goals as goal
use Rattle.cow_merge.proofs.RangeLaws.{lost-same, lost-then}

pub loop-page-init : goal.loop-page-init
loop-page-init c = record { from = omega arith; beside = λ first spared above to s was. (was, lost-same); kept = λ above at. refl }

pub overflow_add-own : goal.overflow_add-own
overflow_add-own c =
    let down = c.requires.down in
    let high = down.beside.place.within.high c.in-Some.page (omega (arith, c.in-Some.ensures.order, c.loop-page.invariant.from)) c.in-Some.ensures.below in
    omega (arith, down.fits)

pub overflow_sub-own : goal.overflow_sub-own
overflow_sub-own c =
    let down = c.requires.down in
    let low = down.beside.place.within.low c.in-Some.page (omega (arith, c.in-Some.ensures.order, c.loop-page.invariant.from)) c.in-Some.ensures.below in
    omega arith

pub cut_page-requires : goal.cut_page-requires
cut_page-requires c = record {
  exact =
      let down = c.requires.down in
      (c.loop-page.invariant.beside down.first down.spared down.above down.to down.side down.beside).0.bare.has;
  bare =
      let down = c.requires.down in
      let low = down.beside.place.within.low c.in-Some.page (omega (arith, c.in-Some.ensures.order, c.loop-page.invariant.from)) c.in-Some.ensures.below in
      beside-bare (c.loop-page.invariant.beside down.first down.spared down.above down.to down.side down.beside).0
      (c.in-Some.page + c.args.way.shift - c.args.window.shift) (omega arith);
  jumps =
      let down = c.requires.down in
      let been = c.loop-page.invariant.beside down.first down.spared down.above down.to down.side down.beside in
      jumps-left been.0.bare.has been.1 _ c.requires.jumps;
}

pub loop-page-preserved : goal.loop-page-preserved
loop-page-preserved c =
    record {
      from = omega (arith, c.in-Some.ensures.order, c.loop-page.invariant.from);
      beside = λ first spared above to s was.
          let been = c.loop-page.invariant.beside first spared above to s was in
          let it = been.0 in
          let next =
          subst (λ (l : ListId). IsFirst (has_row (slots_of c.loop-page.lists l.0)) c.loop-page.from c.args.way.to c.in-Some.page)
          (ap (λ (n : Node). n.list) (some_same (sym c.node.ensures ∙ it.place.node_at))) c.in-Some.ensures in
          let cut = c.cut_page.ensures.cut it.bare.has.out it.bare.has.exact it.bare.has.only in (
            beside-cut _ _ it c.loop-page.invariant.from next cut,
            lost-then been.1 (beside-lost _ _ it c.loop-page.invariant.from next cut),
          );
      kept = λ above at. c.cut_page.ensures.kept above at ∙ c.loop-page.invariant.kept above at;
    }

pub returns-clause-beside : goal.returns-clause-beside
returns-clause-beside c = λ first spared above to s was.
    let been = c.loop-page.invariant.beside first spared above to s was in
    let it = been.0 in (
      beside-end it
          (subst (λ (l : ListId). HasNone (has_row (slots_of c.loop-page.lists l.0)) c.loop-page.from c.args.way.to)
          (ap (λ (n : Node). n.list) (some_same (sym c.node.ensures ∙ it.place.node_at))) c.in_default.ensures),
      been.1,
    )

pub returns-clause-kept : goal.returns-clause-kept
returns-clause-kept c = c.loop-page.invariant.kept

-- ---- the jumps
