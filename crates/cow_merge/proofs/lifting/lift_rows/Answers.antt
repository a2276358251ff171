-- Each row that was taken out is settled, and the parent's list has lost it.
use Rattle.cow_merge.proofs.Words.{◌≡◌, None, refl, sym, subst, ◌∙◌, inl, inr, arith, cases_lt, none_is, some_same, slots_of, Node}
use Rattle.cow_merge.proofs.LiftedLaws.{passed-more, ahead-less, gone-here, family-same, family-then}
use Rattle.cow_merge.proofs.lifting.lift_rows.Goals as goal

pub loop-page-init : goal.loop-page-init
loop-page-init c = record { lifting = c.requires; moves = family-same; below = λ p least less. absurd (omega arith) }

pub settle-requires-clause-row : goal.settle-requires-clause-row
settle-requires-clause-row c = (c.in-Some.ensures.next.least c.in-Some.page refl).1

pub loop-page-smaller : goal.loop-page-smaller
loop-page-smaller c =
    let list = c.node-above.result.list.0 in
    let least = c.in-Some.ensures.next.least c.in-Some.page refl in
    ahead-less (slots_of c.loop-page.lists list) (slots_of c.settle.new.lists list) c.loop-page.at c.in-Some.page least.0 c.in-Some.ensures.fits least.1
    (c.settle.ensures.gone c.in-Some.page ∙ gone-here _ c.in-Some.page)

pub loop-page-preserved : goal.loop-page-preserved
loop-page-preserved c =
    let list = c.node-above.result.list.0 in
    record {
      lifting = c.settle.ensures.lifted.0;
      moves = family-then c.requires.lifted.exact.forest c.loop-page.invariant.moves c.settle.ensures.lifted.1;
      below = passed-more (slots_of c.loop-page.lists list) (slots_of c.settle.new.lists list) c.args.from c.loop-page.at c.in-Some.page
          c.loop-page.invariant.below c.in-Some.ensures.next c.settle.ensures.gone;
    }

pub returns-clause-empty : goal.returns-clause-empty
returns-clause-empty c = λ parent at p least less.
    subst (λ (n : Node). slots_of c.loop-page.lists n.list.0 p ≡ None) (some_same (sym c.node-above.ensures ∙ at)) (elim (cases_lt p c.loop-page.at) [
      | inl before ↦ none_is _ (c.loop-page.invariant.below p least before)
      | inr past ↦ c.in_default.ensures.end p past less
    ])
