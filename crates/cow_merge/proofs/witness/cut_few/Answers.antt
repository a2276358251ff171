-- Each page that is cut off is passed over from then on.
use Rattle.cow_merge.proofs.Words.{refl, ◌∙◌}
use Rattle.cow_merge.proofs.FewLaws.{few-start, few-cut, few-lost}
use Rattle.cow_merge.proofs.PassingLaws.{passing-bare}
use Rattle.cow_merge.proofs.JumpingLaws.{jumps-left}
use Rattle.cow_merge.proofs.RangeLaws.{lost-same, lost-then}
use Rattle.cow_merge.proofs.witness.cut_few.Goals as goal

pub loop-left-init : goal.loop-left-init
loop-left-init c = record {
  passing = λ spared was. few-start c.from_on-done.ensures was;
  lost = lost-same;
  kept = refl;
}

pub cut_page-requires : goal.cut_page-requires
cut_page-requires c = record {
  exact =
      let under = c.requires.passing in
      (c.loop-left.invariant.passing under.spared under.passing).bare.has;
  bare =
      let under = c.requires.passing in
      passing-bare (c.loop-left.invariant.passing under.spared under.passing) _ c.in-Some.ensures.low;
  jumps =
      let under = c.requires.passing in
      jumps-left (c.loop-left.invariant.passing under.spared under.passing).bare.has c.loop-left.invariant.lost _ c.requires.jumps;
}

pub loop-left-preserved : goal.loop-left-preserved
loop-left-preserved c = record {
  passing = λ spared was.
      let it = c.loop-left.invariant.passing spared was in
      few-cut _ _ c.args.start.at.0 _ _ it c.requires.start c.in-Some.ensures (c.cut_page.ensures.cut it.bare.has.out it.bare.has.exact it.bare.has.only);
  lost =
      let under = c.requires.passing in
      let it = c.loop-left.invariant.passing under.spared under.passing in
      lost-then c.loop-left.invariant.lost
      (few-lost _ _ c.args.start.at.0 _ _ it c.requires.start c.in-Some.ensures (c.cut_page.ensures.cut it.bare.has.out it.bare.has.exact it.bare.has.only));
  kept = c.cut_page.ensures.kept c.args.start.node c.requires.start ∙ c.loop-left.invariant.kept;
}
