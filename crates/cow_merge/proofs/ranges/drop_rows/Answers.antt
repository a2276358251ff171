-- Each row that goes leaves its page out.
use Rattle.cow_merge.proofs.Words.{None, refl, sym, ap, subst, ◌∙◌, arith, some_same, slots_of, Node, Rows, Row, IsPartOf, IsLeftBare}
use Rattle.cow_merge.proofs.Words.{Moves}
use Rattle.cow_merge.proofs.RangeLaws.{list-beside, visible-of, dropping-start, dropping-taken, dropping-more, dropping-end, dropping-lost}
use Rattle.cow_merge.proofs.RangeLaws.{lost-same, lost-then}
use Rattle.cow_merge.proofs.ranges.drop_rows.Goals as goal

pub loop-page-init : goal.loop-page-init
loop-page-init c = record {
  from = omega arith;
  dropping = dropping-start c.args.arena.now c.args.lists.now c.args.frames.now c.args.leaf.0 c.node-node.result c.args.first c.requires.exact
      (visible-of c.args.arena.now c.requires.leaf c.node-node.ensures);
  lost = lost-same;
  others = λ m apart. refl;
}

pub give_back_frame-requires : goal.give_back_frame-requires
give_back_frame-requires c =
    dropping-taken c.in-Some.page c.loop-page.invariant.dropping c.in-Some.ensures.slot

pub loop-page-preserved : goal.loop-page-preserved
loop-page-preserved c =
    let least = c.in-Some.ensures.page.least c.in-Some.page refl in
    record {
      from = omega (arith, least.0);
      dropping = dropping-more c.in-Some.page c.loop-page.invariant.dropping c.in-Some.ensures.slot c.take_next.new.self c.loop-page.invariant.from c.in-Some.ensures.page c.in-Some.ensures.slots
          c.give_back_frame.ensures (omega (arith, c.in-Some.ensures.spare)) (omega (arith, c.in-Some.ensures.count));
      lost = lost-then c.loop-page.invariant.lost
          (dropping-lost c.in-Some.page c.loop-page.invariant.dropping c.in-Some.ensures.slot c.take_next.new.self c.loop-page.invariant.from c.in-Some.ensures.page c.in-Some.ensures.slots
          c.give_back_frame.ensures (omega (arith, c.in-Some.ensures.spare)) (omega (arith, c.in-Some.ensures.count)));
      others = λ m apart.
          list-beside (slots_of c.loop-page.lists) (slots_of c.take_next.new.self) c.node-node.result.list.0 c.in-Some.page None c.in-Some.ensures.slots m apart
          ∙ c.loop-page.invariant.others m apart;
    }

pub returns : goal.returns
returns c = record {
  bare =
      subst (λ (rows : Rows Row). IsLeftBare c.args.arena.now rows c.loop-page.frames c.args.leaf.0 c.args.first) (sym c.in_default.ensures.none)
      (dropping-end c.loop-page.invariant.dropping c.loop-page.invariant.from c.in_default.ensures.page);
  lost =
      subst (λ (rows : Rows Row). Moves c.args.arena.now c.args.lists.now rows c.args.frames.now c.loop-page.frames c.args.leaf.0 c.args.first IsPartOf)
      (sym c.in_default.ensures.none) c.loop-page.invariant.lost;
  others = λ node at l apart.
      ap (λ (rows : Rows Row). slots_of rows l) c.in_default.ensures.none
      ∙ c.loop-page.invariant.others l (λ same. apart (same ∙ ap (λ (n : Node). n.list.0) (some_same (sym c.node-node.ensures ∙ at))));
}
