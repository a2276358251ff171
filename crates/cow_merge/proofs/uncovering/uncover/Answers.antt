-- Each own row that covers a row of the parent goes.
use Rattle.cow_merge.proofs.Words.{◌≡◌, ◌<◌, none_is, sym, subst, ◌∙◌, slots_of, IsSome, Node, some_same, IsUncovering}
use Rattle.cow_merge.proofs.UncoverLaws.{uncover-ready, uncovered-start, uncovered-more}
use Rattle.cow_merge.proofs.uncovering.uncover.Goals as goal
use Rattle.cow_merge.proofs.RangeLaws.{lost-same, lost-then}

pub loop-page-init : goal.loop-page-init
loop-page-init c =
    let ready = uncover-ready c.args.arena.now c.args.leaf.0 c.args.hidden c.node-node.result c.requires.leaf c.node-node.ensures in
    record {
      uncovering = uncovered-start c.args.arena.now c.args.lists.now c.args.frames.now c.args.leaf.0 c.args.hidden.0 c.node-node.result ready.0 ready.1 c.requires.exact;
      lost = lost-same;
    }

pub uncover_row-requires : goal.uncover_row-requires
uncover_row-requires c = record {
  uncovering = uncovered-more c.in-Some.page c.node-node.result c.node-node.ensures c.loop-page.invariant.uncovering
      (λ p past less _. none_is _ (c.in-Some.ensures.gap p past less));
  inside = λ node at. subst (λ (n : Node). c.in-Some.page < n.seen) (some_same (sym c.node-node.ensures ∙ at)) c.in-Some.ensures.below;
  row = λ node at.
      subst (λ (n : Node). IsSome (slots_of c.loop-page.lists n.list.0 c.in-Some.page)) (some_same (sym c.node-node.ensures ∙ at))
      c.in-Some.ensures.hit;
}

pub loop-page-preserved : goal.loop-page-preserved
loop-page-preserved c = record { uncovering = c.uncover_row.ensures.uncovering; lost = lost-then c.loop-page.invariant.lost c.uncover_row.ensures.lost }

pub returns-clause-freed : goal.returns-clause-freed
returns-clause-freed c = λ node at.
    let one : c.node-node.result ≡ node = some_same (sym c.node-node.ensures ∙ at) in
    subst (λ (n : Node). IsUncovering c.args.arena.now c.loop-page.lists c.loop-page.frames c.args.leaf.0 c.args.hidden.0 n.seen) one
    (uncovered-more c.node-node.result.seen c.node-node.result c.node-node.ensures c.loop-page.invariant.uncovering (λ p from below _. none_is _ (c.in_default.ensures p from below)))
