use Rattle.cow_split.proofs.Words.{◌≡◌, ◌+◌, ◌-◌, Some, ap, subst, arith, nodes_of, tree_with, ComesTo}
use Rattle.cow_split.proofs.CostLaws.{parent-there, depth-up}
use Rattle.cow_split.proofs.SeenLaws.{comes-rises, comes-here, comes-on, comes-no_parent}
use Rattle.cow_split.proofs.search.page_seen.Goals as goal

pub returns-in_default : goal.returns-in_default
returns-in_default c slots p comes =
    absurd (comes-no_parent _ c.requires.forest _ _ _ _ _ (c.loop-at.invariant.comes slots p comes) c.loop-at-test.true c.node-below.ensures c.in_default.is)

pub returns-in_default-checked_sub : goal.returns-in_default-checked_sub
returns-in_default-checked_sub c slots p comes =
    let on = comes-on _ c.requires.forest _ _ _ _ _ _ (c.loop-at.invariant.comes slots p comes) c.loop-at-test.true c.node-below.ensures c.in-Some.is in
    let rises = comes-rises _ c.requires.forest _ _ _ _ on in
    let less = c.loop-at.invariant.less in
    absurd (omega (arith, c.in_default-checked_sub.ensures))

pub loop-at-smaller : goal.loop-at-smaller
loop-at-smaller c = let up = depth-up _ _ c.requires.forest _ _ _ c.node-below.ensures c.in-Some.is in omega arith

pub loop-at-preserved : goal.loop-at-preserved
loop-at-preserved c = record {
  there = parent-there _ _ c.requires.forest _ _ _ c.node-below.ensures c.in-Some.is;
  less = let less = c.loop-at.invariant.less in omega (arith, c.in-Some-checked_sub.ensures);
  comes = λ slots p comes.
      let on = comes-on _ c.requires.forest _ _ _ _ _ _ (c.loop-at.invariant.comes slots p comes) c.loop-at-test.true c.node-below.ensures c.in-Some.is in
      let less = c.loop-at.invariant.less in
      let same : p + (c.args.page - c.loop-at.own) + c.node-below.result.first ≡ p + (c.args.page - c.in-Some-checked_sub.less) =
      omega (arith, c.in-Some-checked_sub.ensures) in
      subst (λ r. ComesTo (tree_with (nodes_of c.args.arena.now) c.args.arena.now.lists slots) c.in-Some.parent.0 r c.args.node.0 c.args.page) same on;
}

pub returns : goal.returns
returns c slots p comes =
    let tree = tree_with (nodes_of c.args.arena.now) c.args.arena.now.lists slots in
    let there = subst (λ k. ComesTo tree k (p + (c.args.page - c.loop-at.own)) c.args.node.0 c.args.page) c.loop-at-test.false (c.loop-at.invariant.comes slots p comes) in
    let here = comes-here _ c.requires.forest _ _ _ there in
    let less = c.loop-at.invariant.less in
    let same : c.loop-at.own ≡ p = omega arith in
    ap Some same
