use Rattle.std.proofs.Common.{sym, ◌∙◌, arith}
use Rattle.cow_split.proofs.CostLaws.{depth-up}
use Rattle.tree_text.proofs.PlaceLaws.{stands}
use Rattle.tree_text.proofs.WalkLaws.{root-top, root-right, root-left}
use Rattle.tree_text.proofs.walking.root_above.Goals as goal

pub returns-in-Right-clause-root : goal.returns-in-Right-clause-root
returns-in-Right-clause-root c =
    sym (c.loop-up.invariant.root ∙ root-right _ _ c.requires.forest _ c.in-Some.up (sym c.in-Some.ensures.place) c.in-Right.is)

pub loop-up-smaller : goal.loop-up-smaller
loop-up-smaller c =
    let it = stands _ _ c.requires.forest _ c.in-Some.up (sym c.in-Some.ensures.place) in
    let up = depth-up _ _ c.requires.forest _ _ _ it.at it.parent in
    omega arith

pub loop-up-preserved : goal.loop-up-preserved
loop-up-preserved c = record {
  root = c.loop-up.invariant.root ∙ root-left _ _ c.requires.forest _ c.in-Some.up (sym c.in-Some.ensures.place) c.in-Left.is;
  there = c.in-Some.ensures.there;
}

pub returns-clause-root : goal.returns-clause-root
returns-clause-root c = sym (c.loop-up.invariant.root ∙ root-top _ _ c.requires.forest _ (sym c.in_default.ensures.place))
