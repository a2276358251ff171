use Rattle.std.proofs.Common.{sym, ◌∙◌, arith}
use Rattle.cow_split.proofs.CostLaws.{depth-up}
use Rattle.tree_text.proofs.PlaceLaws.{stands}
use Rattle.tree_text.proofs.WalkLaws.{after-root, after-left, after-right}
use Rattle.tree_text.proofs.walking.next_after.Goals as goal

pub returns-in-Left-clause-next : goal.returns-in-Left-clause-next
returns-in-Left-clause-next c =
    c.loop-up.invariant.after ∙ (after-left _ _ c.requires.forest _ c.in-Some.up _ (sym c.in-Some.ensures.place) c.in-Left.is c.node.ensures).0

pub returns-in-Left-clause-there : goal.returns-in-Left-clause-there
returns-in-Left-clause-there c =
    (after-left _ _ c.requires.forest _ c.in-Some.up _ (sym c.in-Some.ensures.place) c.in-Left.is c.node.ensures).1

pub loop-up-smaller : goal.loop-up-smaller
loop-up-smaller c =
    let it = stands _ _ c.requires.forest _ c.in-Some.up (sym c.in-Some.ensures.place) in
    let up = depth-up _ _ c.requires.forest _ _ _ it.at it.parent in
    omega arith

pub loop-up-preserved : goal.loop-up-preserved
loop-up-preserved c = record {
  after = c.loop-up.invariant.after ∙ after-right _ _ c.requires.forest _ c.in-Some.up (sym c.in-Some.ensures.place) c.in-Right.is;
  there = c.in-Some.ensures.there;
}

pub returns-clause-next : goal.returns-clause-next
returns-clause-next c = c.loop-up.invariant.after ∙ after-root _ _ c.requires.forest _ (sym c.in_default.ensures.place)
