use Rattle.std.proofs.Common.{sym, ◌∙◌}
use Rattle.balanced_tree.proofs.PlainLaws.{same_twice, single_steps, double_steps}
use Rattle.balanced_tree.proofs.Spelling.{picked-is, child_at-link, HasParts-link, readable-both, held-link, held-still, IsPlaced-root}
use Rattle.balanced_tree.proofs.Turns.{leaned_right-once, leaned_right-twice}
use Rattle.balanced_tree.proofs.rotation.lean_right.Goals as goal

pub children_of-requires : goal.children_of-requires
children_of-requires g c =
    let f = g.R.TreeRow.functions in let law = g.met.R.TreeRow.lawful in let s = c.args.rows.now in
    let both = readable-both f (HasParts-link f law s c.requires.split.left_tree c.requires.split.split.left c.requires.split.left_is c.child_under.ensures.child c.in-Some.is) in
    record { left = both.0; right = both.1 }

pub children_of-requires-in-Some-if_higher : goal.children_of-requires-in-Some-if_higher
children_of-requires-in-Some-if_higher g c =
    let f = g.R.TreeRow.functions in let law = g.met.R.TreeRow.lawful in let s = c.args.rows.now in
    let parent = HasParts-link f law s c.requires.split.left_tree c.requires.split.split.left c.requires.split.left_is c.child_under.ensures.child c.in-Some.is in
    let both = readable-both f (HasParts-link f law s parent.right parent.right_spelled parent.right_is c.children_of.ensures.right (picked-is _ _ _ _ c.if_higher.ensures c.in-Some-if_higher.is)) in
    record { left = both.0; right = both.1 }

pub place_over-requires : goal.place_over-requires
place_over-requires g c =
    held-still _ c.place_over-last.ensures.updates (held-still _ c.place_over-first.ensures.updates
    (held-link c.args.rows.now _ c.children_of.ensures.right (picked-is _ _ _ _ c.if_higher.ensures c.in-Some-if_higher.is)))

pub returns-in-Some-if_higher : goal.returns-in-Some-if_higher
returns-in-Some-if_higher g c =
    let f = g.R.TreeRow.functions in let law = g.met.R.TreeRow.lawful in
    let s = c.args.rows.now in
    let first = c.place_over-first.ensures in
    let last = c.place_over-last.ensures in
    let top = c.place_over.ensures in
    record {
      tree = λ l x r low high split same left_is right_is.
          let placed = leaned_right-twice f l r law split same (sym c.in-Some.is ∙ c.child_under.ensures.child ∙ child_at-link f s l split.left left_is) (c.child_under-right.ensures.child ∙ child_at-link f s r split.right right_is)
          c.children_of.ensures.left c.children_of.ensures.right c.if_higher.ensures c.in-Some-if_higher.is c.children_of-in-Some-if_higher.ensures.left c.children_of-in-Some-if_higher.ensures.right
          first.updates first.child last.updates last.child top.updates top.child in
          (placed.becomes, IsPlaced-root f placed);
      len = same_twice first.len (same_twice last.len top.len);
      capacity = same_twice first.capacity (same_twice last.capacity top.capacity);
      steps = double_steps c.args.steps.now c.child_under-right.ensures.steps c.child_under.ensures.steps c.children_of.ensures.steps c.children_of-in-Some-if_higher.ensures.steps first.steps last.steps top.steps;
    }

pub returns-in-None : goal.returns-in-None
returns-in-None g c =
    let f = g.R.TreeRow.functions in let law = g.met.R.TreeRow.lawful in
    let s = c.args.rows.now in
    let lower = c.place_over-last-in-None.ensures in
    let upper = c.place_over-in-None.ensures in
    record {
      tree = λ l x r low high split same left_is right_is.
          let placed = leaned_right-once f l r law split same (sym c.in-Some.is ∙ c.child_under.ensures.child ∙ child_at-link f s l split.left left_is) (c.child_under-right.ensures.child ∙ child_at-link f s r split.right right_is)
          c.children_of.ensures.left c.children_of.ensures.right c.if_higher.ensures c.in-None.is lower.updates lower.child upper.updates upper.child in
          (placed.becomes, IsPlaced-root f placed);
      len = same_twice lower.len upper.len;
      capacity = same_twice lower.capacity upper.capacity;
      steps = single_steps c.args.steps.now c.child_under-right.ensures.steps c.child_under.ensures.steps c.children_of.ensures.steps lower.steps upper.steps;
    }
