use Rattle.std.proofs.Common.{◌+◌, ◌-◌, refl, arith}
use Rattle.tree_text.proofs.LineLaws.{lines-step, lines-end}
use Rattle.tree_text.proofs.PushLaws.{pushed-more, pushed-cut, pushed-all}
use Rattle.tree_text.proofs.writing.write_trees.Goals as goal

pub returns-in_default-clause-text : goal.returns-in_default-clause-text
returns-in_default-clause-text g c =
    pushed-cut _ _ _ _ _ _ _ c.loop-v.invariant.pushed
    (lines-step c.args.form c.args.forest.now _ (c.next_koid-next.result.0 - (c.loop-v.v + 1)) c.loop-v.v (c.loop-v.v + 1) (omega (arith, c.loop-v-test.true)) refl)
    c.in_default.ensures.text

pub loop-v-preserved : goal.loop-v-preserved
loop-v-preserved g c = record {
  pushed = pushed-more _ _ _ _ _ _ _ c.loop-v.invariant.pushed
      (lines-step c.args.form c.args.forest.now _ _ c.loop-v.v _ (omega (arith, c.loop-v-test.true)) refl) c.in-Ok.ensures.text;
  later = omega (arith, c.loop-v.invariant.later, c.write_tree.ensures.cause.later);
}

pub returns-clause-text : goal.returns-clause-text
returns-clause-text g c =
    pushed-all _ _ _ _ c.loop-v.invariant.pushed (lines-end c.args.form c.args.forest.now _ _ (omega (arith, c.loop-v-test.false)))
