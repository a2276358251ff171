use Rattle.std.proofs.Common.{ap, ◌∙◌, arith}
use Rattle.cow_split.specs.Trees.{tree_of}
use Rattle.tree_text.specs.Text.{lines_text}
use Rattle.tree_text.specs.inside.Walking.{ahead_from}
use Rattle.tree_text.proofs.WalkLaws.{ahead-root}
use Rattle.tree_text.proofs.LineLaws.{lines-none, lines-cons}
use Rattle.tree_text.proofs.PushLaws.{pushed-none, pushed-more, pushed-cut, pushed-all}
use Rattle.tree_text.proofs.writing.write_nodes.Goals as goal

pub loop-here-init : goal.loop-here-init
loop-here-init g c = record {
  pushed = pushed-none _ _ _
      (ap (lines_text c.args.form (tree_of c.args.arena.now c.args.lists.now)) (ahead-root _ _ c.requires.forest _ c.requires.top));
  there = c.requires.node;
  later = omega arith;
}

pub returns-in_default-write_node-clause-text : goal.returns-in_default-write_node-clause-text
returns-in_default-write_node-clause-text g c =
    let t = tree_of c.args.arena.now c.args.lists.now in
    pushed-cut _ _ _ _ _ _ _ c.loop-here.invariant.pushed
    (ap (λ o. lines_text c.args.form t (ahead_from t.nodes t.lists o)) c.in-Some.is ∙ (ap (lines_text c.args.form t) c.next_node-next.ensures.next ∙ lines-cons c.args.form t _ _))
    c.in_default-write_node.ensures.text

pub loop-here-preserved : goal.loop-here-preserved
loop-here-preserved g c =
    let t = tree_of c.args.arena.now c.args.lists.now in
    record {
      pushed = pushed-more _ _ _ _ _ _ _ c.loop-here.invariant.pushed
          (ap (λ o. lines_text c.args.form t (ahead_from t.nodes t.lists o)) c.in-Some.is ∙ (ap (lines_text c.args.form t) c.next_node-next.ensures.next ∙ lines-cons c.args.form t _ _))
          c.in-Ok.ensures.text;
      there = c.next_node-next.ensures.there;
      later = omega (arith, c.loop-here.invariant.later, c.write_node.ensures.cause.later);
    }

pub returns-clause-text : goal.returns-clause-text
returns-clause-text g c =
    let t = tree_of c.args.arena.now c.args.lists.now in
    pushed-all _ _ _ _ c.loop-here.invariant.pushed
    (ap (λ o. lines_text c.args.form t (ahead_from t.nodes t.lists o)) c.in_default.is ∙ lines-none c.args.form t)
