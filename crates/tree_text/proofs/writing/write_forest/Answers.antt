use Rattle.std.proofs.Common.{refl}
use Rattle.line_server.proofs.Answered.{written_or_cut}
use Rattle.tree_text.proofs.LineLaws.{forest-parts}
use Rattle.tree_text.proofs.OnceLaws.{each_once}
use Rattle.tree_text.proofs.PushLaws.{pushed-none, pushed-more, pushed-cut, pushed-last}
use Rattle.tree_text.proofs.writing.write_forest.Goals as goal

pub returns-in_default-clause-text : goal.returns-in_default-clause-text
returns-in_default-clause-text g c =
    let parts = forest-parts c.args.form c.args.forest.now _ _ c.write_opening-end.ensures.text refl in
    pushed-cut _ _ _ _ _ _ _ (pushed-none _ _ _ parts) refl c.in_default.ensures.err

pub returns-in_default-write_trees-clause-text : goal.returns-in_default-write_trees-clause-text
returns-in_default-write_trees-clause-text g c =
    let parts = forest-parts c.args.form c.args.forest.now _ _ c.write_opening-end.ensures.text refl in
    pushed-cut _ _ _ _ _ _ _ (pushed-more _ _ _ _ _ _ _ (pushed-none _ _ _ parts) refl c.in-Ok.ensures.ok) refl c.in_default-write_trees.ensures.text

pub returns-clause-text : goal.returns-clause-text
returns-clause-text g c =
    let parts = forest-parts c.args.form c.args.forest.now _ _ c.write_opening-end.ensures.text c.closing.ensures in
    pushed-last _ _ _ _ _ c.push_all-2.result
    (pushed-more _ _ _ _ _ _ _ (pushed-more _ _ _ _ _ _ _ (pushed-none _ _ _ parts) refl c.in-Ok.ensures.ok) refl c.in-Ok-write_trees.ensures.text)
    (written_or_cut c.push_all-2.result _ _ _ c.push_all-2.ensures.ok c.push_all-2.ensures.err)

pub returns-in_default-clause-nodes : goal.returns-in_default-clause-nodes
returns-in_default-clause-nodes g c = each_once c.args.forest.now c.arena-nodes.ensures.store

pub returns-in_default-write_trees-clause-nodes : goal.returns-in_default-write_trees-clause-nodes
returns-in_default-write_trees-clause-nodes g c = each_once c.args.forest.now c.arena-nodes.ensures.store

pub returns-clause-nodes : goal.returns-clause-nodes
returns-clause-nodes g c = each_once c.args.forest.now c.arena-nodes.ensures.store
