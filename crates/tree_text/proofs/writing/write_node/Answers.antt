use Rattle.std.proofs.Common.{refl}
use Rattle.line_server.proofs.Answered.{written_or_cut}
use Rattle.cow_split.specs.Trees.{tree_of}
use Rattle.tree_text.proofs.LineLaws.{line-parts}
use Rattle.tree_text.proofs.PushLaws.{pushed-none, pushed-more, pushed-cut, pushed-last}
use Rattle.tree_text.proofs.writing.write_node.Goals as goal

pub returns-in_default-clause-text : goal.returns-in_default-clause-text
returns-in_default-clause-text g c =
    let parts = line-parts c.args.form (tree_of c.args.arena.now c.args.lists.now) _ _ _ _ c.node.ensures (c.write_head-end.ensures.head _ c.node.ensures) refl in
    pushed-cut _ _ _ _ _ _ _ (pushed-none _ _ _ parts) refl c.in_default.ensures.err

pub returns-in_default-write_rows-clause-text : goal.returns-in_default-write_rows-clause-text
returns-in_default-write_rows-clause-text g c =
    let parts = line-parts c.args.form (tree_of c.args.arena.now c.args.lists.now) _ _ _ _ c.node.ensures (c.write_head-end.ensures.head _ c.node.ensures) refl in
    pushed-cut _ _ _ _ _ _ _ (pushed-more _ _ _ _ _ _ _ (pushed-none _ _ _ parts) refl c.in-Ok.ensures.ok) refl c.in_default-write_rows.ensures.text

pub returns-clause-text : goal.returns-clause-text
returns-clause-text g c =
    let parts = line-parts c.args.form (tree_of c.args.arena.now c.args.lists.now) _ _ _ _ c.node.ensures (c.write_head-end.ensures.head _ c.node.ensures)
    (c.write_tail-end.ensures.tail _ c.node.ensures) in
    pushed-last _ _ _ _ _ c.push_all-2.result
    (pushed-more _ _ _ _ _ _ _ (pushed-more _ _ _ _ _ _ _ (pushed-none _ _ _ parts) refl c.in-Ok.ensures.ok) refl c.in-Ok-write_rows.ensures.text)
    (written_or_cut c.push_all-2.result _ _ _ c.push_all-2.ensures.ok c.push_all-2.ensures.err)
