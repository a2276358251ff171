use Rattle.std.proofs.Common.{sym, ap, ◌∙◌}
use Rattle.vm_base.proofs.EntryLaws.{some_same}
use Rattle.cow_arena.specs.Nodes.{nodes_of}
use Rattle.tree_text.specs.declared.lines.Form.TheVariants as form
use Rattle.tree_text.specs.Text.{before_text}
use Rattle.tree_text.proofs.lines.write_before.Goals as goal

pub returns-in-Drawing-clause-text : goal.returns-in-Drawing-clause-text
returns-in-Drawing-clause-text c = λ node at. rw c.in-Drawing.is (c.write_indent.ensures.text node)

pub returns-in-Graph-clause-text : goal.returns-in-Graph-clause-text
returns-in-Graph-clause-text c = λ node at. rw c.in-Graph.is
    (c.write_label.ensures.text (nodes_of c.args.arena.now) c.args.at.0
    ∙ ap (before_text form.Graph (nodes_of c.args.arena.now) c.args.at.0) (some_same (sym c.node.ensures ∙ at)))
