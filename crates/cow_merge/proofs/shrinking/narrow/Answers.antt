-- A node without a parent has no window, and one that is narrowed still ends inside the parent.
use Rattle.cow_merge.proofs.ShrinkLaws.{narrowed-none, narrowed-inside}
use Rattle.cow_merge.proofs.shrinking.narrow.Goals as goal

pub returns-then-is_none-clause-nodes : goal.returns-then-is_none-clause-nodes
returns-then-is_none-clause-nodes c =
    narrowed-none c.args.arena.now c.args.leaf.0 c.node-node.result c.args.count c.requires.forest c.node-node.ensures c.is_none.result c.is_none.ensures
    c.if-is_none.true

pub set_window-requires-clause-parent : goal.set_window-requires-clause-parent
set_window-requires-clause-parent c =
    narrowed-inside c.args.arena.now c.args.leaf.0 c.node-node.result c.args.count c.requires.forest c.node-node.ensures c.is_none.result c.is_none.ensures
    c.if-is_none.false c.window_first.result c.min-seen.result c.window_first.ensures c.min-seen.ensures
