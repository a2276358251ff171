use Rattle.cow_arena.proofs.SlotLaws.{held_sibling, splice_order}
use Rattle.cow_arena.proofs.arena.splice_nodes.Goals as goal

pub index_mut-requires : goal.index_mut-requires
index_mut-requires c =
    held_sibling c.args.nodes.now c.relink.new.nodes c.try_remove.new.self c.try_remove-2.new.self c.args.leaf.0 c.args.hidden.0 c.args.sibling.0 c.args.parent c.args.node
    c.relink.ensures.nodes c.try_remove.ensures.updates c.try_remove-2.ensures.updates c.requires.sibling c.requires.leaf c.requires.hidden

pub returns-clause-nodes : goal.returns-clause-nodes
returns-clause-nodes c =
    splice_order c.args.nodes.now c.relink.new.nodes c.try_remove.new.self c.try_remove-2.new.self c.args.leaf.0 c.args.hidden.0 c.args.sibling.0 c.args.parent c.args.node
    c.relink.ensures.nodes c.try_remove.ensures.updates c.try_remove-2.ensures.updates c.requires.sibling c.requires.leaf c.requires.hidden
