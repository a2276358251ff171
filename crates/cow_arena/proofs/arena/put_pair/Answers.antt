use Rattle.cow_arena.proofs.Words.{◌∙◌, ap, is_some, link_to, hidden_over, below_hidden}
use Rattle.cow_arena.proofs.SlotLaws.{pair_order}
use Rattle.cow_arena.proofs.arena.put_pair.Goals as goal

pub returns-clause-nodes : goal.returns-clause-nodes
returns-clause-nodes c =
    let h = c.insert_reserved.result in
    let s = c.insert_reserved-2.result in
    c.relink.ensures.nodes
    ∙ pair_order c.args.nodes.now c.insert_reserved.new.self c.insert_reserved-2.new.self c.args.leaf.0 h s c.args.node.parent c.args.node
    (record (c.args.child) { parent = link_to h }) (hidden_over c.args.node c.args.leaf.0 s) (below_hidden c.args.node h c.args.list.0)
    c.insert_reserved.ensures.updates c.insert_reserved-2.ensures.updates c.insert_reserved.ensures.was_vacant c.insert_reserved-2.ensures.was_vacant
    (ap is_some c.requires.leaf) c.requires.parent c.requires.above
