use Rattle.cow_arena.proofs.SlotLaws.{relinked-none, relinked-written}
use Rattle.cow_arena.proofs.arena.relink.Goals as goal

pub returns-in_default-clause-nodes : goal.returns-in_default-clause-nodes
returns-in_default-clause-nodes c = relinked-none _ c.args.parent _ _ c.in_default.is

pub returns-clause-nodes : goal.returns-clause-nodes
returns-clause-nodes c =
    rw (c.moved_link.ensures, c.moved_link-2.ensures)
    (relinked-written c.args.nodes.now c.args.parent c.in-Some.parent c.args.from.0 c.args.to.0 c.index-node.result.now c.in-Some.is c.index-node.ensures)
