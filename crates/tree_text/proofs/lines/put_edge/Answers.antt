use Rattle.cow_split.proofs.CostLaws.{parent-there}
use Rattle.tree_text.proofs.lines.put_edge.Goals as goal

pub node-above-requires : goal.node-above-requires
node-above-requires c = parent-there _ _ c.requires.forest _ _ _ c.node-node.ensures c.in-Some.is
