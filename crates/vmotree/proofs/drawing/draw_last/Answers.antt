use Rattle.tree_text.proofs.OnceLaws.{each_once}
use Rattle.vmotree.proofs.drawing.draw_last.Goals as goal

pub returns-in-Ok-clause-nodes : goal.returns-in-Ok-clause-nodes
returns-in-Ok-clause-nodes g c = each_once c.args.store.now c.arena-nodes.ensures.store

pub returns-in-Err-clause-nodes : goal.returns-in-Err-clause-nodes
returns-in-Err-clause-nodes g c = each_once c.args.store.now c.arena-nodes.ensures.store

pub returns-in-WriteFault-clause-nodes : goal.returns-in-WriteFault-clause-nodes
returns-in-WriteFault-clause-nodes g c = each_once c.args.store.now c.arena-nodes.ensures.store
