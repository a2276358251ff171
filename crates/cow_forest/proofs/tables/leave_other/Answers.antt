-- The list that leaves is no node's.
use Rattle.cow_forest.proofs.Words.{nodes_of, HasOneOf}
use Rattle.cow_forest.proofs.TableLaws.{gone-apart, left-others}
use Rattle.cow_forest.proofs.tables.leave_other.Goals as goal

pub returns : goal.returns
returns c =
    let has : HasOneOf (nodes_of c.args.arena.now) c.in-Some.node.0 c.in-Some.one.0 c.in-Some.other.0 = rw c.in-Some.is at c.requires in
    left-others (nodes_of c.args.arena.now) _ _ c.other_of.result c.leave.ensures
    (gone-apart (nodes_of c.args.arena.now) c.in-Some.node.0 c.in-Some.one.0 c.in-Some.other.0 c.other_of.result has c.node.result c.node.ensures c.other_of.ensures)
