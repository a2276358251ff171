use Rattle.cow_forest.proofs.Words.{arith, shows_frame, tree_of}
use Rattle.cow_forest.proofs.HeldLaws.{first-joined, first-further}
use Rattle.cow_forest.proofs.looking.next_shown.Goals as goal

pub returns-in-Some : goal.returns-in-Some
returns-in-Some c =
    first-further (shows_frame (tree_of c.args.arena.now c.args.lists.now) c.args.leaf.0) c.args.from c.min-few.result c.args.end c.in-Some.page (omega arith) c.in-Some.ensures

pub returns-then-few-end : goal.returns-then-few-end
returns-then-few-end c =
    first-joined (shows_frame (tree_of c.args.arena.now c.args.lists.now) c.args.leaf.0) c.args.from c.min-few.result c.args.end c.next_shown_by_rows.result
    (omega arith) c.in_default.ensures c.next_shown_by_rows.ensures
