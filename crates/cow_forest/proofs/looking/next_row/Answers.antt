use Rattle.cow_forest.proofs.Words.{arith, tree_of}
use Rattle.cow_forest.proofs.NextLaws.{row-past, look-start, look-passed, look-up, look-some, look-none, look-fits, look-there, look-window}
use Rattle.cow_forest.proofs.NextLaws.{look-less}
use Rattle.cow_forest.proofs.looking.next_row.Goals as goal

pub loop-here-init : goal.loop-here-init
loop-here-init c =
    look-start (tree_of c.args.arena.now c.args.lists.now) c.requires.exact c.args.leaf.0 c.args.from c.requires.leaf c.node-at.result c.node-at.ensures (omega arith)

pub nearer-best-requires : goal.nearer-best-requires
nearer-best-requires c = row-past _ _ _ _ _ c.next_below-row.ensures (omega (arith, c.loop-here.invariant.risen))

pub returns-then-end-here : goal.returns-then-end-here
returns-then-end-here c =
    let has = look-passed (tree_of c.args.arena.now c.args.lists.now) c.requires.exact c.args.leaf.0 c.args.from _ _ _ _ c.loop-here.invariant _
    c.next_below-row.ensures _ c.nearer-best.ensures _ c.unwrap_or.ensures _ c.min-end.ensures in
    record {
      some = look-some (tree_of c.args.arena.now c.args.lists.now) c.requires.exact c.args.leaf.0 c.args.from _ _ _ _ has c.if-end-here.true;
      none = look-none (tree_of c.args.arena.now c.args.lists.now) c.requires.exact c.args.leaf.0 c.args.from _ _ _ _ has c.if-end-here.true;
      fits = look-fits (tree_of c.args.arena.now c.args.lists.now) c.requires.exact c.args.leaf.0 c.args.from _ _ _ _ has;
    }

pub node-above-requires : goal.node-above-requires
node-above-requires c =
    look-there (tree_of c.args.arena.now c.args.lists.now) c.requires.exact c.args.leaf.0 c.args.from _ _ _ _ c.loop-here.invariant c.in-Some.parent c.in-Some.is

pub overflow_add-here : goal.overflow_add-here
overflow_add-here c =
    let fits = look-window (tree_of c.args.arena.now c.args.lists.now) c.requires.exact c.args.leaf.0 c.args.from _ _ _ _ c.loop-here.invariant c.in-Some.parent
    c.node-above.result c.in-Some.is c.node-above.ensures in
    omega arith

pub overflow_add-to : goal.overflow_add-to
overflow_add-to c =
    let fits = look-window (tree_of c.args.arena.now c.args.lists.now) c.requires.exact c.args.leaf.0 c.args.from _ _ _ _ c.loop-here.invariant c.in-Some.parent
    c.node-above.result c.in-Some.is c.node-above.ensures in
    omega arith

pub loop-here-smaller : goal.loop-here-smaller
loop-here-smaller c =
    look-less (tree_of c.args.arena.now c.args.lists.now) c.requires.exact c.args.leaf.0 c.args.from _ _ _ _ c.loop-here.invariant c.in-Some.parent
    c.node-above.result c.in-Some.is c.node-above.ensures

pub loop-here-preserved : goal.loop-here-preserved
loop-here-preserved c =
    let has = look-passed (tree_of c.args.arena.now c.args.lists.now) c.requires.exact c.args.leaf.0 c.args.from _ _ _ _ c.loop-here.invariant _
    c.next_below-row.ensures _ c.nearer-best.ensures _ c.unwrap_or.ensures _ c.min-end.ensures in
    look-up (tree_of c.args.arena.now c.args.lists.now) c.requires.exact c.args.leaf.0 c.args.from _ _ _ _ has c.in-Some.parent c.node-above.result c.in-Some.is
    c.node-above.ensures
