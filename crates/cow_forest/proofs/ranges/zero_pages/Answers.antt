use Rattle.cow_forest.proofs.Words.{arith}
use Rattle.cow_forest.proofs.RisingLaws.{rise-start, rise-ready, rise-some, rise-zero, rise-root, rise-cost, rise-there, rise-window}
use Rattle.cow_forest.proofs.RisingLaws.{rise-less, rise-up}
use Rattle.cow_forest.proofs.JumpKeptLaws.{jumps-zeroed}
use Rattle.cow_forest.proofs.ranges.zero_pages.Goals as goal

pub loop-here-init : goal.loop-here-init
loop-here-init g c = rise-start c.requires.ready _ c.node-at.ensures

pub zero_rows-requires-clause-ready : goal.zero_rows-requires-clause-ready
zero_rows-requires-clause-ready g c = rise-ready c.requires.ready c.loop-here.invariant

pub zero_rows-requires-clause-jumps : goal.zero_rows-requires-clause-jumps
zero_rows-requires-clause-jumps g c =
    (c.requires.jumps.0, jumps-zeroed _ _ _ _ _ _ _ _ c.requires.ready.exact.forest _ c.requires.ready.visible c.loop-here.invariant.some _ _ c.requires.jumps.1)

pub returns-then-stop-here : goal.returns-then-stop-here
returns-then-stop-here g c = record {
  some = rise-some c.requires.ready c.loop-here.invariant c.zero_rows.ensures.some c.zero_rows.ensures.passed c.zero_rows.ensures.cost;
  zero =
      rise-zero c.requires.ready c.loop-here.invariant c.zero_rows.ensures.some c.zero_rows.ensures.passed c.zero_rows.ensures.cost _ c.min-stop.ensures c.if-stop-here.true;
  cost = rise-cost c.requires.ready c.loop-here.invariant c.zero_rows.ensures.some c.zero_rows.ensures.passed c.zero_rows.ensures.cost;
}

pub returns-in_default : goal.returns-in_default
returns-in_default g c = record {
  some = rise-some c.requires.ready c.loop-here.invariant c.zero_rows.ensures.some c.zero_rows.ensures.passed c.zero_rows.ensures.cost;
  zero =
      rise-root c.requires.ready c.loop-here.invariant c.zero_rows.ensures.some c.zero_rows.ensures.passed c.zero_rows.ensures.cost c.in_default.is;
  cost = rise-cost c.requires.ready c.loop-here.invariant c.zero_rows.ensures.some c.zero_rows.ensures.passed c.zero_rows.ensures.cost;
}

pub node-above-requires : goal.node-above-requires
node-above-requires g c = rise-there c.requires.ready c.loop-here.invariant c.in-Some.is

pub overflow_add-here : goal.overflow_add-here
overflow_add-here g c =
    let fits = rise-window c.requires.ready c.loop-here.invariant c.zero_rows.ensures.some c.zero_rows.ensures.passed c.zero_rows.ensures.cost c.in-Some.is c.node-above.ensures in
    omega arith

pub overflow_add-to : goal.overflow_add-to
overflow_add-to g c =
    let fits = rise-window c.requires.ready c.loop-here.invariant c.zero_rows.ensures.some c.zero_rows.ensures.passed c.zero_rows.ensures.cost c.in-Some.is c.node-above.ensures in
    omega arith

pub loop-here-smaller : goal.loop-here-smaller
loop-here-smaller g c = rise-less c.requires.ready c.loop-here.invariant c.in-Some.is c.node-above.ensures

pub loop-here-preserved : goal.loop-here-preserved
loop-here-preserved g c =
    rise-up c.requires.ready c.loop-here.invariant c.zero_rows.ensures.some c.zero_rows.ensures.passed c.zero_rows.ensures.cost c.in-Some.is c.node-above.ensures _ c.min-stop.ensures
