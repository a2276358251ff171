use Rattle.cow_fork.proofs.Words.{arith}
use Rattle.cow_fork.proofs.SweepLaws.{swept-none, jumps-swept, nodes-on, nodes-end, roots-bare}
use Rattle.cow_fork.proofs.sweeping.sweep.Goals as goal

pub loop-at-init : goal.loop-at-init
loop-at-init c = record { swept = swept-none c.args.arena.now c.args.lists.now; needed = λ k less. absurd (omega arith) }

pub sweep_node-requires-clause-jumps : goal.sweep_node-requires-clause-jumps
sweep_node-requires-clause-jumps c = (
  c.requires.jumps.0,
  jumps-swept c.args.arena.now c.args.lists.now c.loop-at.lists c.loop-at.invariant.swept c.requires.jumps.0 c.args.jumps.now c.requires.jumps.1,
)

pub loop-at-preserved : goal.loop-at-preserved
loop-at-preserved c =
    nodes-on c.args.arena.now c.args.lists.now c.loop-at.lists c.sweep_node.new.lists c.loop-at.at c.requires.forest c.loop-at.invariant
    c.sweep_node.ensures.swept c.sweep_node.ensures.needed

pub returns : goal.returns
returns c =
    let all = nodes-end c.args.arena.now c.args.lists.now c.loop-at.lists c.loop-at.at c.loop-at.invariant
    (λ k some. let less = c.capacity-end.ensures.below k some in omega (arith, less, c.loop-at-test.false)) in
    record {
      swept = c.loop-at.invariant.swept;
      needed = all;
      roots = roots-bare c.args.arena.now c.loop-at.lists c.requires.forest all;
    }
