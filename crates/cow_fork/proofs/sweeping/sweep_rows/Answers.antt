use Rattle.cow_fork.proofs.Words.{subst, arith}
use Rattle.cow_fork.proofs.SweepLaws.{AreSwept, swept-none, swept-then, jumps-swept, swept-on, swept-end}
use Rattle.cow_fork.proofs.sweeping.sweep_rows.Goals as goal

pub loop-page-init : goal.loop-page-init
loop-page-init c = (record { swept = swept-none c.args.arena.now c.args.lists.now; needed = λ p less. absurd (omega arith) }, omega arith)

pub sweep_row-requires-clause-jumps : goal.sweep_row-requires-clause-jumps
sweep_row-requires-clause-jumps c = (
  c.requires.jumps.0,
  jumps-swept c.args.arena.now c.args.lists.now c.loop-page.lists c.loop-page.invariant.0.swept c.requires.jumps.0 c.args.jumps.now c.requires.jumps.1,
)

pub returns-in_default-checked_add-clause-swept : goal.returns-in_default-checked_add-clause-swept
returns-in_default-checked_add-clause-swept c =
    swept-then c.args.arena.now c.args.lists.now c.loop-page.lists c.sweep_row.new.lists c.loop-page.invariant.0.swept c.sweep_row.ensures.swept

pub returns-in_default-checked_add-clause-needed : goal.returns-in_default-checked_add-clause-needed
returns-in_default-checked_add-clause-needed c = λ p fits.
    (swept-on c.args.arena.now c.args.lists.now c.loop-page.lists c.sweep_row.new.lists c.args.at.0 c.loop-page.from c.in-Some.page c.look.result.now
    c.requires.forest c.look.ensures c.loop-page.invariant.0 c.in-Some.ensures c.sweep_row.ensures.swept c.sweep_row.ensures.needed).needed p
    (omega (arith, fits, c.in_default-checked_add.ensures))

pub loop-page-preserved : goal.loop-page-preserved
loop-page-preserved c = (
  subst (AreSwept c.args.arena.now c.args.lists.now c.sweep_row.new.lists c.args.at.0) (omega (arith, c.in-Some-checked_add.ensures))
      (swept-on c.args.arena.now c.args.lists.now c.loop-page.lists c.sweep_row.new.lists c.args.at.0 c.loop-page.from c.in-Some.page c.look.result.now
      c.requires.forest c.look.ensures c.loop-page.invariant.0 c.in-Some.ensures c.sweep_row.ensures.swept c.sweep_row.ensures.needed),
  omega arith,
)

pub returns : goal.returns
returns c = record {
  swept = c.loop-page.invariant.0.swept;
  needed = swept-end c.args.arena.now c.args.lists.now c.loop-page.lists c.args.at.0 c.loop-page.from c.look.result.now c.look.ensures c.loop-page.invariant.0 c.in_default.ensures;
}
