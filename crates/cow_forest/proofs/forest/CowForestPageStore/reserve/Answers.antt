use Rattle.cow_forest.proofs.Words.{forest_of}
use Rattle.cow_fork.proofs.SweepLaws.{jumps-swept}
use Rattle.cow_forest.proofs.EmptyLaws.{store-roomy}
use Rattle.cow_forest.proofs.JumpKeptLaws.{jumps-roomy}
use Rattle.cow_forest.proofs.StoreLaws.{with_rows}
use Rattle.cow_forest.proofs.SweptLaws.{store-swept}
use Rattle.cow_forest.proofs.forest.CowForestPageStore.reserve.Goals as goal

pub sweep_when_due-requires-clause-jumps : goal.sweep_when_due-requires-clause-jumps
sweep_when_due-requires-clause-jumps c = (c.self.inside.next, c.self.invariant.jumps)

pub invariant_of-self : goal.invariant_of-self
invariant_of-self c = record {
  store = store-roomy (with_rows (forest_of c.self.inside) c.sweep_when_due.new.lists c.self.inside.frames) c.reserve.new.self
      (store-swept (forest_of c.self.inside) c.self.invariant.store c.sweep_when_due.new.lists c.sweep_when_due.ensures) c.reserve.ensures.rows;
  jumps = jumps-roomy c.self.inside.arena c.sweep_when_due.new.lists c.reserve.new.self c.reserve.ensures.rows c.self.inside.next c.self.inside.jumps
      (jumps-swept c.self.inside.arena c.self.inside.lists c.sweep_when_due.new.lists c.sweep_when_due.ensures c.self.inside.next c.self.inside.jumps
      c.self.invariant.jumps);
  founders = c.self.invariant.founders;
}
