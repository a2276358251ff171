use Rattle.std.proofs.Common.{refl, arith}
use Rattle.machine.specs.inside.Fields.{state_in}
use Rattle.machine.proofs.RegionLaws.{mapped_counted, entries_mapped}
use Rattle.machine.proofs.spaces.root_create.Goals as goal

pub returns-in-Ok : goal.returns-in-Ok
returns-in-Ok c = λ content. record {
  step = c.in-Ok.ensures.step (state_in content c.args.tables.now);
  changes = refl;
  counted = mapped_counted c.requires (entries_mapped _ _ refl) c.in-Ok.ensures.noted;
  name = omega arith;
}

pub returns-in-Err : goal.returns-in-Err
returns-in-Err c = λ content. record {
  step = c.in-Err.ensures.step (state_in content c.args.tables.now);
  changes = refl;
  counted = mapped_counted c.requires (entries_mapped _ _ refl) c.in-Err.ensures.noted;
  name = omega arith;
}
