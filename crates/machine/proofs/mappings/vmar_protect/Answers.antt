use Rattle.std.proofs.Common.{refl}
use Rattle.region_tree.specs.Tree.{regions_of}
use Rattle.machine.specs.inside.Fields.{state_in}
use Rattle.machine.proofs.ChangeLaws.{part_changed}
use Rattle.machine.proofs.RegionLaws.{mapped_counted}
use Rattle.machine.proofs.mappings.vmar_protect.Goals as goal

pub returns-in-Ok-protect_in : goal.returns-in-Ok-protect_in
returns-in-Ok-protect_in c = λ content. record {
  step = c.in-Ok-protect_in.ensures.step (state_in content c.args.tables.now);
  changes = part_changed (regions_of c.args.tables.now.regions) c.args.range.region.0 c.in-Ok.ensures.0 c.args.range.addr c.args.range.len _ _ c.page_of-first.ensures c.page_count-count.ensures;
  counted = mapped_counted c.requires c.in-Ok-protect_in.ensures.mapped (rw c.in-Ok-protect_in.ensures.places c.requires.noted);
  name = tt;
}

pub returns-in-Err-protect_in : goal.returns-in-Err-protect_in
returns-in-Err-protect_in c = λ content. record {
  step = c.in-Err-protect_in.ensures.step (state_in content c.args.tables.now);
  changes = refl;
  counted = mapped_counted c.requires c.in-Err-protect_in.ensures.mapped (rw c.in-Err-protect_in.ensures.places c.requires.noted);
  name = tt;
}
