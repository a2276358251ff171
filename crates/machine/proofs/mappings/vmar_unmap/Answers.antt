use Rattle.std.proofs.Common.{refl}
use Rattle.region_tree.specs.Tree.{regions_of}
use Rattle.machine.proofs.ChangeLaws.{part_changed}
use Rattle.machine.proofs.HandleLaws.{all_well_in}
use Rattle.machine.proofs.RegionLaws.{handles_does}
use Rattle.machine.proofs.mappings.vmar_unmap.Goals as goal

pub unmap_in-requires-clause-well : goal.unmap_in-requires-clause-well
unmap_in-requires-clause-well g c = all_well_in c.requires

pub returns-in-Ok-unmap_in : goal.returns-in-Ok-unmap_in
returns-in-Ok-unmap_in g c =
    handles_does c.requires c.in-Ok-unmap_in.ensures.does (c.in-Ok-unmap_in.ensures.noted c.requires.counted.noted)
    (part_changed (regions_of c.args.tables.now.regions) c.args.range.region.0 c.in-Ok.ensures.0 c.args.range.addr c.args.range.len _ _ c.page_of-first.ensures c.page_count-count.ensures) tt

pub returns-in-Err-unmap_in : goal.returns-in-Err-unmap_in
returns-in-Err-unmap_in g c = handles_does c.requires c.in-Err-unmap_in.ensures.does (c.in-Err-unmap_in.ensures.noted c.requires.counted.noted) refl tt
