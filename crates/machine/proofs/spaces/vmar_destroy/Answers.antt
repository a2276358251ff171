use Rattle.region_tree.specs.Tree.{regions_of}
use Rattle.machine.proofs.ChangeLaws.{whole_changed}
use Rattle.machine.proofs.HandleLaws.{all_well_in}
use Rattle.machine.proofs.RegionLaws.{handles_does}
use Rattle.machine.proofs.spaces.vmar_destroy.Goals as goal

pub destroy_in-requires-clause-well : goal.destroy_in-requires-clause-well
destroy_in-requires-clause-well g c = all_well_in c.requires

pub returns : goal.returns
returns g c =
    handles_does c.requires c.destroy_in.ensures.does (c.destroy_in.ensures.noted c.requires.counted.noted)
    (whole_changed (regions_of c.args.tables.now.regions) c.args.region.0 c.in-Ok.ensures.0) tt
