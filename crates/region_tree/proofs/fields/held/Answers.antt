use Rattle.pair_map.specs.Maps.{values_of}
use Rattle.region_tree.proofs.TreeLaws.{live-found, live-not_none}
use Rattle.region_tree.proofs.fields.held.Goals as goal

pub unreachable-requires : goal.unreachable-requires
unreachable-requires c = live-not_none (values_of c.args.regions.now 0) c.args.name.0 _ c.requires c.find.ensures c.in-None.is

pub returns-clause-live : goal.returns-clause-live
returns-clause-live c = live-found (values_of c.args.regions.now 0) c.args.name.0 _ c.in-Some.region c.requires c.find.ensures c.in-Some.is
