use Rattle.std.proofs.Common.{arith}
use Rattle.pair_map.specs.Maps.{values_of}
use Rattle.mapping_set.proofs.CutLaws.{full-end}
use Rattle.mapping_set.proofs.mapping_set.MappingSet.restrict.Goals as goal

pub overflow_add-end : goal.overflow_add-end
overflow_add-end c = omega (arith, full-end (values_of c.args.self.now.pieces) c.args.root.0 c.args.first c.args.count c.requires.full, c.ranges.first.fits)
