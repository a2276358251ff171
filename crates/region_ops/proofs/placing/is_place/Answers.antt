use Rattle.std.proofs.Common.{arith}
use Rattle.mapping_set.specs.Tables.{table_of}
use Rattle.region_tree.specs.Tree.{regions_of, spaces_of}
use Rattle.region_ops.proofs.PlaceLaws.{place_bounds}
use Rattle.region_ops.proofs.placing.is_place.Goals as goal

pub returns-then-first-end : goal.returns-then-first-end
returns-then-first-end c = (
  λ yes. absurd cc,
  λ place.
      let bounds = place_bounds (spaces_of (regions_of c.args.regions.now) (table_of c.args.maps.now)) c.args.name.0 c.args.above c.requires.above _ _ _ _ _ place in
      absurd (omega (arith, bounds.0, bounds.1, c.longest.ensures)),
)
