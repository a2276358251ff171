use Rattle.std.proofs.Common.{sym, arith}
use Rattle.mapping_set.specs.Tables.{table_of}
use Rattle.region_tree.specs.Tree.{regions_of, spaces_of}
use Rattle.region_ops.specs.Spaces.{with_spaces}
use Rattle.region_ops.proofs.PlaceLaws.{Step-refused, free_some, free_inside, free_end, free_apart, allocate_done, allocate_lacks}
use Rattle.region_ops.proofs.allocating.allocate.Goals as goal

pub returns-in-Err : goal.returns-in-Err
returns-in-Err c = λ s.
    Step-refused (with_spaces s (spaces_of (regions_of c.args.regions.now) (table_of c.args.maps.now))) _ _ (sym (c.in-Err.ensures c.args.name c.requires.name s))

pub allocate_below-requires-clause-some : goal.allocate_below-requires-clause-some
allocate_below-requires-clause-some c = rw c.page_count.ensures (free_some (spaces_of (regions_of c.args.regions.now) (table_of c.args.maps.now)) _ _ c.live_region-above.ensures.region _ _ c.in-Ok.ensures.1.free)

pub allocate_below-requires-clause-inside : goal.allocate_below-requires-clause-inside
allocate_below-requires-clause-inside c = rw c.page_count.ensures (free_inside (spaces_of (regions_of c.args.regions.now) (table_of c.args.maps.now)) _ _ c.live_region-above.ensures.region _ _ c.in-Ok.ensures.1.free)

pub allocate_below-requires-clause-apart : goal.allocate_below-requires-clause-apart
allocate_below-requires-clause-apart c = rw c.page_count.ensures (free_apart (spaces_of (regions_of c.args.regions.now) (table_of c.args.maps.now)) _ _ c.live_region-above.ensures.region _ _ c.in-Ok.ensures.1.free)

pub overflow_mul-result : goal.overflow_mul-result
overflow_mul-result c =
    omega (arith, free_end (spaces_of (regions_of c.args.regions.now) (table_of c.args.maps.now)) _ _ c.live_region-above.ensures.region _ _ c.in-Ok.ensures.1.free, c.live_region-above.ensures.end)

pub returns-in-Ok-allocate_below : goal.returns-in-Ok-allocate_below
returns-in-Ok-allocate_below c = λ s.
    allocate_done (with_spaces s (spaces_of (regions_of c.args.regions.now) (table_of c.args.maps.now))) c.args.name c.args.parent c.args.offset c.args.len c.args.flags c.args.caps
    (sym (c.in-Ok.ensures.0 c.args.name c.requires.name s)) _ c.in-Ok.ensures.1 _ (rw c.page_count.ensures at c.in-Ok-allocate_below.ensures.ok)

pub returns-in-Err-allocate_below : goal.returns-in-Err-allocate_below
returns-in-Err-allocate_below c = λ s.
    allocate_lacks (with_spaces s (spaces_of (regions_of c.args.regions.now) (table_of c.args.maps.now))) c.args.name c.args.parent c.args.offset c.args.len c.args.flags c.args.caps
    (sym (c.in-Ok.ensures.0 c.args.name c.requires.name s)) _ c.in-Err-allocate_below.ensures.err
