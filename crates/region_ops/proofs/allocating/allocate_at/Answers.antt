use Rattle.std.proofs.Common.{◌∙◌, ◌/◌, ap, arith}
use Rattle.vm_base.specs.Pages.{rounded}
use Rattle.vm_base.specs.declared.limits.TheConstants.{PAGE}
use Rattle.vm_base.specs.Entries.{with_key}
use Rattle.vm_model.specs.declared.space.Region.{Region}
use Rattle.vm_model.specs.Space.Regions.{region_below}
use Rattle.vm_model.proofs.RegionLaws.{region_of-at, region_bounds}
use Rattle.region_tree.specs.Tree.{regions_of}
use Rattle.region_tree.proofs.NotedLaws.{apart-vacant, AreNoted-allocated}
use Rattle.region_ops.proofs.PlaceLaws.{free_some, free_inside, free_end, free_apart, free_clear}
use Rattle.region_ops.proofs.allocating.allocate_at.Goals as goal

pub allocate_below-requires-clause-some : goal.allocate_below-requires-clause-some
allocate_below-requires-clause-some c = rw c.page_count-count.ensures (free_some _ _ _ c.requires.above _ _ c.requires.free)

pub allocate_below-requires-clause-inside : goal.allocate_below-requires-clause-inside
allocate_below-requires-clause-inside c = rw c.page_count-count.ensures (free_inside _ _ _ c.requires.above _ _ c.requires.free)

pub allocate_below-requires-clause-apart : goal.allocate_below-requires-clause-apart
allocate_below-requires-clause-apart c = rw c.page_count-count.ensures (free_apart _ _ _ c.requires.above _ _ c.requires.free)

pub hold_place-requires-clause-some : goal.hold_place-requires-clause-some
hold_place-requires-clause-some c = rw c.page_count-count.ensures (free_some _ _ _ c.requires.above _ _ c.requires.free)

pub hold_place-requires-clause-end : goal.hold_place-requires-clause-end
hold_place-requires-clause-end c =
    omega (arith, free_end _ _ _ c.requires.above _ _ c.requires.free, (region_bounds _ c.requires.good _ _ c.requires.above c.requires.live).0)

pub hold_place-requires-clause-clear : goal.hold_place-requires-clause-clear
hold_place-requires-clause-clear c = record {
  apart = rw (c.in-Ok.ensures.places, c.page_count-count.ensures) (apart-vacant _ c.requires.good _ c.requires.noted _ _ _ _ (region_bounds _ c.requires.good _ _ c.requires.above c.requires.live).1
      (free_apart _ _ _ c.requires.above _ _ c.requires.free));
  bare = rw (c.in-Ok.ensures.table, c.page_count-count.ensures) (free_clear _ _ _ c.requires.above _ _ c.requires.free);
}

pub returns-clause-noted : goal.returns-clause-noted
returns-clause-noted c =
    AreNoted-allocated _ _ c.requires.good _ _ c.requires.noted c.args.name.0 c.args.request.parent.0 _ _ c.args.request.caps.0 c.args.above
    (region_bounds _ c.requires.good _ _ c.requires.above c.requires.live).1 (free_apart _ _ _ c.requires.above _ _ c.requires.free)
    (free_some _ _ _ c.requires.above _ _ c.requires.free) c.requires.name
    (rw c.page_count-count.ensures at c.in-Ok-allocate_below.ensures.ok
    ∙ ap (λ (r : Region). with_key (regions_of c.args.regions.now) c.args.name.0 (region_below c.args.request.parent.0 r c.args.first (rounded c.args.request.len / PAGE) c.args.request.caps.0)) (region_of-at _ _ _ c.requires.above))
    (rw (c.in-Ok.ensures.places, c.page_count-count.ensures) at c.hold_place.ensures.places)
