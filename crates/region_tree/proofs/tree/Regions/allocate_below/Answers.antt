use Rattle.std.proofs.Common.{Some, sym, ap, subst, ◌∙◌, arith}
use Rattle.vm_base.specs.Entries.{with_key}
use Rattle.vm_model.specs.Space.Regions.{region_below}
use Rattle.balanced_tree.specs.Pairs.{with_pair}
use Rattle.pair_map.specs.Maps.{IsOpen}
use Rattle.region_tree.specs.Tree.{regions_of, extent_for}
use Rattle.region_tree.proofs.PlaceLaws.{seen, apart-open}
use Rattle.vm_model.proofs.RegionLaws.{region_of-at}
use Rattle.region_tree.proofs.TreeLaws.{put-seen, inside-is, inside-end, IsTree-child, IsTree-same}
use Rattle.region_tree.proofs.tree.Regions.allocate_below.Goals as goal

pub insert-requires-2-clause-end : goal.insert-requires-2-clause-end
insert-requires-2-clause-end c =
    let given = c.requires.above in
    let inside = inside-is (regions_of c.args.self.now) c.args.parent.0 c.args.first _ c.args.above given c.requires.inside in
    omega (arith, inside-end _ _ (seen c.self.view_is c.self.invariant) c.args.parent.0 c.args.first _ c.args.above given c.requires.live inside)

pub insert-requires-2-clause-free : goal.insert-requires-2-clause-free
insert-requires-2-clause-free c =
    subst (λ m. IsOpen (m c.args.parent.0) c.args.first c.args.count) (sym c.reserve-2.ensures.extents)
    (apart-open _ _ (seen c.self.view_is c.self.invariant) c.args.parent.0 c.args.first c.args.count c.requires.apart)

pub invariant_of-self-2 : goal.invariant_of-self-2
invariant_of-self-2 c =
    let new = region_below c.args.parent.0 c.args.above c.args.first c.args.count c.args.caps.0 in
    let given = c.requires.above in
    IsTree-same (put-seen c.self.view_is c.args.name.0 new c.reserve.ensures.values c.insert.ensures.values)
    (c.insert-2.ensures.extents ∙ ap (λ m. with_pair m c.args.parent.0 c.args.first (Some (extent_for c.args.name.0 new))) c.reserve-2.ensures.extents)
    (IsTree-child _ _ (seen c.self.view_is c.self.invariant) c.args.name.0 c.args.parent.0 c.args.first c.args.count c.args.caps.0 c.args.above (omega arith)
    c.requires.name given c.requires.live c.requires.some (inside-is (regions_of c.args.self.now) c.args.parent.0 c.args.first _ c.args.above given c.requires.inside) c.requires.apart)

pub returns-clause-ok : goal.returns-clause-ok
returns-clause-ok c =
    let given = c.requires.above in
    put-seen c.self.view_is c.args.name.0 (region_below c.args.parent.0 c.args.above c.args.first c.args.count c.args.caps.0) c.reserve.ensures.values c.insert.ensures.values
    ∙ ap (λ above. with_key (regions_of c.args.self.now) c.args.name.0 (region_below c.args.parent.0 above c.args.first c.args.count c.args.caps.0))
    (sym (region_of-at (regions_of c.args.self.now) c.args.parent.0 c.args.above given))
