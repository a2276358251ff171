use Rattle.std.proofs.Common.{refl, arith}
use Rattle.vm_model.specs.Space.Regions.{root_region}
use Rattle.region_tree.proofs.PlaceLaws.{seen}
use Rattle.region_tree.proofs.TreeLaws.{put-seen, IsTree-root, IsTree-same}
use Rattle.region_tree.proofs.tree.Regions.add_root.Goals as goal

pub returns-clause-ok : goal.returns-clause-ok
returns-clause-ok c = put-seen c.self.view_is c.args.name.0 (root_region c.args.name.0) c.reserve.ensures.values c.insert.ensures.values

pub invariant_of-self-2 : goal.invariant_of-self-2
invariant_of-self-2 c =
    IsTree-same (put-seen c.self.view_is c.args.name.0 (root_region c.args.name.0) c.reserve.ensures.values c.insert.ensures.values) refl
    (IsTree-root _ _ (seen c.self.view_is c.self.invariant) c.args.name.0 (omega arith) c.requires)
