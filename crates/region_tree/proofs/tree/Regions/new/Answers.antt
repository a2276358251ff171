use Rattle.region_tree.proofs.TreeLaws.{IsTree-none}
use Rattle.region_tree.proofs.tree.Regions.new.Goals as goal

pub invariant_of-result : goal.invariant_of-result
invariant_of-result c = IsTree-none _ _ c.new.ensures.values c.new-2.ensures.extents
