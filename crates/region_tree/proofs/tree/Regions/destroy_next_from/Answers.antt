use Rattle.region_tree.proofs.BelowLaws.{dead-above}
use Rattle.region_tree.proofs.TreeLaws.{within-live}
use Rattle.region_tree.proofs.tree.Regions.destroy_next_from.Goals as goal

pub live-dying-requires : goal.live-dying-requires
live-dying-requires c = within-live _ (c.childless-leaf.ensures.within _ _ _ c.in-Some.ensures)

pub start_above-next-requires : goal.start_above-next-requires
start_above-next-requires c =
    dead-above _ _ _ _ _ _ (c.childless-leaf.ensures.within _ _ _ c.in-Some.ensures) c.destroy_childless.ensures c.live-dying.result c.live-dying.ensures.region
