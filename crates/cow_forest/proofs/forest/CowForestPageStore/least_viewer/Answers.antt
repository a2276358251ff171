use Rattle.cow_forest.proofs.Words.{forest_of}
use Rattle.cow_forest.proofs.FrameLaws.{shown-taken}
use Rattle.cow_forest.proofs.ViewingLaws.{link-owned, link-row, least-viewer}
use Rattle.cow_forest.proofs.forest.CowForestPageStore.least_viewer.Goals as goal

pub backlink-link-requires : goal.backlink-link-requires
backlink-link-requires c = shown-taken (forest_of c.self.inside) c.self.invariant.store c.args.tag.0 (rw (← c.self.view_is) at c.requires)

pub get-node-requires : goal.get-node-requires
get-node-requires c = link-owned _ c.self.invariant.store c.args.tag.0 c.backlink-link.result (rw (← c.self.view_is) at c.requires) c.backlink-link.ensures

pub least_koid_of-requires-clause-row : goal.least_koid_of-requires-clause-row
least_koid_of-requires-clause-row c = (c.args.tag.0, link-row _ c.self.invariant.store c.args.tag.0 c.backlink-link.result c.get-node.result (rw (← c.self.view_is) at c.requires) c.backlink-link.ensures c.get-node.ensures)

pub returns : goal.returns
returns c =
    let it = c.least_koid_of.ensures c.args.tag.0 (link-row _ c.self.invariant.store c.args.tag.0 c.backlink-link.result c.get-node.result (rw (← c.self.view_is) at c.requires) c.backlink-link.ensures c.get-node.ensures) in
    rw (← c.self.view_is) (least-viewer _ c.self.invariant.store c.args.tag.0 it.list it.viewers c.least_koid_of.result it.least)
