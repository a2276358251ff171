use Rattle.cow_forest.proofs.Words.{ap, sym, ◌∙◌, arith, is_some, forest_of, tree, frame_from}
use Rattle.cow_forest.proofs.FrameLaws.{shown-taken}
use Rattle.cow_forest.proofs.LeavingLaws.{node-found}
use Rattle.cow_forest.proofs.ViewingLaws.{link-owned, link-row, lesser-viewer}
use Rattle.cow_forest.proofs.ElderLaws.{frame-views, elder-late, elder-parted}
use Rattle.cow_forest.proofs.forest.CowForestPageStore.lesser_viewer.Goals as goal

pub backlink-link-requires : goal.backlink-link-requires
backlink-link-requires c = shown-taken (forest_of c.self.inside) c.self.invariant.store c.args.tag.0 (rw (← c.self.view_is) at c.requires)

pub get-node-requires : goal.get-node-requires
get-node-requires c = link-owned _ c.self.invariant.store c.args.tag.0 c.backlink-link.result (rw (← c.self.view_is) at c.requires) c.backlink-link.ensures

pub elder_for-requires : goal.elder_for-requires
elder_for-requires c = ap is_some (link-row _ c.self.invariant.store c.args.tag.0 c.backlink-link.result c.get-node.result (rw (← c.self.view_is) at c.requires) c.backlink-link.ensures c.get-node.ensures).row.at

pub lesser_koid_of-requires-clause-row : goal.lesser_koid_of-requires-clause-row
lesser_koid_of-requires-clause-row c = (c.args.tag.0, link-row _ c.self.invariant.store c.args.tag.0 c.backlink-link.result c.get-node.result (rw (← c.self.view_is) at c.requires) c.backlink-link.ensures c.get-node.ensures)

pub returns-in_default-clause-some : goal.returns-in_default-clause-some
returns-in_default-clause-some c =
    let it = c.lesser_koid_of.ensures c.args.tag.0 (link-row _ c.self.invariant.store c.args.tag.0 c.backlink-link.result c.get-node.result (rw (← c.self.view_is) at c.requires) c.backlink-link.ensures c.get-node.ensures) in
    rw (← c.self.view_is) (lesser-viewer _ c.self.invariant.store c.args.tag.0 it.list it.viewers c.args.v c.lesser_koid_of.result it.answer_is).0

pub returns-in_default-clause-none : goal.returns-in_default-clause-none
returns-in_default-clause-none c =
    let it = c.lesser_koid_of.ensures c.args.tag.0 (link-row _ c.self.invariant.store c.args.tag.0 c.backlink-link.result c.get-node.result (rw (← c.self.view_is) at c.requires) c.backlink-link.ensures c.get-node.ensures) in
    rw (← c.self.view_is) (lesser-viewer _ c.self.invariant.store c.args.tag.0 it.list it.viewers c.args.v c.lesser_koid_of.result it.answer_is).1

-- ---- the elder founder alone may have a lesser koid

pub returns-then-v-elder-clause-none : goal.returns-then-v-elder-clause-none
returns-then-v-elder-clause-none c =
    let row = link-row _ c.self.invariant.store c.args.tag.0 c.backlink-link.result c.get-node.result (rw (← c.self.view_is) at c.requires) c.backlink-link.ensures c.get-node.ensures in
    rw (← c.self.view_is)
    (elder-late _ c.self.invariant.store c.self.inside.founders c.self.invariant.founders c.get-node.result.0 c.backlink-link.result.page c.args.tag.0 row c.args.v c.in-Some.elder
    c.in-Some.ensures (omega (arith, c.if-v-elder.true)))

pub shows-requires-clause-node : goal.shows-requires-clause-node
shows-requires-clause-node c = node-found (forest_of c.self.inside) c.self.invariant.store c.in-Some.elder.0 c.look-leaf.result c.look-leaf.ensures

pub returns-then-shows-clause-some : goal.returns-then-shows-clause-some
returns-then-shows-clause-some c =
    let shown = ap (λ o. frame_from (tree (forest_of c.self.inside)) o c.backlink-link.result.page) c.look-leaf.ensures ∙ c.shows.ensures.0 c.if-shows.true in
    rw (← c.self.view_is) (omega (arith, c.if-v-elder.false), frame-views _ c.self.invariant.store c.in-Some.elder.0 c.backlink-link.result.page c.args.tag.0 shown)

pub returns-else-shows-clause-none : goal.returns-else-shows-clause-none
returns-else-shows-clause-none c =
    let row = link-row _ c.self.invariant.store c.args.tag.0 c.backlink-link.result c.get-node.result (rw (← c.self.view_is) at c.requires) c.backlink-link.ensures c.get-node.ensures in
    rw (← c.self.view_is)
    (elder-parted _ c.self.invariant.store c.self.inside.founders c.self.invariant.founders c.get-node.result.0 c.backlink-link.result.page c.args.tag.0 row c.args.v c.in-Some.elder
    c.in-Some.ensures
    (λ shown. absurd (let is = c.shows.ensures.1 (ap (λ o. frame_from (tree (forest_of c.self.inside)) o c.backlink-link.result.page) (sym c.look-leaf.ensures) ∙ shown) in
    let no = c.if-shows.false in cc)))
