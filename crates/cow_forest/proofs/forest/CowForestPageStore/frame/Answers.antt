use Rattle.cow_forest.proofs.Words.{ap, is_some, forest_of}
use Rattle.cow_forest.proofs.ContentLaws.{page-found, page-at}
use Rattle.cow_forest.proofs.FrameLaws.{frame-from}
use Rattle.cow_forest.proofs.forest.CowForestPageStore.frame.Goals as goal

pub get-requires : goal.get-requires
get-requires c = page-found (forest_of c.self.inside) c.self.invariant.store c.args.v.0 c.args.page (rw (← c.self.view_is) at c.requires.page)

pub shown_frame-requires-clause-node : goal.shown_frame-requires-clause-node
shown_frame-requires-clause-node c =
    let here = page-at (forest_of c.self.inside) c.self.invariant.store c.args.v.0 c.args.page c.get.result (rw (← c.self.view_is) at c.requires.page) c.get.ensures in
    ap is_some here.page.visible.at

pub returns : goal.returns
returns c =
    let here = page-at (forest_of c.self.inside) c.self.invariant.store c.args.v.0 c.args.page c.get.result (rw (← c.self.view_is) at c.requires.page) c.get.ensures in
    rw (← c.self.view_is) (frame-from (forest_of c.self.inside) c.self.invariant.store c.args.v.0 c.get.result.0 c.args.page c.shown_frame.result here c.shown_frame.ensures)
