use Rattle.cow_forest.proofs.Words.{forest_of}
use Rattle.cow_forest.proofs.ContentLaws.{page-found, page-at}
use Rattle.cow_forest.proofs.ViewingLaws.{viewers-counted}
use Rattle.cow_forest.proofs.forest.CowForestPageStore.viewers.Goals as goal

pub get-requires : goal.get-requires
get-requires c = page-found (forest_of c.self.inside) c.self.invariant.store c.args.v.0 c.args.page (rw (← c.self.view_is) at c.requires.page)

pub viewer_count_of-requires-clause-page : goal.viewer_count_of-requires-clause-page
viewer_count_of-requires-clause-page c =
    (page-at (forest_of c.self.inside) c.self.invariant.store c.args.v.0 c.args.page c.get.result (rw (← c.self.view_is) at c.requires.page) c.get.ensures).page

pub returns : goal.returns
returns c =
    let f = forest_of c.self.inside in
    let here = page-at f c.self.invariant.store c.args.v.0 c.args.page c.get.result (rw (← c.self.view_is) at c.requires.page) c.get.ensures in
    rw (← c.self.view_is)
    (viewers-counted f c.self.invariant.store c.args.v.0 c.get.result.0 c.args.page c.viewer_count_of.result here.node c.viewer_count_of.ensures)
