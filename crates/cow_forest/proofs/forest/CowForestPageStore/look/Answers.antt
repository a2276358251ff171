use Rattle.cow_forest.proofs.Words.{forest_of}
use Rattle.cow_forest.proofs.ContentLaws.{page-found, page-at}
use Rattle.cow_forest.proofs.FrameLaws.{look-of}
use Rattle.cow_forest.proofs.forest.CowForestPageStore.look.Goals as goal

pub get-requires : goal.get-requires
get-requires c = page-found (forest_of c.self.inside) c.self.invariant.store c.args.v.0 c.args.page (rw (← c.self.view_is) at c.requires.page)

pub look_at-requires-clause-page : goal.look_at-requires-clause-page
look_at-requires-clause-page c =
    (page-at (forest_of c.self.inside) c.self.invariant.store c.args.v.0 c.args.page c.get.result (rw (← c.self.view_is) at c.requires.page) c.get.ensures).page

pub returns : goal.returns
returns c =
    let here = page-at (forest_of c.self.inside) c.self.invariant.store c.args.v.0 c.args.page c.get.result (rw (← c.self.view_is) at c.requires.page) c.get.ensures in
    rw (← c.self.view_is) (look-of (forest_of c.self.inside) c.self.invariant.store c.args.v.0 c.get.result.0 c.args.page c.look_at.result here c.look_at.ensures)
