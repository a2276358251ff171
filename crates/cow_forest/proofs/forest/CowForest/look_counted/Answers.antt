use Rattle.cow_forest.proofs.Words.{◌+◌, ◌*◌, ◌≤◌, sym, subst, ◌∙◌, nodes_of, depth, forest_of}
use Rattle.cow_arena.proofs.WalkLaws.{link_same}
use Rattle.cow_forest.proofs.ContentLaws.{page-found, page-at}
use Rattle.cow_forest.proofs.FrameLaws.{look-of}
use Rattle.cow_forest.proofs.forest.CowForest.look_counted.Goals as goal

pub get-requires : goal.get-requires
get-requires g c = page-found (forest_of c.self.inside) c.self.invariant.store c.args.v.0 c.args.page (rw (← c.self.view_is) at c.requires.page)

pub look_at_counted-requires-clause-page : goal.look_at_counted-requires-clause-page
look_at_counted-requires-clause-page g c =
    (page-at (forest_of c.self.inside) c.self.invariant.store c.args.v.0 c.args.page c.get.result (rw (← c.self.view_is) at c.requires.page) c.get.ensures).page

pub returns-clause-look : goal.returns-clause-look
returns-clause-look g c =
    let here = page-at (forest_of c.self.inside) c.self.invariant.store c.args.v.0 c.args.page c.get.result (rw (← c.self.view_is) at c.requires.page) c.get.ensures in
    rw (← c.self.view_is) (look-of (forest_of c.self.inside) c.self.invariant.store c.args.v.0 c.get.result.0 c.args.page c.look_at_counted.result here c.look_at_counted.ensures.look)

pub returns-clause-cost : goal.returns-clause-cost
returns-clause-cost g c = rw (← c.self.view_is) (λ most k m is.
    let same = link_same (sym c.get.ensures ∙ is) in
    subst (λ j. c.look_at_counted.new.steps ≤ c.args.steps.now + depth (nodes_of c.self.inside.arena) c.self.inside.arena.lists j * most) same
    (c.look_at_counted.ensures.cost most m))
