use Rattle.cow_forest.proofs.Words.{arith, forest_of}
use Rattle.cow_forest.proofs.ContentLaws.{page-found, page-at}
use Rattle.cow_forest.proofs.RangeLaws.{zero-run}
use Rattle.cow_forest.proofs.ZeroedLaws.{are-ranged, content-ranged}
use Rattle.cow_forest.proofs.forest.CowForestPageStore.zero.Goals as goal

pub get-node-requires : goal.get-node-requires
get-node-requires c = page-found (forest_of c.self.inside) c.self.invariant.store c.args.v.0 c.args.page (rw (← c.self.view_is) at c.requires.page)

pub zero_by_jumps-requires-clause-page : goal.zero_by_jumps-requires-clause-page
zero_by_jumps-requires-clause-page c = (page-at (forest_of c.self.inside) c.self.invariant.store c.args.v.0 c.args.page _ (rw (← c.self.view_is) at c.requires.page) c.get-node.ensures).page

pub invariant_of-self : goal.invariant_of-self
invariant_of-self c = are-ranged c.self.inside c.self.invariant c.args.v.0 _ c.get-node.ensures _ _ _ _ c.zero_by_jumps.ensures.zeroed

pub returns-clause-zero : goal.returns-clause-zero
returns-clause-zero c =
    rw (← c.self.view_is) (content-ranged _ c.self.invariant.store c.args.v.0 _ c.get-node.ensures _ _ _ _ c.zero_by_jumps.ensures.zeroed (zero-run _ _ _ _ c.zero_by_jumps.ensures.zero (λ q low less. absurd (omega arith))))
