use Rattle.std.proofs.Common.{subst}
use Rattle.std.specs.Option.{option_map}
use Rattle.balanced_tree.specs.Pairs.{IsNext}
use Rattle.pair_map.specs.Maps.{extents_of}
use Rattle.region_tree.proofs.PlaceLaws.{seen}
use Rattle.region_tree.proofs.BelowLaws.{deeper-within, deeper-child, childless-none}
use Rattle.region_tree.proofs.tree.Regions.childless.Goals as goal

pub loop-extent-smaller : goal.loop-extent-smaller
loop-extent-smaller c = deeper-child _ _ c.self.invariant _ _ c.in-Some.extent c.in-Some.ensures.extent

pub loop-extent-preserved : goal.loop-extent-preserved
loop-extent-preserved c = record {
  within = λ above first end within.
      deeper-within _ _ c.self.invariant above first end _ _ c.in-Some.extent c.in-Some.ensures.extent (c.loop-extent.invariant.within above first end within);
}

pub returns-clause-childless : goal.returns-clause-childless
returns-clause-childless c =
    childless-none _ _ (seen c.self.view_is c.self.invariant) _
    (subst (λ o. IsNext (extents_of c.self.inside.children c.loop-extent.leaf.0) 0 (option_map (λ pair. pair.0) o)) c.in_default.is c.next.ensures.next)
