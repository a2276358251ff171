use Rattle.std.proofs.Common.{refl, inl, ◌∙◌}
use Rattle.region_ops.proofs.DyingLaws.{underway_start, within_live, within_next, within_fewer, within_end}
use Rattle.region_ops.proofs.unmapping.destroy_within.Goals as goal

pub loop-leaf-init : goal.loop-leaf-init
loop-leaf-init c = record { under = underway_start _ _; start = inl refl; table = refl; noted = λ noted. noted }

pub destroy_next_from-requires-clause-live : goal.destroy_next_from-requires-clause-live
destroy_next_from-requires-clause-live c = within_live _ _ _ _ _ c.requires.good c.loop-leaf.invariant.under c.requires.live

pub loop-leaf-smaller : goal.loop-leaf-smaller
loop-leaf-smaller c = within_fewer _ _ _ _ _ c.requires.good c.loop-leaf.invariant.under _ _ c.in-Some.ensures.within c.in-Some.ensures.regions

pub loop-leaf-preserved : goal.loop-leaf-preserved
loop-leaf-preserved c = record {
  under = within_next _ _ _ _ _ c.requires.good c.loop-leaf.invariant.under _ _ c.in-Some.ensures.within c.in-Some.ensures.regions;
  start = c.in-Some.ensures.next;
  table = c.free_in_parent.ensures.table ∙ c.loop-leaf.invariant.table;
  noted = λ noted. c.free_in_parent.ensures.noted _ _ _ c.in-Some.ensures.was c.in-Some.ensures.lived c.in-Some.ensures.regions (c.loop-leaf.invariant.noted noted);
}

pub returns-clause-regions : goal.returns-clause-regions
returns-clause-regions c = rw c.in_default.ensures.regions (within_end _ _ _ _ _ c.requires.good c.loop-leaf.invariant.under c.in_default.ensures.within)

pub returns-clause-noted : goal.returns-clause-noted
returns-clause-noted c = λ noted. rw c.in_default.ensures.regions (c.loop-leaf.invariant.noted noted)
