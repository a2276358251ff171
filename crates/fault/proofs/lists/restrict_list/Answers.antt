use Rattle.std.proofs.Common.{Bool, is_some, refl, ap, subst, ◌∙◌}
use Rattle.slab.specs.Slab.{get, slab_len}
use Rattle.fault.specs.inside.Lists.{shown_in, read_only}
use Rattle.fault.proofs.LinkLaws.{links_written, len-written}
use Rattle.fault.proofs.ChangeLaws.{AreRestricted, AreRestricted-start, AreRestricted-there, AreRestricted-next, AreRestricted-less, AreRestricted-end}
use Rattle.fault.proofs.lists.restrict_list.Goals as goal

pub loop-at-init : goal.loop-at-init
loop-at-init c = record { restricted = AreRestricted-start (get c.args.links.now) c.requires.lists (slab_len c.args.links.now) c.requires.listed c.requires.v c.requires.p c.args.first c.requires.is; len = refl; capacity = refl }

pub index_mut-member-requires : goal.index_mut-member-requires
index_mut-member-requires c =
    AreRestricted-there (get c.args.links.now) c.requires.lists (slab_len c.args.links.now) c.requires.listed c.requires.v c.requires.p c.args.first c.requires.is (get c.loop-at.links) c.in-Some.link
    (subst (AreRestricted (get c.args.links.now) (get c.loop-at.links) (shown_in (get c.args.links.now) c.args.first)) c.in-Some.is c.loop-at.invariant.restricted)

pub loop-at-smaller : goal.loop-at-smaller
loop-at-smaller c =
    rw c.in-Some.is (AreRestricted-less (get c.args.links.now) c.requires.lists (slab_len c.args.links.now) c.requires.listed c.requires.v c.requires.p c.args.first c.requires.is (get c.loop-at.links) c.in-Some.link
    (subst (AreRestricted (get c.args.links.now) (get c.loop-at.links) (shown_in (get c.args.links.now) c.args.first)) c.in-Some.is c.loop-at.invariant.restricted)
    c.index_mut-member.result.now c.index_mut-member.ensures.value)

pub loop-at-preserved : goal.loop-at-preserved
loop-at-preserved c = record {
  restricted = AreRestricted-next (get c.args.links.now) c.requires.lists (slab_len c.args.links.now) c.requires.listed c.requires.v c.requires.p c.args.first c.requires.is (get c.loop-at.links) c.in-Some.link
      (subst (AreRestricted (get c.args.links.now) (get c.loop-at.links) (shown_in (get c.args.links.now) c.args.first)) c.in-Some.is c.loop-at.invariant.restricted)
      c.index_mut-member.result.now _ c.index_mut-member.ensures.value
      (links_written c.loop-at.links c.in-Some.link (read_only c.index_mut-member.result.now) (ap {B = Bool} is_some c.index_mut-member.ensures.value));
  len = len-written c.loop-at.links c.in-Some.link _ c.index_mut-member.result.now c.index_mut-member.ensures.value ∙ c.loop-at.invariant.len;
  capacity = c.loop-at.invariant.capacity;
}

pub returns-clause-links : goal.returns-clause-links
returns-clause-links c = AreRestricted-end (get c.args.links.now) c.requires.lists (slab_len c.args.links.now) c.requires.listed c.requires.v c.requires.p c.args.first c.requires.is (get c.loop-at.links) c.loop-at.at c.in_default.is c.loop-at.invariant.restricted
