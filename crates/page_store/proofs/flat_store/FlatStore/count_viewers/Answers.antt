use Rattle.std.proofs.Common.{refl, sym, ◌∙◌, arith}
use Rattle.vm_base.proofs.SearchLaws.{count_below_le, count_below-zero}
use Rattle.vm_model.specs.Contents.Content.{views}
use Rattle.page_store.specs.Flat.{flat_of, flat_content}
use Rattle.page_store.proofs.FrameLaws.{viewers-next, viewers-end, viewer_low}
use Rattle.page_store.proofs.flat_store.FlatStore.count_viewers.Goals as goal

pub loop-koid-init : goal.loop-koid-init
loop-koid-init c = record { low = omega arith; count = sym (count_below-zero (views (flat_content (flat_of c.self.inside)) c.args.tag.0)) }

pub loop-koid-preserved : goal.loop-koid-preserved
loop-koid-preserved c = record {
  low = omega (arith, viewer_low (flat_of c.self.inside) c.self.invariant.flat c.args.tag c.loop-koid.from c.in-Some.koid c.in-Some.ensures.next);
  count = omega (arith, c.loop-koid.invariant.count, viewers-next (flat_of c.self.inside) c.self.invariant.flat c.args.tag c.loop-koid.from c.in-Some.koid c.in-Some.ensures.next);
}

pub returns : goal.returns
returns c = rw (← c.self.view_is) (c.loop-koid.invariant.count
    ∙ viewers-end (flat_of c.self.inside) c.self.invariant.flat c.args.tag c.loop-koid.from c.loop-koid.invariant.low c.in_default.ensures.next)

pub overflow_add-count : goal.overflow_add-count
overflow_add-count c = omega (
  arith,
  c.loop-koid.invariant.count,
  count_below_le c.loop-koid.from (views (flat_content (flat_of c.self.inside)) c.args.tag.0),
  (c.in-Some.ensures.next.least c.in-Some.koid refl).0,
  viewer_low (flat_of c.self.inside) c.self.invariant.flat c.args.tag c.loop-koid.from c.in-Some.koid c.in-Some.ensures.next,
)

pub overflow_add-from : goal.overflow_add-from
overflow_add-from c = omega (arith, viewer_low (flat_of c.self.inside) c.self.invariant.flat c.args.tag c.loop-koid.from c.in-Some.koid c.in-Some.ensures.next)

pub loop-koid-smaller : goal.loop-koid-smaller
loop-koid-smaller c = omega (
  arith,
  (c.in-Some.ensures.next.least c.in-Some.koid refl).0,
  viewer_low (flat_of c.self.inside) c.self.invariant.flat c.args.tag c.loop-koid.from c.in-Some.koid c.in-Some.ensures.next,
)
