use Rattle.std.proofs.Common.{◌∙◌, sym, ap, subst, arith}
use Rattle.std.specs.Prelude.{IsSome}
use Rattle.vm_model.specs.Contents.Content.{Content, IsGood, pages_of}
use Rattle.source_vm.proofs.EvictLaws.{cleared-nothing, cleared-step, cleared-end, count-cleared, IsGood-cleared, pages_of-cleared}
use Rattle.source_vm.proofs.ranges.evict_range.Goals as goal

pub loop-page-init : goal.loop-page-init
loop-page-init g c = record {
  order = omega arith;
  inside = c.requires.order;
  cleared = cleared-nothing c.args.backing.now _ c.args.v.0 c.args.first;
  room = c.requires.room;
}

pub next_held_below-requires : goal.next_held_below-requires
next_held_below-requires g c =
    subst (λ count. IsSome (count c.args.v.0)) (sym (count-cleared _ _ _ _ _ _ c.loop-page.invariant.cleared)) c.requires.vmo

pub evict_page-requires-clause-good : goal.evict_page-requires-clause-good
evict_page-requires-clause-good g c =
    subst IsGood (sym c.loop-page.invariant.cleared) (IsGood-cleared c.args.backing.now _ c.args.v.0 c.args.first c.loop-page.from c.requires.good)

pub evict_page-requires-clause-page : goal.evict_page-requires-clause-page
evict_page-requires-clause-page g c =
    let same = ap (λ (d : Content). pages_of d c.args.v.0) c.loop-page.invariant.cleared
    ∙ pages_of-cleared c.args.backing.now _ c.args.v.0 c.args.first c.loop-page.from c.args.v.0 in
    omega (arith, same, c.requires.pages, c.in-Some.ensures.below)

pub loop-page-preserved : goal.loop-page-preserved
loop-page-preserved g c =
    let found = c.in-Some.ensures in
    let inv = c.loop-page.invariant in
    record {
      order = omega (arith, found.order, inv.order);
      inside = omega (arith, found.below);
      cleared = c.evict_page.ensures.content ∙ cleared-step c.args.backing.now _ _ c.args.v.0 c.args.first c.loop-page.from c.in-Some.page inv.cleared
          inv.order found.order found.gap;
      room = omega (arith, inv.room, c.evict_page.ensures.spare, found.order, found.below);
    }

pub returns : goal.returns
returns g c =
    cleared-end c.args.backing.now _ _ c.args.v.0 c.args.first c.loop-page.from c.args.end c.loop-page.invariant.cleared
    c.loop-page.invariant.order c.in_default.ensures c.loop-page.invariant.inside
