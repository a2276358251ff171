use Rattle.std.proofs.Common.{◌∙◌, sym, arith}
use Rattle.source_vm.proofs.EvictLaws.{none_clean-to, none_clean-more}
use Rattle.source_vm.proofs.ranges.first_clean.Goals as goal

pub returns-then-is_clean : goal.returns-then-is_clean
returns-then-is_clean g c =
    let found = c.in-Some.ensures in
    record {
      order = omega (arith, found.order, c.loop-page.invariant.order);
      below = found.below;
      hit = sym c.is_clean.ensures ∙ c.if-is_clean.true;
      gap = none_clean-to c.args.backing.now (g.P.PageStore.content c.args.store.now) c.args.v.0 c.args.first c.loop-page.from c.in-Some.page
          c.loop-page.invariant.none found.gap;
    }

pub loop-page-preserved : goal.loop-page-preserved
loop-page-preserved g c =
    let found = c.in-Some.ensures in
    record {
      order = omega (arith, found.order, c.loop-page.invariant.order);
      inside = omega (arith, found.below);
      none = none_clean-more c.args.backing.now (g.P.PageStore.content c.args.store.now) c.args.v.0 c.args.first c.loop-page.from c.in-Some.page
          c.loop-page.invariant.none found.gap (sym c.is_clean.ensures ∙ c.if-is_clean.false);
    }

pub returns : goal.returns
returns g c =
    none_clean-to c.args.backing.now (g.P.PageStore.content c.args.store.now) c.args.v.0 c.args.first c.loop-page.from c.args.end
    c.loop-page.invariant.none c.in_default.ensures
