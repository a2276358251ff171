use Rattle.std.proofs.Common.{Some, arith}
use Rattle.source_model.specs.State.{is_absent}
use Rattle.source_vm.proofs.AbsentLaws.{absent_first, absent_next, absent_last}
use Rattle.source_vm.proofs.ranges.count_absent.Goals as goal

pub loop-page-init : goal.loop-page-init
loop-page-init g c = record {
  order = omega arith;
  inside = c.requires.order;
  counted = absent_first (is_absent (g.P.PageStore.content c.args.store.now) (Some c.args.backing.now) c.args.v.0) c.args.first c.args.end c.requires.order;
}

pub overflow_sub-absent-in-Some : goal.overflow_sub-absent-in-Some
overflow_sub-absent-in-Some g c =
    let found = c.in-Some.ensures in
    let inv = c.loop-page.invariant in
    omega (
      arith,
      (absent_next (g.P.PageStore.content c.args.store.now) c.args.backing.now c.args.v.0 c.args.first c.args.end c.requires.seen
          c.loop-page.from c.in-Some.page c.loop-page.absent inv.order found inv.counted).0,
    )

pub loop-page-preserved : goal.loop-page-preserved
loop-page-preserved g c =
    let found = c.in-Some.ensures in
    let inv = c.loop-page.invariant in
    record {
      order = omega (arith, found.order, inv.order);
      inside = omega (arith, found.below);
      counted = (absent_next (g.P.PageStore.content c.args.store.now) c.args.backing.now c.args.v.0 c.args.first c.args.end c.requires.seen
          c.loop-page.from c.in-Some.page c.loop-page.absent inv.order found inv.counted).1;
    }

pub returns : goal.returns
returns g c =
    let inv = c.loop-page.invariant in
    absent_last (g.P.PageStore.content c.args.store.now) c.args.backing.now c.args.v.0 c.args.first c.args.end c.requires.seen
    c.loop-page.from c.loop-page.absent inv.order inv.inside c.in_default.ensures inv.counted
