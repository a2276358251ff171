use Rattle.std.proofs.Common.{◌-◌, arith}
use Rattle.page_store.specs.Flat.{flat_content}
use Rattle.page_store.proofs.HeldLaws.{held_le, held-next, held-end}
use Rattle.page_store.proofs.flat_store.FlatStore.count_held.Goals as goal

pub overflow_add-held : goal.overflow_add-held
overflow_add-held c =
    let inv = c.loop-page.invariant in
    let next = held-next (flat_content c.args.self.now) c.args.v.0 c.loop-page.from c.args.end _ c.in-Some.ensures.some in
    omega (arith, inv.held, next, held_le (flat_content c.args.self.now) c.args.v.0 c.args.first (c.args.end - c.args.first))

pub loop-page-preserved : goal.loop-page-preserved
loop-page-preserved c =
    let next = c.in-Some.ensures.some in
    let inv = c.loop-page.invariant in
    record {
      first = omega (arith, next.order, inv.first);
      end = omega (arith, next.below);
      held = omega (arith, inv.held, held-next (flat_content c.args.self.now) c.args.v.0 c.loop-page.from c.args.end _ next);
    }

pub returns : goal.returns
returns c =
    let inv = c.loop-page.invariant in
    omega (arith, inv.held, held-end (flat_content c.args.self.now) c.args.v.0 c.loop-page.from c.args.end c.in_default.ensures.none)
