use Rattle.std.proofs.Common.{arith}
use Rattle.vm_base.proofs.SearchLaws.{bit-true}
use Rattle.vm_model.specs.Contents.Content.{is_held}
use Rattle.vm_model.specs.Naming.Pins.{is_pinned}
use Rattle.vm_model.proofs.ContentLaws.{IsOfHeld-held}
use Rattle.pin_table.specs.Table.{pins_of}
use Rattle.vmo_ops.proofs.ModelLaws.{need-zero}
use Rattle.vmo_ops.proofs.CountLaws.{AreCounted-step, AreCounted-end}
use Rattle.vmo_ops.proofs.ZeroLaws.{IsOfHeld-takes, takes_frame-held, held_touched-count}
use Rattle.vmo_ops.proofs.zeroing.cost_to_zero.Goals as goal

pub loop-page-preserved : goal.loop-page-preserved
loop-page-preserved g c =
    let content = g.P.PageStore.content c.args.store.now in
    let next = c.in-Some.ensures in
    record {
      held = AreCounted-step (IsOfHeld-held content c.args.v.0) c.loop-page.invariant.held next
          (omega (arith, bit-true (is_held content c.args.v.0 c.in-Some.page) next.hit));
      owned = AreCounted-step
          (IsOfHeld-takes content c.args.v.0 (is_pinned (pins_of c.args.pins.now) c.args.v.0) c.args.offset c.args.len)
          c.loop-page.invariant.owned next (grind (arith, takes_frame-held));
    }

pub returns-clause-held : goal.returns-clause-held
returns-clause-held g c =
    let of = IsOfHeld-held (g.P.PageStore.content c.args.store.now) c.args.v.0 in
    let all = AreCounted-end of c.loop-page.invariant.held c.in_default.ensures in
    grind (arith, all, held_touched-count)

pub returns-clause-owned : goal.returns-clause-owned
returns-clause-owned g c =
    let of = IsOfHeld-takes (g.P.PageStore.content c.args.store.now) c.args.v.0 _ c.args.offset c.args.len in
    let all = AreCounted-end of c.loop-page.invariant.owned c.in_default.ensures in
    grind (arith, all, need-zero)
