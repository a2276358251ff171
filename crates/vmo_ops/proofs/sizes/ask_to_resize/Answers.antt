use Rattle.std.proofs.Common.{◌*◌, not, refl, sym, ap, ◌∙◌, arith}
use Rattle.vm_base.specs.Pages.{rounded}
use Rattle.vm_base.specs.declared.limits.TheConstants.{PAGE, VMO_PAGES}
use Rattle.std.proofs.lemmas.Bool.{lt-ltb, le-ltb}
use Rattle.pin_table.specs.Table.{pins_of}
use Rattle.vmo_ops.specs.Targets.{with_pins}
use Rattle.vmo_ops.proofs.AskLaws.{hit, skip, by_name, set_size_rows}
use Rattle.vmo_ops.proofs.sizes.ask_to_resize.Goals as goal

pub returns-then-not-t : goal.returns-then-not-t
returns-then-not-t g c = λ rest name named.
    let s = with_pins (g.P.PageStore.content c.args.store.now) (pins_of c.args.pins.now) rest in
    by_name s name.0 _ named (set_size_rows s c.args.size) _ (hit _ _ _ (ap not c.if-not-t.true))

pub returns-then-not-t-2 : goal.returns-then-not-t-2
returns-then-not-t-2 g c = λ rest name named.
    let s = with_pins (g.P.PageStore.content c.args.store.now) (pins_of c.args.pins.now) rest in
    by_name s name.0 _ named (set_size_rows s c.args.size) _ (skip _ _ _ _ (ap not c.if-not-t.false) (hit _ _ _ (ap not c.if-not-t-2.true)))

pub returns-in_default : goal.returns-in_default
returns-in_default g c = λ rest name named.
    let s = with_pins (g.P.PageStore.content c.args.store.now) (pins_of c.args.pins.now) rest in
    by_name s name.0 _ named (set_size_rows s c.args.size) _ (skip _ _ _ _ (ap not c.if-not-t.false) (skip _ _ _ _ (ap not c.if-not-t-2.false)
    (hit _ _ _ (lt-ltb (VMO_PAGES * PAGE) (rounded c.args.size) (omega (arith, c.in_default.ensures.none))))))

pub returns-then-is_pinned_past : goal.returns-then-is_pinned_past
returns-then-is_pinned_past g c = λ rest name named.
    let s = with_pins (g.P.PageStore.content c.args.store.now) (pins_of c.args.pins.now) rest in
    by_name s name.0 _ named (set_size_rows s c.args.size) _ (skip _ _ _ _ (ap not c.if-not-t.false) (skip _ _ _ _ (ap not c.if-not-t-2.false)
    (skip _ _ _ _ (le-ltb (VMO_PAGES * PAGE) (rounded c.args.size) (omega (arith, c.in-Some.ensures.some.1))) (hit _ _ _ (rw c.in-Some.ensures.some.0 at (sym c.is_pinned_past.ensures ∙ c.if-is_pinned_past.true))))))

pub returns : goal.returns
returns g c = (
  λ rest name named.
      let s = with_pins (g.P.PageStore.content c.args.store.now) (pins_of c.args.pins.now) rest in
      by_name s name.0 _ named (set_size_rows s c.args.size) _ (skip _ _ _ _ (ap not c.if-not-t.false) (skip _ _ _ _ (ap not c.if-not-t-2.false)
      (skip _ _ _ _ (le-ltb (VMO_PAGES * PAGE) (rounded c.args.size) (omega (arith, c.in-Some.ensures.some.1))) (skip _ _ _ _ (rw c.in-Some.ensures.some.0 at (sym c.is_pinned_past.ensures ∙ c.if-is_pinned_past.false)) refl)))),
  c.in-Some.ensures.some.0,
  c.in-Some.ensures.some.2,
)
