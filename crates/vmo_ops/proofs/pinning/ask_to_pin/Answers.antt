use Rattle.std.proofs.Common.{refl, sym, ap, ◌∙◌}
use Rattle.std.specs.Prelude.{is_some}
use Rattle.std.proofs.lemmas.Bool.{lt-ltb, le-ltb}
use Rattle.vmo_ops.specs.Targets.{with_pins}
use Rattle.vmo_ops.proofs.AskLaws.{hit, skip, by_name, pin_rows, lacks_row}
use Rattle.vmo_ops.proofs.PinLaws.{pin_range}
use Rattle.vmo_ops.proofs.pinning.ask_to_pin.Goals as goal

pub returns-then-is_no_pin_range-clause-refusal : goal.returns-then-is_no_pin_range-clause-refusal
returns-then-is_no_pin_range-clause-refusal g c = λ pin pins free rest name named.
    let s = with_pins (g.P.PageStore.content c.args.store.now) pins rest in
    by_name s name.0 _ named (pin_rows s pin.0 c.args.offset c.args.len) _ (skip _ _ _ _ (ap is_some free)
    (hit _ _ _ (sym c.is_no_pin_range.ensures ∙ c.if-is_no_pin_range.true)))

pub returns-in_default-clause-refusal : goal.returns-in_default-clause-refusal
returns-in_default-clause-refusal g c = λ pin pins free rest name named.
    let s = with_pins (g.P.PageStore.content c.args.store.now) pins rest in
    by_name s name.0 _ named (pin_rows s pin.0 c.args.offset c.args.len) _ (skip _ _ _ _ (ap is_some free)
    (skip _ _ _ _ (sym c.is_no_pin_range.ensures ∙ c.if-is_no_pin_range.false) (hit _ _ _ (lt-ltb _ _ c.in_default.ensures.none))))

pub returns-in-None-clause-refusal : goal.returns-in-None-clause-refusal
returns-in-None-clause-refusal g c = λ pin pins free rest name named.
    let s = with_pins (g.P.PageStore.content c.args.store.now) pins rest in
    let placed = c.in-Some.ensures.some in
    by_name s name.0 _ named (pin_rows s pin.0 c.args.offset c.args.len) _ (skip _ _ _ _ (ap is_some free)
    (skip _ _ _ _ (sym c.is_no_pin_range.ensures ∙ c.if-is_no_pin_range.false) (skip _ _ _ _ (le-ltb _ _ placed.range)
    (hit _ _ _ (lacks_row s.content _ _ _ c.args.len _ _ placed.place refl (lt-ltb _ _ (rw c.touched_by-pages.ensures.row c.in-None.ensures.none)))))))

pub returns-in-Some-rows_to_own-clause-refusal : goal.returns-in-Some-rows_to_own-clause-refusal
returns-in-Some-rows_to_own-clause-refusal g c = λ pin pins free rest name named.
    let s = with_pins (g.P.PageStore.content c.args.store.now) pins rest in
    let placed = c.in-Some.ensures.some in
    by_name s name.0 _ named (pin_rows s pin.0 c.args.offset c.args.len) _ (skip _ _ _ _ (ap is_some free)
    (skip _ _ _ _ (sym c.is_no_pin_range.ensures ∙ c.if-is_no_pin_range.false) (skip _ _ _ _ (le-ltb _ _ placed.range)
    (skip _ _ _ _ (lacks_row s.content _ _ _ c.args.len _ _ placed.place refl (le-ltb _ _ (rw c.touched_by-pages.ensures.row c.in-Some-rows_to_own.ensures.some.1))) refl))))

pub returns-in-Some-rows_to_own-clause-ok : goal.returns-in-Some-rows_to_own-clause-ok
returns-in-Some-rows_to_own-clause-ok g c = record {
  range = pin_range c.args.offset c.args.len (sym c.is_no_pin_range.ensures ∙ c.if-is_no_pin_range.false);
  placed = c.in-Some.ensures.some;
  asked = rw c.touched_by-pages.ensures.row c.in-Some-rows_to_own.ensures.some.0;
  frames = rw c.touched_by-pages.ensures.row c.in-Some-rows_to_own.ensures.some.1;
}
