use Rattle.std.proofs.Common.{true, false, sym, ap, ◌∙◌, arith}
use Rattle.std.specs.Prelude.{is_some, not}
use Rattle.std.proofs.lemmas.Bool.{lt-ltb, le-ltb}
use Rattle.vm_model.proofs.ContentLaws.{pages_of_le}
use Rattle.pin_table.specs.Table.{pins_of}
use Rattle.vmo_ops.specs.Targets.{with_pins}
use Rattle.vmo_ops.proofs.AskLaws.{hit, skip, snapshot_rows}
use Rattle.vmo_ops.proofs.CopyRows.{asked-from}
use Rattle.vmo_ops.proofs.snapshots.ask_to_snapshot.Goals as goal

pub count_copies-copied-requires : goal.count_copies-copied-requires
count_copies-copied-requires g c =
    omega (arith, c.seen_part-first.ensures.inside, pages_of_le (g.P.PageStore.content c.args.store.now) c.args.t.now.koid.0 c.requires.good)

pub returns-then-is_misasked-clause-refusal : goal.returns-then-is_misasked-clause-refusal
returns-then-is_misasked-clause-refusal g c = λ s name parent named closed.
    skip _ _ _ _ (ap (λ o. not (is_some o)) named) (skip _ _ _ _ (ap is_some closed) (hit _ _ _ (sym c.is_misasked.ensures ∙ c.if-is_misasked.true)))

pub returns-in_default-clause-refusal : goal.returns-in_default-clause-refusal
returns-in_default-clause-refusal g c = λ s name parent named closed.
    skip _ _ _ _ (ap (λ o. not (is_some o)) named) (skip _ _ _ _ (ap is_some closed) (skip _ _ _ _ (sym c.is_misasked.ensures ∙ c.if-is_misasked.false)
    (hit _ _ _ (lt-ltb _ _ c.in_default.ensures.none))))

pub returns-then-copied-from-clause-refusal : goal.returns-then-copied-from-clause-refusal
returns-then-copied-from-clause-refusal g c = λ rest name parent named closed.
    let s = with_pins (g.P.PageStore.content c.args.store.now) (pins_of c.args.pins.now) rest in
    let seen = c.seen_part-first.ensures in
    snapshot_rows s name parent _ c.args.offset c.args.size c.args.resizable c.args.no_write _ _
    (asked-from {s = s} named closed (sym c.is_misasked.ensures ∙ c.if-is_misasked.false) c.in-Some.ensures.some c.page_of.ensures seen.seen seen.first) true
    (sym (lt-ltb _ _ (omega (arith, c.count_copies-copied.ensures, c.free.ensures, c.from.ensures, c.if-copied-from.true))))

pub returns-clause-refusal : goal.returns-clause-refusal
returns-clause-refusal g c = λ rest name parent named closed.
    let s = with_pins (g.P.PageStore.content c.args.store.now) (pins_of c.args.pins.now) rest in
    let seen = c.seen_part-first.ensures in
    snapshot_rows s name parent _ c.args.offset c.args.size c.args.resizable c.args.no_write _ _
    (asked-from {s = s} named closed (sym c.is_misasked.ensures ∙ c.if-is_misasked.false) c.in-Some.ensures.some c.page_of.ensures seen.seen seen.first) false
    (sym (le-ltb _ _ (omega (arith, c.count_copies-copied.ensures, c.free.ensures, c.from.ensures, c.if-copied-from.false))))

pub returns-clause-ok : goal.returns-clause-ok
returns-clause-ok g c =
    let seen = c.seen_part-first.ensures in
    record {
      asked = sym c.is_misasked.ensures ∙ c.if-is_misasked.false;
      few = c.in-Some.ensures.some.1;
      whole = c.in-Some.ensures.some.0;
      most = c.in-Some.ensures.some.2;
      sees = rw (c.page_of.ensures, c.in-Some.ensures.some.0) at seen.seen;
      at = rw c.page_of.ensures at seen.first;
      inside = seen.inside;
      within = seen.few;
      copies = c.count_copies-copied.ensures;
      free = omega (arith, c.free.ensures, c.from.ensures, c.if-copied-from.false);
    }
