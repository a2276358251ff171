use Rattle.std.proofs.Common.{refl, sym, ◌∙◌, arith}
use Rattle.std.proofs.lemmas.Bool.{not-false}
use Rattle.vm_base.proofs.EntryLaws.{none_is}
use Rattle.vm_model.proofs.RegionLaws.{region_bounds}
use Rattle.vm_model.specs.Contents.Content.{nothing}
use Rattle.region_ops.proofs.PlaceLaws.{free_end, allocate_done, allocate_lacks}
use Rattle.machine.specs.inside.Fields.{state_in}
use Rattle.machine.proofs.HandleLaws.{handles_refused}
use Rattle.machine.proofs.RegionLaws.{mapped_counted, entries_mapped, place_for, told_at}
use Rattle.machine.proofs.spaces.vmar_allocate.Goals as goal

pub ask_to_allocate-requires-clause-end : goal.ask_to_allocate-requires-clause-end
ask_to_allocate-requires-clause-end c = (region_bounds _ c.get.ensures.good _ _ (sym c.in-Some.ensures.region) (not-false _ c.if-not-above.false)).0

pub returns-in-Err-clause-does : goal.returns-in-Err-clause-does
returns-in-Err-clause-does c = λ content.
    handles_refused c.requires (sym (c.in-Err.ensures c.args.region (none_is _ (rw c.get-2.ensures.region at (sym c.is_some.ensures ∙ c.if-is_some.false))) (state_in content c.args.tables.now))) (omega arith)

pub first_page-requires-clause-end : goal.first_page-requires-clause-end
first_page-requires-clause-end c = (region_bounds _ c.get.ensures.good _ _ (sym c.in-Some.ensures.region) (not-false _ c.if-not-above.false)).0

pub returns-in_err-first-clause-does : goal.returns-in_err-first-clause-does
returns-in_err-first-clause-does c = λ content. rw c.from_residual.ensures (record {
  place = record {
    none = sym (c.in-Ok.ensures.0 c.args.region (none_is _ (rw c.get-2.ensures.region at (sym c.is_some.ensures ∙ c.if-is_some.false))) (state_in content c.args.tables.now));
    asks = refl;
    is_told = c.in_err-first.ensures.told.0;
    never = λ address is new effect. (rw c.by-asked.ensures at c.in_err-first.ensures.told.1) effect.0 (told_at effect.0 is effect.1) (place_for effect.2);
  };
  pages = refl;
  tables = refl;
})

pub overflow_mul-result : goal.overflow_mul-result
overflow_mul-result c =
    omega (arith, free_end (state_in nothing c.args.tables.now).spaces _ _ (sym c.in-Some.ensures.region) _ _ ((rw c.by-asked.ensures at c.in_ok-first.ensures.place).free refl).free, (region_bounds _ c.get.ensures.good _ _ (sym c.in-Some.ensures.region) (not-false _ c.if-not-above.false)).0)

pub returns-in-Ok-allocate_at-clause-does : goal.returns-in-Ok-allocate_at-clause-does
returns-in-Ok-allocate_at-clause-does c = λ content.
    let s = state_in content c.args.tables.now in
    let place = (rw c.by-asked.ensures at c.in_ok-first.ensures.place).free refl in
    let new = none_is _ (rw c.get-2.ensures.region at (sym c.is_some.ensures ∙ c.if-is_some.false)) in record {
      step = rw c.allocate_at.ensures.table (allocate_done s c.args.region c.args.request.parent c.args.request.offset c.args.request.len c.args.request.flags c.args.request.caps
          (sym (c.in-Ok.ensures.0 c.args.region new s)) _ place _ c.in-Ok-allocate_at.ensures.allocated);
      changes = refl;
      counted = mapped_counted c.requires (entries_mapped _ _ c.allocate_at.ensures.table) c.allocate_at.ensures.noted;
      name = omega arith;
    }

pub returns-in-Err-allocate_at-clause-does : goal.returns-in-Err-allocate_at-clause-does
returns-in-Err-allocate_at-clause-does c = λ content.
    let s = state_in content c.args.tables.now in
    let new = none_is _ (rw c.get-2.ensures.region at (sym c.is_some.ensures ∙ c.if-is_some.false)) in record {
      step = rw c.allocate_at.ensures.table (allocate_lacks s c.args.region c.args.request.parent c.args.request.offset c.args.request.len c.args.request.flags c.args.request.caps
          (sym (c.in-Ok.ensures.0 c.args.region new s)) _ c.in-Err-allocate_at.ensures.allocated);
      changes = refl;
      counted = mapped_counted c.requires (entries_mapped _ _ c.allocate_at.ensures.table) c.allocate_at.ensures.noted;
      name = omega arith;
    }
