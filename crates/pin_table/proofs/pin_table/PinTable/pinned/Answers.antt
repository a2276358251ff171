use Rattle.std.proofs.Common.{◌≡◌, ℕ, ◌+◌, ◌-◌, ◌≤◌, ltb, sym, ◌∙◌, arith}
use Rattle.std.proofs.lemmas.Grind.{common_steps}
use Rattle.vm_model.proofs.PinLaws.{none_pinned}
use Rattle.pin_table.proofs.CountedLaws.{any_pinned-first}
use Rattle.pin_table.proofs.pin_table.PinTable.pinned.Goals as goal

moved : (first page count : ℕ) → first ≤ page → ltb (page - first) count ≡ ltb page (first + count)
moved first page count h = grind (arith, common_steps)

pub returns-in-Some : goal.returns-in-Some
returns-in-Some c =
    moved c.args.first c.in-Some.page c.args.count c.in-Some.ensures.some.order
    ∙ sym (any_pinned-first _ c.args.koid.0 c.args.first (c.args.first + c.args.count) c.in-Some.page c.in-Some.ensures.some)

pub returns-in-None : goal.returns-in-None
returns-in-None c = sym (none_pinned _ c.args.koid.0 c.args.first _ (c.in-None.ensures.none (c.args.first + c.args.count)))
