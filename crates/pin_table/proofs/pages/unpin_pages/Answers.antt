use Rattle.std.proofs.Common.{◌≡◌, ℕ, ◌+◌, subst, arith}
use Rattle.pair_map.specs.Maps.{values_of}
use Rattle.pin_table.specs.inside.Pages.{AddsPin}
use Rattle.pin_table.proofs.pages.unpin_pages.Goals as goal

-- the loop ends with the last page
pub returns-clause-pin : goal.returns-clause-pin
returns-clause-pin c =
    let last : c.loop-page.page ≡ c.args.first + c.args.count = omega arith in
    subst (λ (end : ℕ). AddsPin (values_of c.loop-page.pages) (values_of c.args.pages.now) c.args.koid.0 c.args.first end) last c.loop-page.invariant.pin
