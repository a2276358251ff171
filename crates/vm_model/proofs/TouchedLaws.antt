-- The pages that a short access touches: one, or two neighbours.
use Rattle.std.proofs.Common.{◌≡◌, ℕ, ◌+◌, ◌-◌, ◌/◌, ◌%◌, ◌<◌, ◌≤◌, [], ◌∷◌, refl, arith}
use Rattle.vm_base.specs.declared.limits.TheConstants.{PAGE}
use Rattle.vm_model.specs.Contents.Writing.{touched, touched_end}
use Rattle.vm_model.proofs.RangeLaws.{touched-row}

-- it ends in its first page
pub touched-one : (addr len : ℕ) → 0 < len → addr % PAGE + len ≤ PAGE → touched addr len ≡ addr / PAGE ∷ []
unfolding touched_end
touched-one addr len some fits =
    let one : touched_end addr len - addr / PAGE ≡ 1 = omega arith in
    rw (touched-row addr len some, one) refl

-- it passes the end of its first page, and has no more bytes than a page
pub touched-two : (addr len : ℕ) → PAGE < addr % PAGE + len → len ≤ PAGE → touched addr len ≡ addr / PAGE ∷ (addr / PAGE + 1) ∷ []
unfolding touched_end
touched-two addr len passes few =
    let two : touched_end addr len - addr / PAGE ≡ 2 = omega arith in
    let some : 0 < len = omega arith in
    rw (touched-row addr len some, two) refl
