-- Whether pages of a VMO are pinned, as the table of pins answers.
use Rattle.std.proofs.Common.{◌≡◌, ℕ, ◌+◌, ◌-◌, Option, Some, Bool, arith}
use Rattle.std.proofs.lemmas.Bool.{cases_lt}
use Rattle.vm_model.specs.Contents.Content.{Content, pages_of}
use Rattle.vm_model.specs.Naming.Pins.{Pin, any_pinned}
use Rattle.vm_model.proofs.ContentLaws.{pages_of-at}
use Rattle.vmo_ops.proofs.ModelLaws.{any_pinned-empty}

-- the pages that there are from one on end with the last. Differences stop at 0
pub any_pinned_rest : (pins : ℕ → Option Pin) (v first end : ℕ)
    → any_pinned pins v first (first + (end - first)) ≡ any_pinned pins v first end
any_pinned_rest = grind (arith, cases_lt, any_pinned-empty)

-- whether a page past a new end of a VMO is pinned, as the table answers for as many pages as are past it
pub pinned_past : (pins : ℕ → Option Pin) (c : Content) (v pages count rest : ℕ) (answer : Bool)
    → c.count v ≡ Some count → rest ≡ count - pages
    → answer ≡ any_pinned pins v pages (pages + rest) → answer ≡ any_pinned pins v pages (pages_of c v)
pinned_past = grind (arith, any_pinned_rest, pages_of-at)
