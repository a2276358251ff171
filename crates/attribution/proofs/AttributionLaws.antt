-- Laws of what a VMO holds: what each test says of a page, and that the least koid that shows a frame is charged for
-- it.
use Rattle.std.proofs.Common.{◌≡◌, ℕ, Bool, true, false, not, ◌&&◌, None, Some, ap}
use Rattle.std.specs.Prelude.{is_some}
use Rattle.vm_model.specs.Contents.Content.{Page, Content, is_held, sole}
use Rattle.vm_model.specs.Machine.Attribution.{is_shared, is_charged_page, is_charged}
use Rattle.vm_model.proofs.ContentLaws.{IsOfHeld, is_held-zero, sole-zero}

-- ---- what each test says of a page

pub is_held-some : (c : Content) (v p : ℕ) (held : Page) → c.page v p ≡ Some held → is_held c v p ≡ true
is_held-some c v p held e = ap is_some e

pub is_shared-zero : (c : Content) (v p : ℕ) → c.page v p ≡ None → is_shared c v p ≡ false
is_shared-zero c v p zero = ap (λ (b : Bool). b && not (sole c v p)) (is_held-zero c v p zero)

-- a held page is shared where it is not sole
pub is_shared-some : (c : Content) (v p : ℕ) (held : Page) → c.page v p ≡ Some held → is_shared c v p ≡ not (sole c v p)
is_shared-some c v p held e = ap (λ (b : Bool). b && not (sole c v p)) (is_held-some c v p held e)

pub is_charged-zero : (c : Content) (v p : ℕ) → c.page v p ≡ None → is_charged c v p ≡ false
unfolding is_charged_page
is_charged-zero c v p zero = ap (is_charged_page c v) zero

-- ---- tests of held pages

module _ (c : Content) (v : ℕ) where
  pub IsOfHeld-sole : IsOfHeld c v (sole c v)
  IsOfHeld-sole = record { zero_fails = λ p zero. sole-zero c v p zero }

  pub IsOfHeld-shared : IsOfHeld c v (is_shared c v)
  IsOfHeld-shared = record { zero_fails = λ p zero. is_shared-zero c v p zero }

  pub IsOfHeld-charged : IsOfHeld c v (is_charged c v)
  IsOfHeld-charged = record { zero_fails = λ p zero. is_charged-zero c v p zero }
