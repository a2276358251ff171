-- Which VMO is charged for a frame: the one that shows it while no VMO with a lesser koid does.
use Rattle.std.proofs.Common.{◌≡◌, ℕ, ◌<◌, Bool, true, false, not, Option, None, Some, refl, sym, ap, ◌∙◌}
use Rattle.std.specs.Prelude.{IfSome, IfNone, is_some}
use Rattle.vm_base.specs.declared.names.Koid.{Koid}
use Rattle.vm_base.specs.declared.names.Tag.{Tag}
use Rattle.vm_base.specs.Search.{any_below}
use Rattle.vm_base.proofs.SearchLaws.{any_below_at, none_below}
use Rattle.vm_model.specs.Contents.Content.{Page, Content, views}
use Rattle.vm_model.specs.Machine.Attribution.{is_charged_page, is_charged}
use Rattle.page_store.specs.Pages.{tag_held}
use Rattle.page_store.proofs.LookLaws.{held_frame}

pub is_charged_page-some : (c : Content) (v : ℕ) (held : Page)
    → is_charged_page c v (Some held) ≡ not (any_below v (views c held.tag))
unfolding is_charged_page
is_charged_page-some c v held = refl

pub is_charged-at : (c : Content) (v p : ℕ) (held : Page) → c.page v p ≡ Some held
    → is_charged c v p ≡ is_charged_page c v (Some held)
is_charged-at c v p held e = ap (is_charged_page c v) e

-- the other way round
pub not_turned : (one other : Bool) → one ≡ not other → other ≡ not one
not_turned one true e = sym (ap not e)
not_turned one false e = sym (ap not e)

-- an answer to whether a test holds of a number below v
found_below : (v : ℕ) (test : ℕ → Bool) (answer : Option Koid) → IfSome answer (λ w. (w.0 < v) × (test w.0 ≡ true))
    → IfNone answer ((w : ℕ) → w < v → test w ≡ false) → any_below v test ≡ is_some answer
found_below v test None some none = none_below v test none
found_below v test (Some w) some none = any_below_at v w.0 test some.0 some.1

-- a VMO is charged for a frame that it shows where no VMO with a lesser koid shows it
pub is_charged-lesser : (c : Content) (v p : ℕ) (tag : Tag) → Some tag ≡ tag_held (c.page v p) → (answer : Option Koid)
    → IfSome answer (λ w. (w.0 < v) × (views c tag.0 w.0 ≡ true)) → IfNone answer ((w : ℕ) → w < v → views c tag.0 w ≡ false)
    → is_charged c v p ≡ not (is_some answer)
is_charged-lesser c v p tag frame answer some none =
    let is = held_frame (c.page v p) tag frame in
    is_charged-at c v p is.0 is.1 ∙ is_charged_page-some c v is.0
    ∙ ap (λ (t : ℕ). not (any_below v (views c t))) is.2 ∙ ap not (found_below v (views c tag.0) answer some none)
