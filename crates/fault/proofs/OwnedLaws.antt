-- What owning a page of a VMO and writing bytes to it gives.
use Rattle.std.proofs.Common.{◌≡◌, ℕ, List, Some, refl, ap, ◌∙◌}
use Rattle.std.specs.Option.{option_map}
use Rattle.vm_model.specs.Contents.Content.{Page, Content}
use Rattle.vm_model.specs.Space.Readiness.{frame_at}
use Rattle.vm_model.proofs.ContentLaws.{page-hold_here}
use Rattle.vm_model.proofs.OwningLaws.{Owned}
use Rattle.page_store.specs.Pages.{Overwrites}

-- also once its bytes were overwritten
pub frame_at-overwritten : (old mid new : Content) (v p tag at : ℕ) (bytes : List ℕ) → Owned old mid v p tag → Overwrites mid new tag at bytes
    → frame_at new v p ≡ Some tag
frame_at-overwritten old mid new v p tag at bytes owned overwrites =
    ap (λ (c : Content). frame_at c v p) (overwrites v p _ (record { page = owned.held; tag = refl }))
    ∙ ap (option_map (λ (held : Page). held.tag)) (page-hold_here mid v p _)
