-- What the frame of a translation shows.
use Rattle.std.proofs.Common.{◌≡◌, ℕ, ◌+◌, ◌≤◌, List, length, replicate, take, drop, Option, None, Some, refl, sym, ap, ◌∙◌}
use Rattle.std.specs.Option.{option_map}
use Rattle.vm_base.specs.declared.limits.TheConstants.{PAGE}
use Rattle.vm_base.specs.declared.names.Tag.{Tag}
use Rattle.vm_model.specs.Contents.Content.{Content, Page, shown, bytes_of}
use Rattle.vm_model.specs.Space.Readiness.{frame_at, frame_number}
use Rattle.page_store.specs.Pages.{tag_held, AreBytesOf}
use Rattle.fault.specs.declared.translation.Translation.{Translation}
use Rattle.fault.specs.Table.{translated_frame}
use Rattle.page_store.proofs.PartLaws.{part_of_zeros}

-- the frame that a store answers for a page
pub number-frame : (o : Option Page) → frame_number (tag_held o) ≡ option_map (λ (held : Page). held.tag) o
number-frame None = refl
number-frame (Some held) = refl

module _ (c : Content) (v p at n : ℕ) (x : Translation) (frame : translated_frame x ≡ frame_at c v p) where
  -- bytes of the frame
  pub shown-frame : (tag : Tag) (bytes : List ℕ) → x.frame ≡ Some tag → AreBytesOf c tag.0 at bytes → length bytes ≡ n
      → bytes ≡ take n (drop at (shown c v p))
  unfolding bytes_of
  shown-frame tag bytes is read size = go (c.page v p) refl where
    go : (o : Option Page) → c.page v p ≡ o → bytes ≡ take n (drop at (shown c v p))
    go None zero = absurd cc
    go (Some held) page =
        let same : held.tag ≡ tag.0 = cc in
        let part = read v p held (record { page = page; tag = same }) in
        rw page (part ∙ ap (λ (m : ℕ). take m (drop at held.bytes)) size)

  -- with no frame it shows zeros
  pub shown-none : x.frame ≡ None → at + n ≤ PAGE → replicate n 0 ≡ take n (drop at (shown c v p))
  unfolding bytes_of
  shown-none is fits = go (c.page v p) refl where
    go : (o : Option Page) → c.page v p ≡ o → replicate n 0 ≡ take n (drop at (shown c v p))
    go None zero = rw zero (sym (part_of_zeros at n fits))
    go (Some held) page = absurd cc
