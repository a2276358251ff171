-- Where the pages of a source VMO come from: the bytes of a function, which stands in for the kernel's pager.
use Rattle.std.specs.Prelude.{ℕ, ◌+◌, ◌*◌, ◌/◌, ◌%◌, ◌==◌, nat_lt, List, map, if◌then◌else◌, Option, None, Some}
use Rattle.std.specs.List.{range_with_len}
use Rattle.vm_base.specs.declared.limits.TheConstants.{PAGE}
use Rattle.vm_base.specs.Pages.{zeros}
use Rattle.vm_model.specs.Contents.Content.{Content, Page}
use Rattle.source_model.specs.declared.backing.Backing.{Backing}

-- The byte of a source at an offset. A source of kind 0 has one byte throughout, in one of kind 1 the bytes count up, and in one
-- of kind 2 the pages do.
unfoldable pub source_byte : (kind seed offset : ℕ) → ℕ
source_byte kind seed offset =
    if kind == 0 then seed % 256
    else if kind == 1 then (seed + offset) % 256
    else (seed + offset / PAGE) % 256

-- the bytes of one of its pages
unfoldable pub source_page : (kind seed page : ℕ) → List ℕ
source_page kind seed page = map (source_byte kind seed) (range_with_len (page * PAGE) PAGE)

-- The bytes that page q has by its backing: of the first `seen` pages those of the source, from the source's page `base` on.
-- Other pages, and those of a VMO with no backing, are zeros.
unfoldable pub backing_text : Option Backing → ℕ → List ℕ
backing_text None q = zeros
backing_text (Some b) q = if nat_lt q b.seen then source_page b.kind b.seed (b.base + q) else zeros

-- the bytes that a page has: its own where it is held, and else those of its backing
unfoldable pub held_text : Option Page → List ℕ → List ℕ
held_text None backed = backed
held_text (Some held) backed = held.bytes

-- the bytes of each page, over a content and a map of backings
unfoldable pub text_over : Content → (ℕ → Option Backing) → ℕ → ℕ → List ℕ
text_over c backing v p = held_text (c.page v p) (backing_text (backing v) p)
