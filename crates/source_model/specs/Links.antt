-- What a loose child shows: a page that it has not written is the page of its parent as it is now. From the kernel's
-- `ZX_VMO_CHILD_SNAPSHOT_AT_LEAST_ON_WRITE`.
use Rattle.std.specs.Prelude.{ℕ, zero, suc, ◌+◌, Bool, ◌&&◌, ◌||◌, ◌==◌, nat_lt, List, if◌then◌else◌, Option, None, Some}
use Rattle.vm_base.specs.Entries.{passes}
use Rattle.vm_model.specs.Contents.Content.{Content, is_held}
use Rattle.source_model.specs.declared.backing.Backing.{Backing}
use Rattle.source_model.specs.declared.link.Link.{Link}
use Rattle.source_model.specs.Sources.{text_over}
use Rattle.vm_model.specs.Contents.Owning.{VmoPage}

-- where pages go on: the page that a page shows, if it shows that of another VMO
abbrev pub Below : Type 0
Below = ℕ → ℕ → Option VmoPage

-- of the first `seen` pages of a VMO with a link those of its parent, from the parent's page `base` on
unfoldable pub seen_through : ℕ → Option Link → Option VmoPage
seen_through p None = None
seen_through p (Some l) = if nat_lt p l.seen then Some (record { koid = l.parent.0; page = l.base + p }) else None

-- a page that is held is the VMO's own. Any other goes on by the link
unfoldable pub page_below : Content → (ℕ → Option Link) → Below
page_below c link v p = if is_held c v p then None else seen_through p (link v)

-- ---- the page at which a look-up ends

abbrev pub onwards : VmoPage → (VmoPage → VmoPage) → Option VmoPage → VmoPage
onwards here further None = here
onwards here further (Some next) = further next

-- the page that is come to after so many steps at most
unfoldable pub end_over : ℕ → Below → VmoPage → VmoPage
end_over zero below at = at
end_over (suc n) below at = onwards at (end_over n below) (below at.koid at.page)

-- The page at the end. A parent has a smaller koid, so no look-up takes more steps than its koid.
abbrev pub read_end : Below → ℕ → ℕ → VmoPage
read_end below v p = end_over v below (record { koid = v; page = p })

-- the bytes that each page shows: those of the page at the end
unfoldable pub walked : Content → (ℕ → Option Backing) → Below → ℕ → ℕ → List ℕ
walked c backing below v p = text_over c backing (read_end below v p).koid (read_end below v p).page

-- ---- the pages that show a page

-- page q of w is page p of v, or shows it within so many steps
unfoldable pub shows_over : ℕ → Below → (v p w q : ℕ) → Bool
shows_over zero below v p w q = (w == v) && (q == p)
shows_over (suc n) below v p w q =
    ((w == v) && (q == p)) || passes (λ (u : VmoPage). shows_over n below v p u.koid u.page) (below w q)

abbrev pub shows_through : Below → (v p w q : ℕ) → Bool
shows_through below v p w q = shows_over w below v p w q
