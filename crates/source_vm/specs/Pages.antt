-- What becomes of pages, over the backings and the links of a table, whatever names there are.
use Rattle.std.specs.Prelude.{◌≡◌, ℕ, ◌+◌, ◌-◌, ◌*◌, ◌<◌, ◌≤◌, ◌⊎◌, Bool, map, false, true, ◌&&◌, ◌==◌, nat_eq, List, if◌then◌else◌, Option, None, Some}
use Rattle.std.specs.List.{filter, range_with_len}
use Rattle.std.specs.Cmp.Lexicographic.{pointwise}
use Rattle.vm_base.specs.Search.{HasNone}
use Rattle.vm_base.specs.declared.limits.TheConstants.{PAGE, SOURCE_PAGES, SOURCE_KIND_MAX}
use Rattle.vm_base.specs.declared.refusal.Refusal.{Refusal}
use Rattle.vm_base.specs.declared.refusal.Refusal.TheVariants.{NoMemory, HostMemory}
use Rattle.vm_model.specs.Contents.Content.{Content, Page, IsGood, pages_of, used}
use Rattle.vm_model.specs.Contents.Writing.{Piece, touched}
use Rattle.vm_model.specs.Contents.Zeroing.{is_within}
use Rattle.page_store.specs.Pages.{tag_held}
use Rattle.source_model.specs.declared.backing.Backing.{Backing}
use Rattle.source_model.specs.declared.link.Link.{Link}
use Rattle.source_model.specs.Sources.{backing_text}
use Rattle.source_model.specs.Links.{page_below, read_end}
use Rattle.vm_model.specs.Contents.Owning.{VmoPage}
use Rattle.source_model.specs.State.{SourceState, state_over, Fills, FillsEach, is_absent, supply_of}
use Rattle.source_model.specs.Commands.{is_aligned}
use Rattle.source_vm.specs.declared.walk.Place.{Place}
use Rattle.source_vm.specs.declared.walk.FoundPage.{FoundPage}

-- the backing of each VMO, and the link of each
abbrev pub Backings : Type 0
Backings = ℕ → Option Backing

abbrev pub LooseLinks : Type 0
LooseLinks = ℕ → Option Link

-- a backing by one of the functions, within their bytes
pub record IsSource (b : Backing) : Type 0 where
  pub kind : b.kind ≤ SOURCE_KIND_MAX
  pub inside : b.base + b.seen ≤ SOURCE_PAGES

-- Pages may be looked up: the content is good, each backing is within its source, and each link leads to pages of an older VMO.
pub record IsReadable (c : Content) (backings : Backings) (links : LooseLinks) : Type 0 where
  pub good : IsGood c
  pub sources : (v : ℕ) (b : Backing) → backings v ≡ Some b → IsSource b
  pub smaller : (v : ℕ) (l : Link) → links v ≡ Some l → l.parent.0 < v
  pub inside : (v : ℕ) (l : Link) → links v ≡ Some l → 0 < l.seen → l.base + l.seen ≤ pages_of c l.parent.0
  pub either : (v : ℕ) (b : Backing) → backings v ≡ Some b → links v ≡ None

-- a page was looked up: the frame is that which it has in the content
abbrev pub IsFound : Content → FoundPage → Type 0
IsFound c at = at.frame ≡ tag_held (c.page at.place.koid.0 at.place.page)

-- a page, as the code has it
abbrev pub page_at : Place → VmoPage
page_at at = record { koid = at.koid.0; page = at.page }

-- the page at which a look-up of page p of v ends
abbrev pub lookup_end : LooseLinks → Content → ℕ → ℕ → VmoPage
lookup_end links c v p = read_end (page_below c links) v p

-- that page is absent
unfoldable pub is_end_absent : Backings → LooseLinks → Content → ℕ → ℕ → Bool
is_end_absent backings links c v p =
    is_absent c (backings (lookup_end links c v p).koid) (lookup_end links c v p).koid (lookup_end links c v p).page

-- the piece of supplying it
abbrev pub end_piece : LooseLinks → Content → ℕ → ℕ → Piece
end_piece links c v p = supply_of (lookup_end links c v p).koid (lookup_end links c v p).page

-- the pages from `first` to below `end` of v whose look-ups end at absent pages
abbrev pub absent_ends : Backings → LooseLinks → Content → ℕ → (first end : ℕ) → List ℕ
absent_ends backings links c v first end = filter (is_end_absent backings links c v) (range_with_len first (end - first))

-- those of the pages that a range touches
abbrev pub absent_touched : Backings → LooseLinks → Content → ℕ → (offset len : ℕ) → List ℕ
absent_touched backings links c v offset len = filter (is_end_absent backings links c v) (touched offset len)

-- From old, filling a page may lead to new.
pub record FillsPage (backings : Backings) (links : LooseLinks) (old : Content) (part : Piece) (new : Content) : Type 0 where
  pub each : (names : ℕ → Option ℕ) → Fills (state_over old names backings links) part (state_over new names backings links)

-- the same of pages one after another
pub record FillsPages (backings : Backings) (links : LooseLinks) (old : Content) (parts : List Piece) (new : Content) : Type 0 where
  pub each : (names : ℕ → Option ℕ) → FillsEach (state_over old names backings links) parts (state_over new names backings links)

-- The absent pages at which the look-ups of the pages from `first` to below `end` of v end were supplied: none of them is absent now.
pub record IsSupplied (backings : Backings) (links : LooseLinks) (v : ℕ) (old : Content) (first end : ℕ) (new : Content) : Type 0 where
  pub fills : FillsPages backings links old (map (end_piece links old v) (absent_ends backings links old v first end)) new
  pub none : HasNone (is_end_absent backings links new v) first end
  pub readable : IsReadable new backings links
  pub pages : (w : ℕ) → pages_of new w ≡ pages_of old w

-- a page is clean, by its backing
unfoldable pub is_clean_page : Backing → Option Page → ℕ → Bool
is_clean_page b None p = false
is_clean_page b (Some held) p = pointwise nat_eq held.bytes (backing_text (Some b) p)

-- page p of v is clean, by its backing
abbrev pub is_clean_at : Backing → Content → ℕ → ℕ → Bool
is_clean_at b c v p = is_clean_page b (c.page v p) p

-- the content without the clean pages of v from `first` to below `end`
unfoldable pub cleared : Backing → Content → ℕ → ℕ → ℕ → Content
cleared b c v first end = record c {
  page = λ w q. if (w == v) && (is_within first end q && is_clean_at b c v q) then None else c.page w q;
}

-- So many new frames are refused: there are too few free frames, or there are enough and the host has too little memory, which is
-- wanted where there is such a frame.
abbrev pub LacksFrames : Content → ℕ → Refusal → Type 0
LacksFrames c n refusal =
    ((refusal ≡ NoMemory) × (c.frames < used c + n)) ⊎ ((refusal ≡ HostMemory) × (used c + n ≤ c.frames) × (0 < n))

-- A range of whole pages lies inside the VMO v of an open name, which is not loose and has this backing.
pub record IsRangeOfPages (s : SourceState) (name offset len v : ℕ) (b : Backing) : Type 0 where
  pub named : s.names name ≡ Some v
  pub backed : s.backing v ≡ Some b
  pub unlinked : s.link v ≡ None
  pub aligned : (is_aligned offset && is_aligned len) ≡ true
  pub inside : offset + len ≤ pages_of s.content v * PAGE
