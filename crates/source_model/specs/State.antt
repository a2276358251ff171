-- The states of the machine of page sources, and how commands change them.
use Rattle.std.specs.Prelude.{◌≡◌, ℕ, ◌+◌, ◌-◌, ◌*◌, ◌/◌, ◌%◌, Bool, not, ◌&&◌, ◌==◌, nat_lt, nat_eq, min, List, [], ◌∷◌, map, if◌then◌else◌, Option, None, Some, is_some, option_map, unwrap_or, slice_index}
use Rattle.std.specs.List.{filter, range_with_len}
use Rattle.std.specs.Cmp.Lexicographic.{pointwise}
use Rattle.vm_base.specs.declared.limits.TheConstants.{PAGE}
use Rattle.vm_base.specs.Entries.{with_key, passes}
use Rattle.vm_base.specs.Pages.{zeros, replaced}
use Rattle.vm_model.specs.Contents.Content.{Content, nothing, created, is_held, pages_of}
use Rattle.vm_model.specs.Contents.Sharing.{snapshotted}
use Rattle.vm_model.specs.Contents.Writing.{Piece, WritesPiece, touched}
use Rattle.vm_model.specs.Contents.Zeroing.{is_within}
use Rattle.source_model.specs.declared.backing.Backing.{Backing}
use Rattle.source_model.specs.declared.link.Link.{Link}
use Rattle.source_model.specs.Sources.{backing_text}
use Rattle.source_model.specs.Links.{Below, page_below, read_end, walked, shows_through}
use Rattle.vm_model.specs.Contents.Owning.{VmoPage}

-- A content, names that stand for koids, the backing or the link of each VMO, and the text of each: the bytes of each page, whether
-- the page is in memory or not. A VMO with a link is loose. The text is zeros where no VMO or no page is.
pub record SourceState : Type 0 where
  pub content : Content
  pub names : ℕ → Option ℕ
  pub backing : ℕ → Option Backing
  pub link : ℕ → Option Link
  pub text : ℕ → ℕ → List ℕ

-- this many frames, and nothing else
unfoldable pub empty_sources : ℕ → SourceState
empty_sources frames = record {
  content = record nothing { frames = frames };
  names = λ n. None;
  backing = λ v. None;
  link = λ v. None;
  text = λ v p. zeros;
}

-- a name is open
abbrev pub is_source_open : SourceState → ℕ → Bool
is_source_open s name = is_some (s.names name)

-- the koid of a name. Where it is not open, this means nothing
unfoldable pub source_koid_of : SourceState → ℕ → ℕ
source_koid_of s name = unwrap_or (s.names name) 0

-- the bytes of a name's VMO
abbrev pub source_size_of : SourceState → ℕ → ℕ
source_size_of s name = pages_of s.content (source_koid_of s name) * PAGE

-- a name's VMO is loose
abbrev pub is_loose : SourceState → ℕ → Bool
is_loose s name = is_some (s.link (source_koid_of s name))

-- where the pages of loose VMOs go on
abbrev pub below_of : SourceState → Below
below_of s = page_below s.content s.link

-- ---- reading

-- the byte of v at this place
abbrev pub text_byte : SourceState → ℕ → ℕ → ℕ
text_byte s v at = slice_index (s.text v (at / PAGE)) (at % PAGE)

-- the bytes of a range
unfoldable pub text_in : SourceState → ℕ → ℕ → ℕ → List ℕ
text_in s v offset len = map (text_byte s v) (range_with_len offset len)

-- ---- supplying and writing

-- a page is absent: it is not held, and its bytes are those of a source
unfoldable pub is_absent : Content → Option Backing → ℕ → ℕ → Bool
is_absent c backing v p = not (is_held c v p) && passes (λ (b : Backing). nat_lt p b.seen) backing

-- the absent pages of v that a range touches
abbrev pub absent_in : SourceState → ℕ → ℕ → ℕ → List ℕ
absent_in s v offset len = filter (is_absent s.content (s.backing v) v) (touched offset len)

-- the piece of a page that is supplied: no byte of its text changes
abbrev pub supply_of : ℕ → ℕ → Piece
supply_of v p = record { koid = v; page = p; at = 0; bytes = [] }

-- The absent pages at which reads of these pages of v end. There is one for each of them at most, and none twice
abbrev pub wanted : SourceState → ℕ → List ℕ → List VmoPage
wanted s v ps = filter (λ (at : VmoPage). is_absent s.content (s.backing at.koid) at.koid at.page) (map (read_end (below_of s) v) ps)

-- The text with the bytes of a piece replaced, in its page and in each page that shows it. So a write is seen by the loose children
-- of its VMO, and by theirs, until they write the page themselves.
unfoldable pub pushed : SourceState → Piece → ℕ → ℕ → List ℕ
pushed s part w q =
    if shows_through (below_of s) part.koid part.page w q then replaced (s.text w q) part.at part.bytes else s.text w q

-- From old, filling a page may lead to new: it is owned, and holds its whole text, with the bytes of the piece replaced. In the
-- kernel's terms a pager supplies the page, and what is written is written then.
pub record Fills (old : SourceState) (part : Piece) (new : SourceState) : Type 0 where
  pub content : WritesPiece old.content
      (record { koid = part.koid; page = part.page; at = 0; bytes = pushed old part part.koid part.page }) new.content
  pub rest : new ≡ record old { content = new.content; text = pushed old part }

-- pages are filled one after another
abbrev pub FillsEach : SourceState → List Piece → SourceState → Type 0
FillsEach old [] new = new ≡ old
FillsEach old (part ∷ parts) new = (mid : SourceState) × Fills old part mid × FillsEach mid parts new

-- ---- evicting

-- a page is clean: it is held, and has the bytes that its backing has, so that it may be dropped
unfoldable pub is_clean : SourceState → ℕ → ℕ → Bool
is_clean s v p = is_held s.content v p && pointwise nat_eq (s.text v p) (backing_text (s.backing v) p)

-- the content without the clean pages of v from `first` to below `end`
unfoldable pub evicted : SourceState → ℕ → ℕ → ℕ → Content
evicted s v first end = record s.content {
  page = λ w q. if (w == v) && (is_within first end q && is_clean s v q) then None else s.content.page w q;
}

-- ---- VMOs that come and go

-- the text with that of the VMO v another
unfoldable pub with_text : (ℕ → ℕ → List ℕ) → ℕ → (ℕ → List ℕ) → ℕ → ℕ → List ℕ
with_text texts v text w q = if w == v then text q else texts w q

-- a new VMO with this backing, of which no page is held, and its name
unfoldable pub with_source : SourceState → ℕ → ℕ → Backing → SourceState
with_source s name pages b = record s {
  content = created s.content pages;
  names = with_key s.names name s.content.next;
  backing = with_key s.backing s.content.next b;
  text = with_text s.text s.content.next (backing_text (Some b));
}

-- how many pages of so many, from page `start` on, a child of `pages` pages has of them
abbrev pub seen_of : (have start pages : ℕ) → ℕ
seen_of have start pages = min pages (have - start)

-- the backing of a child: that of its parent, from page `start` on
unfoldable pub moved : (start pages : ℕ) → Backing → Backing
moved start pages b = record b {
  base = if seen_of b.seen start pages == 0 then 0 else b.base + start;
  seen = seen_of b.seen start pages;
}

-- the text of a child that sees `seen` pages of v, from page `start` on: as it is now, and zeros behind
abbrev pub child_text : (ℕ → ℕ → List ℕ) → (v start seen : ℕ) → ℕ → List ℕ
child_text text v start seen q = if nat_lt q seen then text v (start + q) else zeros

-- a snapshot of v under the next koid, and its name
unfoldable pub with_child : SourceState → ℕ → (v start pages : ℕ) → SourceState
with_child s name v start pages =
    let seen = seen_of (pages_of s.content v) start pages in
    record s {
      content = snapshotted s.content v start seen pages;
      names = with_key s.names name s.content.next;
      backing = λ w. if w == s.content.next then option_map (moved start pages) (s.backing v) else s.backing w;
      text = with_text s.text s.content.next (child_text s.text v start seen);
    }

-- a loose child of v under the next koid, and its name. None of its pages is held
unfoldable pub with_loose : SourceState → ℕ → (v start pages : ℕ) → SourceState
with_loose s name v start pages =
    let seen = seen_of (pages_of s.content v) start pages in
    record s {
      content = created s.content pages;
      names = with_key s.names name s.content.next;
      link = with_key s.link s.content.next (record { parent = record { 0 = v }; base = start; seen = seen });
      text = with_text s.text s.content.next (child_text s.text v start seen);
    }

-- ---- the states that the code stands for

-- the state over a content, names, backings and links, whose text is that of the pages at which look-ups end
abbrev pub state_over : Content → (ℕ → Option ℕ) → (ℕ → Option Backing) → (ℕ → Option Link) → SourceState
state_over c names backing link =
    record { content = c; names = names; backing = backing; link = link; text = walked c backing (page_below c link) }
