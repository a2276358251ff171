-- What a page store contains: page frames, and VMOs that show them. From the kernel's VMO pages: sparse, zero until
-- written.
use Rattle.std.specs.Prelude.{◌≡◌, ℕ, ◌+◌, ◌<◌, ◌≤◌, Bool, false, not, ◌&&◌, ◌==◌, List, length, if◌then◌else◌, Option, None, Some, is_some, unwrap_or}
use Rattle.vm_base.specs.declared.limits.TheConstants.{PAGE, VMO_PAGES}
use Rattle.vm_base.specs.Search.{any_below, count_below}
use Rattle.vm_base.specs.Pages.{zeros}
use Rattle.vm_base.specs.Entries.{with_key}

-- a page that is held: the number of its frame, and the frame's bytes
pub record Page : Type 0 where
  pub tag : ℕ
  pub bytes : List ℕ

-- A content has a number of frames and the next koid. If a koid is a VMO's, it has a page count. A page of a VMO is
-- held, or it is zero and uses no frame.
pub record Content : Type 0 where
  pub frames : ℕ
  pub next : ℕ
  pub count : ℕ → Option ℕ
  pub page : ℕ → ℕ → Option Page

-- no frames, no VMO, and the first koid is 1
unfoldable pub nothing : Content
nothing = record { frames = 0; next = 1; count = λ v. None; page = λ v p. None }

-- the content has no VMO, and so no page
pub record HasNoVmo (c : Content) : Type 0 where
  pub none : (v : ℕ) → c.count v ≡ None
  pub no_page : (v p : ℕ) → c.page v p ≡ None

-- the bytes that a page shows
unfoldable pub bytes_of : Option Page → List ℕ
bytes_of None = zeros
bytes_of (Some held) = held.bytes

-- page p of the VMO v shows these bytes
abbrev pub shown : Content → ℕ → ℕ → List ℕ
shown c v p = bytes_of (c.page v p)

-- page p of the VMO v is held
abbrev pub is_held : Content → ℕ → ℕ → Bool
is_held c v p = is_some (c.page v p)

-- how many pages the VMO has
unfoldable pub pages_of : Content → ℕ → ℕ
pages_of c v = unwrap_or (c.count v) 0

-- a page has the frame t
unfoldable pub has_tag : ℕ → Option Page → Bool
has_tag t None = false
has_tag t (Some held) = held.tag == t

-- the VMO v shows the frame t on some page
unfoldable pub views : Content → ℕ → ℕ → Bool
views c t v = any_below (pages_of c v) (λ p. has_tag t (c.page v p))

-- some VMO shows the frame t
unfoldable pub in_use : Content → ℕ → Bool
in_use c t = any_below c.next (views c t)

-- how many frames some VMO shows
unfoldable pub used : Content → ℕ
used c = count_below c.frames (in_use c)

-- how many VMOs there are
unfoldable pub vmos_of : Content → ℕ
vmos_of c = count_below c.next (λ v. is_some (c.count v))

-- a VMO other than v shows the frame t
unfoldable pub seen_elsewhere : Content → ℕ → ℕ → Bool
seen_elsewhere c t v = any_below c.next (λ w. not (w == v) && views c t w)

-- a page of v is sole: it is held, and no other VMO shows its frame
unfoldable pub is_sole_page : Content → ℕ → Option Page → Bool
is_sole_page c v None = false
is_sole_page c v (Some held) = not (seen_elsewhere c held.tag v)

abbrev pub sole : Content → ℕ → ℕ → Bool
sole c v p = is_sole_page c v (c.page v p)

-- c with page p of v held, with this frame and these bytes
unfoldable pub hold : Content → ℕ → ℕ → Page → Content
hold c v p held = record c { page = λ w q. if (w == v) && (q == p) then Some held else c.page w q }

-- c with a new VMO of this many zero pages, under the next koid
unfoldable pub created : Content → ℕ → Content
created c pages = record c { next = c.next + 1; count = with_key c.count c.next pages }

-- What holds of every content that the machine comes to.
pub record IsGood (c : Content) : Type 0 where
  -- koids are numbers from 1 to below the next
  pub koids : (v n : ℕ) → c.count v ≡ Some n → (1 ≤ v) × (v < c.next)
  pub counts : (v n : ℕ) → c.count v ≡ Some n → n ≤ VMO_PAGES
  pub first_koid : 1 ≤ c.next
  -- held pages lie below the count, have the bytes of a page, and a frame of the machine
  pub below : (v p : ℕ) (held : Page) → c.page v p ≡ Some held → p < pages_of c v
  pub whole : (v p : ℕ) (held : Page) → c.page v p ≡ Some held → length held.bytes ≡ PAGE
  pub tags : (v p : ℕ) (held : Page) → c.page v p ≡ Some held → held.tag < c.frames
  -- pages with one frame show the same, and two pages of one VMO have different frames
  pub alike : (v p w q : ℕ) (held other : Page) → c.page v p ≡ Some held → c.page w q ≡ Some other → held.tag ≡ other.tag → held.bytes ≡ other.bytes
  pub apart : (v p q : ℕ) (held other : Page) → c.page v p ≡ Some held → c.page v q ≡ Some other → held.tag ≡ other.tag → p ≡ q
