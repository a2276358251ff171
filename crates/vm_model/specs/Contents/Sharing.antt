-- Pages that several VMOs show: how many VMOs show a frame and which is the first of them, a snapshot of a range, and
-- VMOs that leave. From the kernel's snapshot children, whose pages are copied on write, and from the lifetime of VMOs.
use Rattle.std.specs.Prelude.{◌≡◌, ℕ, ◌+◌, ◌<◌, Bool, true, false, not, ◌==◌, nat_lt, if◌then◌else◌, Option, None, Some}
use Rattle.vm_base.specs.Search.{count_below}
use Rattle.vm_model.specs.Contents.Content.{Page, Content, views}

-- how many VMOs show the frame t
unfoldable pub viewers : Content → ℕ → ℕ
viewers c t = count_below c.next (views c t)

-- v is the least koid that shows the frame t
pub record IsLeastViewer (c : Content) (t v : ℕ) : Type 0 where
  pub shows : views c t v ≡ true
  pub least : (w : ℕ) → w < v → views c t w ≡ false

-- page p of a snapshot that sees `seen` pages of v, from v's page `first` on
unfoldable pub page_seen : Content → ℕ → ℕ → ℕ → ℕ → Option Page
page_seen c v first seen p = if nat_lt p seen then c.page v (first + p) else None

-- c with a snapshot of v under the next koid. It has `pages` pages. The first `seen` of them are those of v from v's
-- page `first` on, with their frames, and the others are zero.
unfoldable pub snapshotted : Content → ℕ → ℕ → ℕ → ℕ → Content
snapshotted c v first seen pages = record c {
  next = c.next + 1;
  count = λ w. if w == c.next then Some pages else c.count w;
  page = λ w p. if w == c.next then page_seen c v first seen p else c.page w p;
}

-- c with only the VMOs that stay
unfoldable pub only : Content → (ℕ → Bool) → Content
only c stays = record c {
  count = λ v. if stays v then c.count v else None;
  page = λ v p. if stays v then c.page v p else None;
}

-- c without the VMO v and its pages
abbrev pub without : Content → ℕ → Content
without c v = only c (λ w. not (w == v))
