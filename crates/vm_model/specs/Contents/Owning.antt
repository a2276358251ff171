-- Owning a page before it is written (copy on write), and how many frames that takes.
use Rattle.std.specs.Prelude.{◌≡◌, ℕ, suc, ◌+◌, ◌<◌, true, false, List, [], ◌∷◌, map, if◌then◌else◌, Some}
use Rattle.vm_model.specs.Contents.Content.{Content, Page, shown, in_use, sole, hold}

-- From old, owning page p of v may lead to new, with this frame. A sole page stays as it is. Any other page gets a
-- frame that no page has, with the bytes that it showed.
pub record Owns (old new : Content) (v p tag : ℕ) : Type 0 where
  pub stays : sole old v p ≡ true → (new ≡ old) × ((held : Page) → old.page v p ≡ Some held → tag ≡ held.tag)
  pub copies : sole old v p ≡ false → (tag < old.frames) × (in_use old tag ≡ false) × (new ≡ hold old v p (record { tag = tag; bytes = shown old v p }))

-- a page of a VMO
pub record VmoPage : Type 0 where
  pub koid : ℕ
  pub page : ℕ

-- pages of the VMO v
abbrev pub pages_at : ℕ → List ℕ → List VmoPage
pages_at v ps = map (λ p. record { koid = v; page = p }) ps

-- the pages, of any VMOs, are owned one after another
abbrev pub OwnsEach : Content → List VmoPage → Content → Type 0
OwnsEach old [] new = new ≡ old
OwnsEach old (w ∷ ws) new = (mid : Content) × (tag : ℕ) × Owns old mid w.koid w.page tag × OwnsEach mid ws new

-- pages of v are owned one after another
abbrev pub OwnsAll : Content → ℕ → List ℕ → Content → Type 0
OwnsAll old v ps new = OwnsEach old (pages_at v ps) new

-- The number of these pages that are not sole when their turn comes, if they are owned one after another. New frames
-- are counted on from `fresh`, so that the number does not depend on which frames are free.
unfoldable pub need_from : ℕ → Content → List VmoPage → ℕ
need_from fresh c [] = 0
need_from fresh c (w ∷ ws) =
    if sole c w.koid w.page then need_from fresh c ws
    else suc (need_from (fresh + 1) (hold c w.koid w.page (record { tag = fresh; bytes = shown c w.koid w.page })) ws)

-- the new frames that owning these pages takes
abbrev pub need_each : Content → List VmoPage → ℕ
need_each c ws = need_from c.frames c ws

-- the new frames that owning pages of v takes
abbrev pub need : Content → ℕ → List ℕ → ℕ
need c v ps = need_each c (pages_at v ps)
