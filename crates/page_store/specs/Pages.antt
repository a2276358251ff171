-- What the calls of a page store ask and answer, over contents.
use Rattle.std.specs.Prelude.{◌≡◌, ℕ, List, length, take, drop, Option, None, Some}
use Rattle.vm_model.specs.Contents.Content.{Content, Page, is_sole_page, hold}
use Rattle.vm_base.specs.declared.names.Tag.{Tag}
use Rattle.vm_base.specs.Pages.{replaced}
use Rattle.page_store.specs.declared.page_store.Look.{Look}
use Rattle.page_store.specs.declared.page_store.Look.TheVariants as look

-- what looking at a page of v answers
abbrev pub look_at : Content → ℕ → Option Page → Look
look_at c v None = look.Zero
look_at c v (Some held) = look.Held (record { 0 = held.tag }) (is_sole_page c v (Some held))

-- the frame of a page, if it is held
abbrev pub tag_held : Option Page → Option Tag
tag_held None = None
tag_held (Some held) = Some (record { 0 = held.tag })

-- page p of v is held with the frame t
pub record ShowsTag (c : Content) (t v p : ℕ) (held : Page) : Type 0 where
  pub page : c.page v p ≡ Some held
  pub tag : held.tag ≡ t

-- some page has the frame t
pub record IsShown (c : Content) (t : ℕ) : Type 0 where
  pub v : ℕ
  pub p : ℕ
  pub held : Page
  pub shows : ShowsTag c t v p held

-- page p of v has the frame t, and no other page has
pub record ShowsAlone (c : Content) (t v p : ℕ) (held : Page) : Type 0 where
  pub shows : ShowsTag c t v p held
  pub alone : (w q : ℕ) (other : Page) → ShowsTag c t w q other → (w ≡ v) × (q ≡ p)

-- exactly one page has the frame t
pub record IsShownOnce (c : Content) (t : ℕ) : Type 0 where
  pub v : ℕ
  pub p : ℕ
  pub held : Page
  pub shows : ShowsAlone c t v p held

-- these are bytes of the frame t, from this place in the page on
abbrev pub AreBytesOf : Content → ℕ → ℕ → List ℕ → Type 0
AreBytesOf c t at bytes = (v p : ℕ) (held : Page) → ShowsTag c t v p held →
    bytes ≡ take (length bytes) (drop at held.bytes)

-- the one page that has the frame t has these bytes from this place on, and all else is as it was
abbrev pub Overwrites : Content → Content → ℕ → ℕ → List ℕ → Type 0
Overwrites old new t at bytes =
    (v p : ℕ) (held : Page) → ShowsTag old t v p held →
    new ≡ hold old v p (record held { bytes = replaced held.bytes at bytes })
