-- What holds of every state that the machine of page sources comes to.
use Rattle.std.specs.Prelude.{◌≡◌, ℕ, ◌+◌, ◌<◌, ◌≤◌, not, None, Some, IsSome, is_some}
use Rattle.vm_model.specs.Contents.Content.{Content, Page, IsGood, pages_of}
use Rattle.source_model.specs.declared.backing.Backing.{Backing}
use Rattle.source_model.specs.declared.link.Link.{Link}
use Rattle.vm_base.specs.declared.limits.TheConstants.{SOURCE_PAGES, SOURCE_KIND_MAX}
use Rattle.vm_model.specs.Contents.Owning.{VmoPage}
use Rattle.source_model.specs.Sources.{backing_text}
use Rattle.source_model.specs.State.{SourceState, below_of}
use Rattle.source_model.specs.Living.{IsLive}

-- a backing of the VMO v
pub record IsGoodBacking (c : Content) (v : ℕ) (b : Backing) : Type 0 where
  pub kind : b.kind ≤ SOURCE_KIND_MAX
  pub seen : b.seen ≤ pages_of c v
  pub inside : b.base + b.seen ≤ SOURCE_PAGES

-- a link of the VMO v
pub record IsGoodLink (c : Content) (v : ℕ) (l : Link) : Type 0 where
  pub smaller : l.parent.0 < v
  pub vmo : IsSome (c.count l.parent.0)
  pub seen : l.seen ≤ pages_of c v
  pub inside : 0 < l.seen → l.base + l.seen ≤ pages_of c l.parent.0

-- What the text of each page is: its own bytes where it is held, those of the page that it shows, where it shows another, and else
-- those of its backing.
pub record IsTextOf (s : SourceState) : Type 0 where
  pub own : (v p : ℕ) (held : Page) → s.content.page v p ≡ Some held → s.text v p ≡ held.bytes
  pub shown : (v p : ℕ) (at : VmoPage) → below_of s v p ≡ Some at → s.text v p ≡ s.text at.koid at.page
  pub backed : (v p : ℕ) → s.content.page v p ≡ None → below_of s v p ≡ None → s.text v p ≡ backing_text (s.backing v) p

pub record IsGoodSources (s : SourceState) : Type 0 where
  pub content : IsGood s.content
  pub counts : (v n : ℕ) → s.content.count v ≡ Some n → n ≤ SOURCE_PAGES
  -- each VMO lives, and has one name at most
  pub live : (v : ℕ) → IsSome (s.content.count v) → IsLive s v
  pub known : (n v : ℕ) → s.names n ≡ Some v → IsSome (s.content.count v)
  pub once : (n m v : ℕ) → s.names n ≡ Some v → s.names m ≡ Some v → n ≡ m
  -- it has a backing or a link, and nothing else has either
  pub either : (v : ℕ) → IsSome (s.content.count v) → is_some (s.backing v) ≡ not (is_some (s.link v))
  pub others : (v : ℕ) → s.content.count v ≡ None → (s.backing v ≡ None) × (s.link v ≡ None)
  pub backing : (v : ℕ) (b : Backing) → s.backing v ≡ Some b → IsGoodBacking s.content v b
  pub link : (v : ℕ) (l : Link) → s.link v ≡ Some l → IsGoodLink s.content v l
  pub text : IsTextOf s
