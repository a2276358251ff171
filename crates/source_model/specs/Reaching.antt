-- A write that is pushed down, said from the page that is written.
use Rattle.std.specs.Prelude.{◌≡◌, ℕ, ◌+◌, ◌<◌, None, Some}
use Rattle.source_model.specs.declared.link.Link.{Link}
use Rattle.source_model.specs.State.{SourceState}

-- A write to page p of v comes to page q of w: it is that page; or it comes to a page of the parent of w that the child shows there,
-- and the child does not hold its own.
pub data WriteReaches (s : SourceState) (v p : ℕ) : ℕ → ℕ → Type 0 where
  at_page : (w q : ℕ) → w ≡ v → q ≡ p → WriteReaches s v p w q
  to_child : (u r w q : ℕ) (l : Link) → WriteReaches s v p u r → s.link w ≡ Some l → l.parent.0 ≡ u → s.content.page w q ≡ None → q < l.seen → l.base + q ≡ r
      → WriteReaches s v p w q
