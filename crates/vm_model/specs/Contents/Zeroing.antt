-- Pages that become zero: of a range, and past a new end of the VMO. From the kernel's zero and decommit operations on
-- a range, and from setting the size.
use Rattle.std.specs.Prelude.{◌≡◌, ℕ, ◌+◌, ◌*◌, Bool, true, false, not, ◌&&◌, ◌==◌, nat_lt, nat_le, List, [], ◌∷◌, replicate, if◌then◌else◌, None}
use Rattle.std.specs.List.{filter}
use Rattle.vm_base.specs.declared.limits.TheConstants.{PAGE}
use Rattle.vm_model.specs.Contents.Content.{Content, is_held, pages_of}
use Rattle.vm_base.specs.Entries.{with_key}
use Rattle.vm_model.specs.Contents.Writing.{touched, piece, WritesPiece}

-- a page is one of those from `first` to below `end`
abbrev pub is_within : ℕ → ℕ → ℕ → Bool
is_within first end p = nat_le first p && nat_lt p end

-- c, with the pages of v from `first` to below `end` zero
unfoldable pub zeroed : Content → ℕ → ℕ → ℕ → Content
zeroed c v first end = record c { page = λ w p. if (w == v) && is_within first end p then None else c.page w p }

-- c, with this page count of v: pages past the new end are dropped, and new pages are zero
unfoldable pub resized : Content → ℕ → ℕ → Content
resized c v pages = record (zeroed c v pages (pages_of c v)) { count = with_key c.count v pages }

-- page p lies wholly in a range of bytes
abbrev pub is_whole : ℕ → ℕ → ℕ → Bool
is_whole offset len p = nat_le offset (PAGE * p) && nat_le (PAGE * (p + 1)) (offset + len)

-- Page p becomes zero as a whole: it lies wholly in a range of bytes, and is not pinned.
abbrev pub is_cleared : (ℕ → Bool) → ℕ → ℕ → ℕ → Bool
is_cleared pinned offset len p = is_whole offset len p && not (pinned p)

-- From old, zeroing the part of a range that falls into page p of v may lead to new. A page that lies wholly in the
-- range and is not pinned becomes zero. Any other page that is held is written with zeros, as by a write. A page that
-- is zero stays so.
pub record ZeroesPage (old : Content) (v : ℕ) (pinned : ℕ → Bool) (offset len p : ℕ) (new : Content) : Type 0 where
  pub cleared : is_cleared pinned offset len p ≡ true → new ≡ zeroed old v p (p + 1)
  pub held : is_cleared pinned offset len p ≡ false → is_held old v p ≡ true → WritesPiece old (piece v offset (replicate len 0) p) new
  pub zero : is_cleared pinned offset len p ≡ false → is_held old v p ≡ false → new ≡ old

-- the parts of a range that fall into these pages are zeroed, one page after another
abbrev pub Zeroes : Content → ℕ → (ℕ → Bool) → ℕ → ℕ → List ℕ → Content → Type 0
Zeroes old v pinned offset len [] new = new ≡ old
Zeroes old v pinned offset len (p ∷ ps) new = (mid : Content) × ZeroesPage old v pinned offset len p mid × Zeroes mid v pinned offset len ps new

-- the pages that zeroing a range owns: those that it touches, that are held, and that do not become zero as a whole
abbrev pub owned_by_zero : Content → ℕ → (ℕ → Bool) → ℕ → ℕ → List ℕ
owned_by_zero c v pinned offset len = filter (λ p. is_held c v p && not (is_cleared pinned offset len p)) (touched offset len)
