-- The pages that a range of a VMO touches.
use Rattle.std.specs.Prelude.{◌≡◌, ℕ, ◌+◌, ◌-◌, ◌*◌, ◌/◌, ◌<◌, ◌≤◌, List}
use Rattle.std.specs.List.{range_with_len}
use Rattle.vm_base.specs.declared.limits.TheConstants.{PAGE}
use Rattle.vm_model.specs.Contents.Writing.{touched}
use Rattle.vmo_ops.specs.declared.ranges.TouchedPages.{TouchedPages}

-- pages in a row, one by one
abbrev pub touched_row : TouchedPages → List ℕ
touched_row pages = range_with_len pages.first (pages.end - pages.first)

-- A range of `len` bytes, `at` bytes into a VMO, touches these pages. If it has no byte, there are none.
pub record AreTouched (at len : ℕ) (pages : TouchedPages) : Type 0 where
  pub first : pages.first ≡ at / PAGE
  pub order : pages.first ≤ pages.end
  pub end : pages.end * PAGE < at + len + PAGE
  pub all : len ≤ pages.end * PAGE - at
  pub row : touched at len ≡ touched_row pages
