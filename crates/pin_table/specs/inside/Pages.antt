-- How many pins cover each page of each VMO, as a map from koids and page numbers.
use Rattle.std.specs.Prelude.{◌≡◌, ℕ, ◌+◌, ◌≤◌, ◌==◌, ◌&&◌, cond, Option, Some, unwrap_or}
use Rattle.vm_model.specs.Contents.Zeroing.{is_within}

-- how many pins page p of v has
abbrev pub pins_at : ℕ → ℕ → (ℕ → ℕ → Option ℕ) → ℕ
pins_at v p pages = unwrap_or (pages v p) 0

-- each page in the map has a pin
pub record AllHavePins (pages : ℕ → ℕ → Option ℕ) : Type 0 where
  pub pinned : (v p n : ℕ) → pages v p ≡ Some n → 1 ≤ n

-- In `more` each page of v from `first` to below `end` has one pin more than in `fewer`, and every other page has as
-- many.
pub record AddsPin (fewer more : ℕ → ℕ → Option ℕ) (v first end : ℕ) : Type 0 where
  pub counts : (w p : ℕ) → pins_at w p more ≡ pins_at w p fewer + cond ((v == w) && is_within first end p) 1 0
