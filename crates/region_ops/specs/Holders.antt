-- Which regions have a page.
use Rattle.std.specs.Prelude.{◌≡◌, ℕ, ◌+◌, ◌<◌, ◌≤◌, true, false, Option, Some}
use Rattle.vm_model.specs.declared.space.Region.{Region}
use Rattle.vm_model.specs.Space.Regions.{end_of, meets_child}

-- the region n is live, of the address space of this root, and has the page p
pub record HasPage (regions : ℕ → Option Region) (root p n : ℕ) : Type 0 where
  pub region : Region
  pub given : regions n ≡ Some region
  pub live : region.live ≡ true
  pub root_is : region.root.0 ≡ root
  pub low : region.first ≤ p
  pub high : p < end_of region

-- the region has the page, and no live child of it has
pub record HoldsPage (regions : ℕ → Option Region) (root p n : ℕ) : Type 0 where
  pub has : HasPage regions root p n
  pub alone : meets_child regions n p (p + 1) ≡ false
