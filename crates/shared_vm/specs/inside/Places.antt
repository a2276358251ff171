-- Parts of a list that stand one behind another.
use Rattle.std.specs.Prelude.{ℕ, ◌-◌, ◌≤◌, List, take, drop}
use Rattle.shared_vm.specs.declared.place.Place.{Place}

-- the part at a place
abbrev pub items_at : {A : Type 0} → List A → Place → List A
items_at items place = take (place.end - place.start) (drop place.start items)

-- the place lies within so many items
pub record LiesWithin (len : ℕ) (place : Place) : Type 0 where
  pub ordered : place.start ≤ place.end
  pub short : place.end ≤ len
