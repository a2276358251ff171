-- How the fields of the table are seen, and what holds of them.
use Rattle.std.specs.Prelude.{◌≡◌, ℕ, ◌+◌, ◌/◌, ◌<◌, ◌≤◌, min, Option, Some, IsSome}
use Rattle.std.specs.HashMap.{spare}
use Rattle.vm_base.specs.declared.limits.TheConstants.{PAGES_END, PIN_PAGES, NAMES}
use Rattle.vm_base.specs.Entries.{entry_count}
use Rattle.vm_model.specs.Naming.Pins.{Pin, covers}
use Rattle.pair_map.specs.Maps.{values_of, spare_of}
use Rattle.pin_table.specs.declared.pin_table.PinTable.TheInside.{Inside}
use Rattle.pin_table.specs.inside.Pages.{pins_at, AllHavePins}
use Rattle.pin_table.specs.Table.{Pins, pins_in}

-- a pin takes room for itself and for as many pages as it may have
abbrev pub pin_table_of : Inside → Pins
pin_table_of a = record {
  pins = a.pins.entries;
  room = min (spare a.pins) (spare_of a.pages / PIN_PAGES);
}

-- Names are below NAMES, a pin ends at or below the end of the page numbers, and the pages in the map are those that
-- pins cover, each with the number of pins that cover it.
pub record AreCountedByPage (pins : ℕ → Option Pin) (pages : ℕ → ℕ → Option ℕ) : Type 0 where
  pub names_below : (n : ℕ) → IsSome (pins n) → n < NAMES
  pub ends : (n : ℕ) (pin : Pin) → pins n ≡ Some pin → pin.first + pin.count ≤ PAGES_END
  pub kept : AllHavePins pages
  pub counted : (v p : ℕ) → pins_at v p pages ≡ entry_count NAMES (covers v p) pins

pub record IsPinTable (a : Inside) : Type 0 where
  pub pages : AreCountedByPage (pins_in a.pins.entries) (values_of a.pages)
