-- The table of pins as a plain list, and what it is to its callers: a map from names, and room.
use Rattle.std.specs.Prelude.{ℕ, ◌==◌, List, Option}
use Rattle.std.specs.Option.{option_map}
use Rattle.std.specs.Map.{lookup}
use Rattle.vm_base.specs.declared.names.Koid.{Koid}
use Rattle.vm_base.specs.declared.names.PinName.{PinName}
use Rattle.vm_model.specs.Naming.Pins.{Pin}
use Rattle.pin_table.specs.declared.pin_table.Pin.{Pin as HeldPin}

-- the entries of the map, and how many pins may be added without asking the host for memory
pub record Pins : Type 0 where
  pub pins : List (PinName × HeldPin)
  pub room : ℕ

-- a VMO, its first page that is pinned, and how many pages are pinned, in plain numbers
abbrev pub pin_of : Koid × ℕ × ℕ → Pin
pin_of pages = record { koid = pages.0.0; first = pages.1; count = pages.2 }

-- the same of a pin of the map
abbrev pub pin_of_held : HeldPin → Pin
pin_of_held pin = record { koid = pin.koid.0; first = pin.first; count = pin.count }

-- entries of pins, as a map from numbers
unfoldable pub pins_in : List (PinName × HeldPin) → ℕ → Option Pin
pins_in entries n = option_map pin_of_held (lookup (λ (name : PinName). n == name.0) entries)

-- the pins under their names
abbrev pub pins_of : Pins → ℕ → Option Pin
pins_of t = pins_in t.pins

-- how many pins may be added without asking the host for memory
abbrev pub pin_room : Pins → ℕ
pin_room t = t.room
