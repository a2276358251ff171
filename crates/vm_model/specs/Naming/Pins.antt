-- Pins, which keep pages of a VMO in their frames. From the kernel's pinned memory.
use Rattle.std.specs.Prelude.{ℕ, ◌+◌, Bool, ◌&&◌, ◌==◌, Option}
use Rattle.vm_base.specs.Search.{any_from}
use Rattle.vm_base.specs.Entries.{any_entry, entry_count}
use Rattle.vm_base.specs.declared.limits.TheConstants.{NAMES}
use Rattle.vm_model.specs.Contents.Zeroing.{is_within}

-- pages of a VMO, `count` of them from the page `first` on
pub record Pin : Type 0 where
  pub koid : ℕ
  pub first : ℕ
  pub count : ℕ

-- some pin is of the VMO v
abbrev pub has_pin : (ℕ → Option Pin) → ℕ → Bool
has_pin pins v = any_entry NAMES (λ (pin : Pin). pin.koid == v) pins

-- how many pins are of the VMO v
abbrev pub pin_count : (ℕ → Option Pin) → ℕ → ℕ
pin_count pins v = entry_count NAMES (λ (pin : Pin). pin.koid == v) pins

-- a pin covers page p of the VMO v
abbrev pub covers : ℕ → ℕ → Pin → Bool
covers v p pin = (pin.koid == v) && is_within pin.first (pin.first + pin.count) p

-- some pin covers page p of the VMO v
abbrev pub is_pinned : (ℕ → Option Pin) → ℕ → ℕ → Bool
is_pinned pins v p = any_entry NAMES (covers v p) pins

-- some page of the VMO v, from `first` to below `end`, is pinned
unfoldable pub any_pinned : (ℕ → Option Pin) → ℕ → ℕ → ℕ → Bool
any_pinned pins v first end = any_from first end (is_pinned pins v)
