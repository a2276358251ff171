-- The keepers of VMOs are the pins that are of them, also as pins come and go.
use Rattle.std.proofs.Common.{◌≡◌, ℕ, ◌+◌, ◌<◌, cond, ◌==◌, Option, None, Some, arith}
use Rattle.std.proofs.lemmas.Bool.{cases_eq}
use Rattle.vm_base.specs.Entries.{with_key, without_key}
use Rattle.vm_base.specs.declared.limits.TheConstants.{NAMES}
use Rattle.vm_base.proofs.SearchLaws.{bit_same, eqb_same, eqb_apart}
use Rattle.vm_base.proofs.EntryLaws.{passes-some, entry_count-with_key, entry_count-without_key}
use Rattle.vm_model.specs.Naming.Pins.{Pin, pin_count}

-- the bit of a pin that is of the VMO, asked the other way round
bit_of-pin : (v k : ℕ) → ◌≡◌ {A = ℕ} (cond (k == v) 1 0) (cond (v == k) 1 0)
bit_of-pin = grind (arith, bit_same, cases_eq, eqb_same, eqb_apart)

-- one pin more, under a name that was free
pub pin_count-with_key : (pins : ℕ → Option Pin) (n : ℕ) (pin : Pin) (v : ℕ) → n < NAMES → pins n ≡ None
    → pin_count (with_key pins n pin) v ≡ pin_count pins v + cond (v == pin.koid) 1 0
pin_count-with_key = grind (arith, entry_count-with_key, bit_of-pin)

-- one pin less
pub pin_count-without_key : (pins : ℕ → Option Pin) (n : ℕ) (pin : Pin) (v : ℕ) → n < NAMES → Some pin ≡ pins n
    → pin_count (without_key pins n) v + cond (v == pin.koid) 1 0 ≡ pin_count pins v
pin_count-without_key = grind (arith, bit_same, passes-some, entry_count-without_key, bit_of-pin)
