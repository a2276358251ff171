-- Laws of pins: the pages that a pin covers, and which pages of a row are pinned.
use Rattle.std.proofs.Common.{◌≡◌, ℕ, ◌+◌, ◌<◌, ◌≤◌, true, false, ◌==◌, Option, Some, refl, arith}
use Rattle.std.proofs.lemmas.Bool.{and_parts, and_from}
use Rattle.std.proofs.lemmas.Bool.Decides.{Decides-eqb}
use Rattle.vm_base.specs.declared.limits.TheConstants.{NAMES}
use Rattle.vm_base.specs.Search.{HasNone}
use Rattle.vm_base.proofs.SearchLaws.{any_from_at, none_from, eqb_is}
use Rattle.vm_base.proofs.EntryLaws.{any_entry_at, entry_count_le}
use Rattle.vm_model.specs.Contents.Zeroing.{is_within}
use Rattle.vm_model.specs.Naming.Pins.{Pin, covers, is_pinned, any_pinned, pin_count}
use Rattle.vm_model.proofs.ZeroingLaws.{is_within-true, is_within-parts}

-- ---- one pin

-- a pin covers the pages of its range
pub covers_at : (v p : ℕ) (pin : Pin) → pin.koid ≡ v → pin.first ≤ p → p < pin.first + pin.count → covers v p pin ≡ true
covers_at v p pin same low high =
    and_from (pin.koid == v) (is_within pin.first (pin.first + pin.count) p) ((Decides-eqb pin.koid v).1 same) (is_within-true pin.first (pin.first + pin.count) p low high)

-- what covers a page is a pin of its VMO, and the page is one of its range
pub covers_parts : (v p : ℕ) (pin : Pin) → covers v p pin ≡ true → (pin.koid ≡ v) × (pin.first ≤ p) × (p < pin.first + pin.count)
covers_parts v p pin e =
    let both = and_parts (pin.koid == v) (is_within pin.first (pin.first + pin.count) p) e in
    let within = is_within-parts pin.first (pin.first + pin.count) p both.1 in
    (eqb_is pin.koid v both.0, within.0, within.1)

-- a page of a pin is pinned
pub is_pinned_of : (pins : ℕ → Option Pin) (n p : ℕ) (pin : Pin) → n < NAMES → pins n ≡ Some pin → pin.first ≤ p → p < pin.first + pin.count → is_pinned pins pin.koid p ≡ true
is_pinned_of pins n p pin h e low high = any_entry_at NAMES (covers pin.koid p) pins n pin h e (covers_at pin.koid p pin refl low high)

-- ---- pages in a row

pub any_pinned_at : (pins : ℕ → Option Pin) (v first end p : ℕ) → first ≤ p → p < end → is_pinned pins v p ≡ true → any_pinned pins v first end ≡ true
unfolding any_pinned
any_pinned_at pins v = any_from_at (is_pinned pins v)

pub none_pinned : (pins : ℕ → Option Pin) (v first end : ℕ) → HasNone (is_pinned pins v) first end → any_pinned pins v first end ≡ false
unfolding any_pinned
none_pinned pins v = none_from (is_pinned pins v)

-- no VMO has more pins than there are names
pub pin_count_le : (pins : ℕ → Option Pin) (v : ℕ) → pin_count pins v ≤ NAMES
pin_count_le = grind (arith, entry_count_le)
