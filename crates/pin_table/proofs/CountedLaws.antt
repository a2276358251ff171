-- The entries count the pins, as pins come and go, and say which pages are pinned.
use Rattle.std.proofs.Common.{◌≡◌, ℕ, ◌+◌, ◌<◌, ◌≤◌, true, false, ltb, Option, None, Some, is_some, refl, sym, ap, subst, ◌∙◌, inl, inr, arith}
use Rattle.std.proofs.lemmas.Bool.{cases_eq, lt-ltb, le-ltb}
use Rattle.vm_base.specs.declared.limits.TheConstants.{PAGES_END, NAMES}
use Rattle.vm_base.specs.Search.{HasNone, IsFirst}
use Rattle.vm_base.specs.Entries.{with_key, without_key}
use Rattle.vm_model.specs.Naming.Pins.{Pin, covers, is_pinned, any_pinned}
use Rattle.vm_base.specs.Entries.{passes, entry_count}
use Rattle.vm_base.proofs.SearchLaws.{bit_same, any_from-first}
use Rattle.vm_base.proofs.EntryLaws.{passes-some, any_entry-count, entry_count_le, entry_count_hit, entry_count-empty, entry_count-with_key, entry_count-without_key, with_key-other, with_key-cases, without_key-other, without_key-some}
use Rattle.vm_model.proofs.PinLaws.{covers_at}
use Rattle.pin_table.specs.inside.Pages.{pins_at, AllHavePins, AddsPin}
use Rattle.pin_table.specs.inside.TableFields.{AreCountedByPage}
use Rattle.pair_map.specs.Maps.{IsNext}
use Rattle.std.specs.Prelude.{unwrap_or, IsSome}

-- ---- no pins

pub AreCountedByPage-empty : (pins : ℕ → Option Pin) (entries : ℕ → ℕ → Option ℕ) → ((n : ℕ) → pins n ≡ None) → entries ≡ (λ v p. None) → AreCountedByPage pins entries
AreCountedByPage-empty pins entries none empty =
    let none_at : (v p : ℕ) → entries v p ≡ None = λ v p. ap (λ m. m v p) empty in
    record {
      names_below = λ n some. absurd (let gone : false ≡ true = sym (ap is_some (none n)) ∙ some in cc);
      ends = λ n pin e. absurd (let gone = none n in cc);
      kept = record { pinned = λ v p n e. absurd (let gone = none_at v p in cc) };
      counted = λ v p.
          ap (λ o. unwrap_or o 0) (none_at v p)
          ∙ sym (entry_count-empty NAMES (covers v p) pins none);
    }

-- pins and entries that agree
pub AreCountedByPage-same : (pins others : ℕ → Option Pin) (entries more : ℕ → ℕ → Option ℕ) → others ≡ pins → more ≡ entries → AreCountedByPage pins entries → AreCountedByPage others more
AreCountedByPage-same pins others entries more e f counted =
    subst (λ (m : ℕ → Option Pin). AreCountedByPage m more) (sym e) (subst (λ (es : ℕ → ℕ → Option ℕ). AreCountedByPage pins es) (sym f) counted)

module _ (pins : ℕ → Option Pin) (entries : ℕ → ℕ → Option ℕ) (counted : AreCountedByPage pins entries) where
  -- no page has more pins than there are names
  pub pins_few : (v p : ℕ) → pins_at v p entries ≤ NAMES
  pins_few v p = omega (arith, counted.counted v p, entry_count_le NAMES (covers v p) pins)

  -- the pages of a pin have one
  pub pages_counted : (n : ℕ) (pin : Pin) → pins n ≡ Some pin → (p : ℕ) → pin.first ≤ p → p < pin.first + pin.count → 1 ≤ pins_at pin.koid p entries
  pages_counted n pin e p low high =
      let hit = entry_count_hit NAMES (covers pin.koid p) pins n pin (counted.names_below n (ap is_some e)) e (covers_at pin.koid p pin refl low high) in
      omega (arith, counted.counted pin.koid p, hit)

  -- ---- a pin is added

  pub AreCountedByPage-added : (n : ℕ) (pin : Pin) (more : ℕ → ℕ → Option ℕ) → n < NAMES → pins n ≡ None → pin.first + pin.count ≤ PAGES_END → AllHavePins more →
      AddsPin entries more pin.koid pin.first (pin.first + pin.count) → AreCountedByPage (with_key pins n pin) more
  AreCountedByPage-added n pin more low free end kept adds = record {
    names_below = λ m some. elim (cases_eq m n) [
      | inl same ↦ omega arith
      | inr apart ↦ counted.names_below m (ap is_some (sym (with_key-other pins n pin m apart)) ∙ some)
    ];
    ends = λ m other e. elim (with_key-cases pins n pin m other e) [
      | inl here ↦ let first = ap (λ (x : Pin). x.first) here.1 in let count = ap (λ (x : Pin). x.count) here.1 in omega (arith, end)
      | inr was ↦ counted.ends m other was.1
    ];
    kept = kept;
    counted = λ v p.
        omega (arith, adds.counts v p, counted.counted v p, entry_count-with_key NAMES (covers v p) pins n pin low free);
  }

  -- ---- a pin is taken out

  pub AreCountedByPage-removed : (n : ℕ) (pin : Pin) (fewer : ℕ → ℕ → Option ℕ) → pins n ≡ Some pin → AllHavePins fewer → AddsPin fewer entries pin.koid pin.first (pin.first + pin.count) → AreCountedByPage (without_key pins n) fewer
  AreCountedByPage-removed n pin fewer there kept adds =
      let low = counted.names_below n (ap is_some there) in
      record {
        names_below = λ m some. elim (cases_eq m n) [
          | inl same ↦ omega arith
          | inr apart ↦ counted.names_below m (ap is_some (sym (without_key-other pins n m apart)) ∙ some)
        ];
        ends = λ m other e. counted.ends m other (without_key-some pins n m other e).1;
        kept = kept;
        counted = λ v p.
            let bit = bit_same (passes (covers v p) (pins n)) (covers v p pin) (passes-some (covers v p) (pins n) pin there) in
            omega (arith, adds.counts v p, counted.counted v p, entry_count-without_key NAMES (covers v p) pins n low, bit);
      }

  -- ---- pages that are pinned

  pinned_at : (v p : ℕ) → 1 ≤ pins_at v p entries → is_pinned pins v p ≡ true
  pinned_at v p some = any_entry-count NAMES (covers v p) pins ∙ lt-ltb 0 (entry_count NAMES (covers v p) pins) (omega (arith, counted.counted v p))

  unpinned_at : (v p : ℕ) → pins_at v p entries ≡ 0 → is_pinned pins v p ≡ false
  unpinned_at v p none = any_entry-count NAMES (covers v p) pins ∙ le-ltb 0 (entry_count NAMES (covers v p) pins) (omega (arith, counted.counted v p))

  -- no page behind the last entry is pinned
  pub pinned-none : (v from end : ℕ) → IsNext (entries v) from None → HasNone (is_pinned pins v) from end
  pinned-none v from end next p low high = unpinned_at v p (ap (λ o. unwrap_or o 0) (next.none refl p low))

  -- the page of the next entry is the next that is pinned
  pub pinned-first : (v from p : ℕ) → IsNext (entries v) from (Some p) → IsFirst (is_pinned pins v) from (p + 1) p
  pinned-first v from p next =
      let is = next.least p refl in
      record {
        order = is.0;
        below = omega arith;
        hit = pinned_at v p (some p (entries v p) refl is.1);
        gap = λ q low high. unpinned_at v q (ap (λ o. unwrap_or o 0) (is.2 q low high));
      }
    where
      some : (p : ℕ) (o : Option ℕ) → entries v p ≡ o → IsSome o → 1 ≤ unwrap_or o 0
      some p None e there = absurd (cc)
      some p (Some n) e there = counted.kept.pinned v p n e

-- whether a page of a range is pinned, by the next that is
pub any_pinned-first : (pins : ℕ → Option Pin) (v first end p : ℕ) → IsFirst (is_pinned pins v) first (p + 1) p → any_pinned pins v first end ≡ ltb p end
unfolding any_pinned
any_pinned-first pins v first end p next = any_from-first next end
