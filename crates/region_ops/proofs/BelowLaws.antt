-- Laws of regions that die one after another, and of what lies below what.
use Rattle.std.proofs.Common.{◌≡◌, ℕ, ◌<◌, Bool, true, false, cond, ◌||◌, Option, None, Some, ◌⊎◌, refl, sym, ap, ◌∙◌, inl, inr, arith}
use Rattle.std.specs.Option.{option_map}
use Rattle.std.proofs.lemmas.Bool.{false_from_ne_true}
use Rattle.vm_model.specs.declared.space.Region.{Region}
use Rattle.vm_model.specs.Space.Regions.{end_of, lies_in, is_below, killed, AreGoodRegions}
use Rattle.vm_model.proofs.RegionLaws.{reaches_over_parts, below_each, lies_in_parts, lies_in_from}
use Rattle.vm_base.proofs.EntryLaws.{some_same}

-- ---- regions that die one after another

-- a region that dies twice dies once
pub killed-twice : (regions : ℕ → Option Region) (dies too : ℕ → Bool) → killed (killed regions dies) too ≡ killed regions (λ n. dies n || too n)
unfolding killed
killed-twice regions dies too = λ i n. one (regions n) (dies n) (too n) i where
  one : (o : Option Region) (a b : Bool) → option_map (λ (r : Region). cond b (record r { live = false }) r) (option_map (λ (r : Region). cond a (record r { live = false }) r) o)
      ≡ option_map (λ (r : Region). cond (a || b) (record r { live = false }) r) o
  one None a b = refl
  one (Some r) true true = refl
  one (Some r) true false = refl
  one (Some r) false b = refl

-- where two tell the same of each region that is live, the same die
pub killed-alike : (regions : ℕ → Option Region) (dies too : ℕ → Bool) → ((n : ℕ) (region : Region) → regions n ≡ Some region → (dies n ≡ too n) ⊎ (region.live ≡ false))
    → killed regions dies ≡ killed regions too
unfolding killed
killed-alike regions dies too each = λ i n. one n (regions n) refl i where
  dead : (region : Region) (b : Bool) → region.live ≡ false → cond b (record region { live = false }) region ≡ region
  dead region true e = λ i. record region { live = sym e i }
  dead region false e = refl

  one : (n : ℕ) (o : Option Region) → regions n ≡ o → option_map (λ (r : Region). cond (dies n) (record r { live = false }) r) o
      ≡ option_map (λ (r : Region). cond (too n) (record r { live = false }) r) o
  one n None e = refl
  one n (Some region) e = elim (each n region e) [
    | inl same ↦ ap (λ (b : Bool). Some (cond b (record region { live = false }) region)) same
    | inr off ↦ ap (λ (r : Region). Some r) (dead region (dies n) off ∙ sym (dead region (too n) off))
  ]

-- ---- what lies below what

-- a live region below another lies in it
pub lies_below : (regions : ℕ → Option Region) → AreGoodRegions regions → (name : ℕ) (above : Region) → regions name ≡ Some above
    → (n : ℕ) (region : Region) → regions n ≡ Some region → region.live ≡ true → is_below regions name n ≡ true → lies_in above.first (end_of above) region ≡ true
lies_below regions good name above given n region e live below =
    below_each regions good name (λ m r. r.live ≡ true → lies_in above.first (end_of above) r ≡ true) (λ m r p up f g older is at alive.
    let inside = reaches_over_parts r.first (end_of r) up (is.inside alive) in
    elim at [
      | inl here ↦
          let same : up ≡ above = some_same (sym g ∙ (ap regions here ∙ given)) in
          lies_in_from above.first (end_of above) r (omega (arith, inside.0, ap (λ (x : Region). x.first) same)) (omega (arith, inside.1, ap end_of same))
      | inr higher ↦ let outer = lies_in_parts above.first (end_of above) up (higher (is.live alive)) in lies_in_from above.first (end_of above) r (omega (arith, inside.0, outer.0)) (omega (arith, inside.1, outer.1))
    ]) n region e below live

-- no region lies below itself
pub not_below_itself : (regions : ℕ → Option Region) → AreGoodRegions regions → (name : ℕ) (region : Region) → regions name ≡ Some region → is_below regions name name ≡ false
not_below_itself regions good name region e = false_from_ne_true (is_below regions name name) (λ below.
    let older = below_each regions good name (λ m r. good.age name < good.age m) (λ m r p up f g less is at. elim at [
      | inl here ↦ omega (arith, less, ap good.age here)
      | inr higher ↦ omega (arith, less, higher)
    ]) name region e below in
    absurd (omega (arith, older)))
