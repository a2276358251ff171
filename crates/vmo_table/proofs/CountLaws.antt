-- What is counted of each VMO, as VMOs are written, come and leave.
use Rattle.std.proofs.Common.{◌≡◌, ℕ, ◌+◌, ◌-◌, ◌<◌, ◌==◌, ◌&&◌, true, cond, Option, Some, is_some, refl, ap, arith}
use Rattle.std.specs.Prelude.{unwrap_or}
use Rattle.std.specs.Option.{option_map}
use Rattle.std.proofs.lemmas.Grind.{common_steps}
use Rattle.vm_base.specs.declared.names.Koid.{Koid}
use Rattle.vm_base.specs.Entries.{with_key}
use Rattle.vm_model.specs.Naming.Names.{is_parent}
use Rattle.vmo_table.specs.declared.vmos.Vmo.{Vmo}
use Rattle.vmo_table.specs.Vmos.{counted_for, keepers_in, adopted, vmos_without}

-- maps that agree at each key are one
pub funext : {A : Type 0} {f g : ℕ → A} → ((n : ℕ) → f n ≡ g n) → f ≡ g
funext each = λ i n. each n i

module _ (count : Vmo → ℕ) (vmos : ℕ → Option Vmo) where
  -- where it is known what is there
  pub count-at : (v : ℕ) (o : Option Vmo) → vmos v ≡ o → counted_for count vmos v ≡ unwrap_or (option_map count o) 0
  unfolding counted_for
  count-at v o e = ap (λ (x : Option Vmo). unwrap_or (option_map count x) 0) e

  -- where more than none count, a VMO is there
  pub count-there : (v : ℕ) → 0 < counted_for count vmos v → is_some (vmos v) ≡ true
  unfolding counted_for
  count-there v h = grind (arith, common_steps)

  pub count-with_key : (k : ℕ) (new : Vmo) (v : ℕ) →
      counted_for count (with_key vmos k new) v ≡ cond (v == k) (count new) (counted_for count vmos v)
  unfolding counted_for with_key
  count-with_key k new v = grind (arith, common_steps)

  -- a VMO of which as much is counted as before
  pub count-same : (k : ℕ) (old new : Vmo) → vmos k ≡ Some old → count new ≡ count old → (v : ℕ) →
      counted_for count (with_key vmos k new) v ≡ counted_for count vmos v
  count-same k old new found same v = grind (arith, common_steps, count-with_key k new v, count-at k (Some old) found)

  -- another count of children changes no other count
  pub count-adopted : ((x : Vmo) (n : ℕ) → count (record x { children = n }) ≡ count x) → (parent : Option ℕ) (gone come v : ℕ) →
      counted_for count (adopted vmos parent gone come) v ≡ counted_for count vmos v
  unfolding counted_for adopted
  count-adopted keeps parent gone come v = grind (arith, common_steps, keeps)

  -- a VMO that leaves takes its counts with it
  pub count-without : ((x : Vmo) (o : Option Koid) → count (record x { parent = o }) ≡ count x) → (k : ℕ) (parent : Option Koid) (v : ℕ) →
      counted_for count (vmos_without vmos k parent) v ≡ cond (v == k) 0 (counted_for count vmos v)
  unfolding counted_for vmos_without
  count-without keeps k parent v = grind (arith, common_steps, keeps)

pub children-adopted : (vmos : ℕ → Option Vmo) (parent : Option ℕ) (gone come v : ℕ) →
    counted_for (λ (vmo : Vmo). vmo.children) (adopted vmos parent gone come) v
    ≡ cond (is_parent v parent && is_some (vmos v)) (counted_for (λ (vmo : Vmo). vmo.children) vmos v - gone + come) (counted_for (λ (vmo : Vmo). vmo.children) vmos v)
unfolding counted_for adopted
children-adopted vmos parent gone come v = grind (arith, common_steps)

-- ---- keepers

pub keepers-at : (vmos : ℕ → Option Vmo) (v : ℕ) (o : Option Vmo) → vmos v ≡ o →
    keepers_in vmos v ≡ unwrap_or (option_map (λ (vmo : Vmo). vmo.keepers) o) 0
unfolding keepers_in
keepers-at = count-at (λ (vmo : Vmo). vmo.keepers)

pub keepers-with_key : (vmos : ℕ → Option Vmo) (k : ℕ) (new : Vmo) (v : ℕ) →
    keepers_in (with_key vmos k new) v ≡ cond (v == k) new.keepers (keepers_in vmos v)
unfolding keepers_in
keepers-with_key = count-with_key (λ (vmo : Vmo). vmo.keepers)

-- a VMO is written with the keepers that it had, where it was there
pub keepers-same : (vmos : ℕ → Option Vmo) (k : ℕ) (new : Vmo) → keepers_in vmos k ≡ new.keepers →
    keepers_in (with_key vmos k new) ≡ keepers_in vmos
keepers-same vmos k new same = funext (λ v. grind (arith, common_steps, keepers-with_key vmos k new v))

pub keepers-adopted : (vmos : ℕ → Option Vmo) (parent : Option ℕ) (gone come : ℕ) →
    keepers_in (adopted vmos parent gone come) ≡ keepers_in vmos
unfolding keepers_in
keepers-adopted vmos parent gone come = funext (count-adopted (λ (vmo : Vmo). vmo.keepers) vmos (λ x n. refl) parent gone come)
