-- What stays of the VMOs as a forest, as they are written, come and leave.
use Rattle.std.proofs.Common.{◌≡◌, ◌≢◌, ℕ, ◌+◌, ◌-◌, ◌^◌, ◌<◌, ◌≤◌, ◌==◌, ◌&&◌, ◌||◌, Bool, true, false, cond, Option, None, Some, is_some, refl, sym, ap, subst, ◌∙◌, arith}
use Rattle.std.specs.Prelude.{unwrap_or}
use Rattle.std.specs.Option.{option_map}
use Rattle.std.proofs.lemmas.Grind.{common_steps, not_there}
use Rattle.std.proofs.lemmas.Bool.{cond-false, ne_eqb, false_from_ne_true}
use Rattle.std.proofs.Math.Logic.{∥∥₁_map}
use Rattle.vm_base.specs.Entries.{with_key, passes, entry_count}
use Rattle.vm_base.specs.Search.{count_below}
use Rattle.vm_base.proofs.SearchLaws.{count_below_split, count_below_change, count_below_none}
use Rattle.vm_base.proofs.EntryLaws.{passes-some, passes_found, entry_count_hit, entry_count-with_key, entry_count-empty}
use Rattle.vm_model.specs.Naming.Names.{Lineage, is_parent, has_parent, child_count, lineage_without}
use Rattle.vmo_table.specs.declared.vmos.Vmo.{Vmo}
use Rattle.vmo_table.specs.Vmos.{koid_number, lineage_of_vmo, lineages, counted_for, adopted, vmos_without, vmo_count, Ranking, IsVmoForest}
use Rattle.vmo_table.proofs.CountLaws.{count-at, count-there, count-with_key, count-same, count-without, children-adopted}
use Rattle.vmo_table.proofs.VmosLaws.{lineage-at, is_some-lineages, lineages-with_key, lineages-written, lineages-adopted, lineages-without, child-with_key, child-without, one_parent, children_le}

abbrev pub children_of : (ℕ → Option Vmo) → ℕ → ℕ
children_of = counted_for (λ (vmo : Vmo). vmo.children)

pub IsVmoForest-empty : (vmos : ℕ → Option Vmo) → ((v : ℕ) → vmos v ≡ None) → IsVmoForest vmos
IsVmoForest-empty vmos none = record {
  below = λ v h. absurd (let e = none v in cc);
  children = λ v. count-at (λ (vmo : Vmo). vmo.children) vmos v None (none v)
      ∙ sym (entry_count-empty (2 ^ 64) (has_parent v) (lineages vmos) (λ w. lineage-at vmos w None (none w)));
  ranked = ∣ record {
    rank = λ v. 0;
    falls = λ p v e. absurd (
        let found = passes_found (has_parent p) (lineages vmos v) e in
        let gone = lineage-at vmos v None (none v) in
        let is = found.1 in
        cc);
  } ∣₁;
}

-- ---- a VMO is written

pub IsVmoForest-written : (vmos : ℕ → Option Vmo) (k : ℕ) (old new : Vmo) → IsVmoForest vmos → vmos k ≡ Some old →
    lineage_of_vmo new ≡ lineage_of_vmo old → new.children ≡ old.children → IsVmoForest (with_key vmos k new)
unfolding with_key
IsVmoForest-written vmos k old new forest found lineage children =
    let same = sym (lineages-written vmos k old new found lineage) in
    record {
      below = λ v h. grind (arith, common_steps, forest.below v, found);
      children = λ v. count-same (λ (vmo : Vmo). vmo.children) vmos k old new found children v
          ∙ (forest.children v ∙ ap (λ (l : ℕ → Option Lineage). child_count l v) same);
      ranked = subst (λ (l : ℕ → Option Lineage). ∥ Ranking l ∥₁) same forest.ranked;
    }

-- ---- a VMO comes

-- a parent is in the table
pub parent-there : (vmos : ℕ → Option Vmo) (p v : ℕ) → IsVmoForest vmos → passes (has_parent p) (lineages vmos v) ≡ true → is_some (vmos p) ≡ true
parent-there vmos p v forest e =
    let found = passes_found (has_parent p) (lineages vmos v) e in
    let low = forest.below v (sym (is_some-lineages vmos v) ∙ ap is_some found.1) in
    let one = entry_count_hit (2 ^ 64) (has_parent p) (lineages vmos) v found.0 low found.1 found.2 in
    count-there (λ (vmo : Vmo). vmo.children) vmos p (omega (arith, one, forest.children p))

parent_value : (f : ℕ → ℕ) (o : Option ℕ) (p : ℕ) → is_parent p o ≡ true → unwrap_or (option_map f o) 0 ≡ f p
unfolding passes
parent_value f o p e = grind (arith, common_steps)

module _ (vmos : ℕ → Option Vmo) (k : ℕ) (x : Vmo) (forest : IsVmoForest vmos) (free : vmos k ≡ None)
    (there : (p : ℕ) → is_parent p (option_map koid_number x.parent) ≡ true → is_some (vmos p) ≡ true) where
  abbrev above : Option ℕ
  above = option_map koid_number x.parent

  not_free : (p : ℕ) → is_some (vmos p) ≡ true → (p == k) ≡ false
  not_free p some_ = ne_eqb p k (λ same. absurd (let gone = ap vmos same ∙ free in cc))

  pub entered_count : (v : ℕ) → k < 2 ^ 64 →
      child_count (with_key (lineages vmos) k (lineage_of_vmo x)) v ≡ children_of vmos v + cond (is_parent v above) 1 0
  entered_count v small =
      entry_count-with_key (2 ^ 64) (has_parent v) (lineages vmos) k (lineage_of_vmo x) small (lineage-at vmos k None free)
      ∙ ap (λ n. n + cond (is_parent v above) 1 0) (sym (forest.children v))

  -- the count of a parent fits
  pub entered_fits : (v : ℕ) (old : Vmo) → is_parent v above ≡ true → with_key vmos k x v ≡ Some old → old.children ≤ vmo_count vmos
  entered_fits v old hit e =
      let is = count-at (λ (vmo : Vmo). vmo.children) (with_key vmos k x) v (Some old) e in
      let put = count-with_key (λ (vmo : Vmo). vmo.children) vmos k x v in
      let kept = cond-false (v == k) x.children (children_of vmos v) (not_free v (there v hit)) in
      omega (arith, is, put, kept, forest.children v, children_le vmos v)

  -- its rank is above its parent's
  Ranking-entered : Ranking (lineages vmos) → Ranking (with_key (lineages vmos) k (lineage_of_vmo x))
  Ranking-entered r = record {
    rank = λ v. cond (v == k) (unwrap_or (option_map r.rank above) 0 + 1) (r.rank v);
    falls = λ p v e.
        let is = sym (child-with_key (lineages vmos) k (lineage_of_vmo x) p v) ∙ e in
        grind (arith, common_steps, is, r.falls p v, parent_value r.rank above p, not_free p, there p, parent-there vmos p v forest);
  }

  entered_children : k < 2 ^ 64 → x.children ≡ 0 → (v : ℕ) →
      cond (is_parent v above && is_some (with_key vmos k x v)) (children_of (with_key vmos k x) v - 0 + 1) (children_of (with_key vmos k x) v)
      ≡ child_count (with_key (lineages vmos) k (lineage_of_vmo x)) v
  unfolding with_key
  entered_children small childless v =
      grind (arith, common_steps, count-with_key (λ (vmo : Vmo). vmo.children) vmos k x v, count-at (λ (vmo : Vmo). vmo.children) vmos k None free, entered_count v small, there v, not_free v)

  pub IsVmoForest-entered : k < 2 ^ 64 → x.children ≡ 0 → IsVmoForest (adopted (with_key vmos k x) above 0 1)
  unfolding adopted with_key
  IsVmoForest-entered small childless =
      let same = sym (lineages-adopted (with_key vmos k x) above 0 1 ∙ lineages-with_key vmos k x) in
      record {
        below = λ v h. grind (arith, common_steps, forest.below v);
        children = λ v. children-adopted (with_key vmos k x) above 0 1 v
            ∙ (entered_children small childless v ∙ ap (λ (l : ℕ → Option Lineage). child_count l v) same);
        ranked = subst (λ (l : ℕ → Option Lineage). ∥ Ranking l ∥₁) same (∥∥₁_map forest.ranked Ranking-entered);
      }

-- ---- a VMO leaves

module _ (vmos : ℕ → Option Vmo) (k : ℕ) (x : Vmo) (forest : IsVmoForest vmos) (found : vmos k ≡ Some x) where
  abbrev up : Option ℕ
  up = option_map koid_number x.parent

  abbrev left : ℕ → Option Lineage
  left = lineage_without (lineages vmos) k up

  own : (p : ℕ) → passes (has_parent p) (lineages vmos k) ≡ is_parent p up
  own p = passes-some (has_parent p) (lineages vmos k) (lineage_of_vmo x) (lineage-at vmos k (Some x) found)

  -- a VMO is not its own parent
  pub not_own : is_parent k up ≡ false
  not_own = false_from_ne_true (is_parent k up) (λ hit. absurd (not_there forest.ranked (λ r.
      let below = r.falls k k (own k ∙ hit) in omega arith)))

  left_none : child_count left k ≡ 0
  unfolding entry_count
  left_none = count_below_none (2 ^ 64) (λ w. passes (has_parent k) (left w)) (λ w h.
      let is = child-without (lineages vmos) k up k w in
      grind (arith, common_steps, not_own))

  -- the parent gets the children
  pub left_count : (v : ℕ) → v ≢ k →
      child_count left v + cond (is_parent v up) 1 0 ≡ child_count (lineages vmos) v + cond (is_parent v up) (child_count (lineages vmos) k) 0
  unfolding entry_count
  left_count v apart =
      let split = count_below_split (2 ^ 64) here moved (λ w. here w || moved w) (λ w. bits w (one_parent v k apart (lineages vmos w))) in
      let change = count_below_change (2 ^ 64) k (λ w. passes (has_parent v) (left w)) (λ w. here w || moved w) (forest.below k (ap is_some found)) (λ w h other.
      let is = child-without (lineages vmos) k up v w in
      let one = one_parent v k apart (lineages vmos w) in
      grind (arith, common_steps)) in
      let gone = child-without (lineages vmos) k up v k in
      let parent = own v in
      let mine = own k in
      let none = not_own in
      let sum = all (is_parent v up) in
      grind (arith, common_steps)
    where
      here : ℕ → Bool
      here w = passes (has_parent v) (lineages vmos w)

      moved : ℕ → Bool
      moved w = is_parent v up && passes (has_parent k) (lineages vmos w)

      bits : (w : ℕ) → (passes (has_parent k) (lineages vmos w) ≡ true → here w ≡ false) → cond (here w || moved w) 1 0 ≡ cond (here w) 1 0 + cond (moved w) 1 0
      bits w one = grind (arith, common_steps)

      all : (b : Bool) → ◌≡◌ {A = ℕ} (count_below (2 ^ 64) (λ w. b && passes (has_parent k) (lineages vmos w))) (cond b (child_count (lineages vmos) k) 0)
      all true = refl
      all false = count_below_none (2 ^ 64) (λ w. false) (λ w h. refl)

  abbrev gone : ℕ → Option Vmo
  gone = vmos_without vmos k x.parent

  -- a parent has a child, and gets those of the VMO
  pub parent_counts : (v : ℕ) → is_parent v up ≡ true → (1 ≤ children_of gone v) × (children_of gone v - 1 + x.children ≡ child_count left v)
  parent_counts v hit =
      let counts = count-without (λ (vmo : Vmo). vmo.children) vmos (λ y o. refl) k x.parent v in
      let mine = sym (count-at (λ (vmo : Vmo). vmo.children) vmos k (Some x) found) ∙ forest.children k in
      let one = entry_count_hit (2 ^ 64) (has_parent v) (lineages vmos) k (lineage_of_vmo x) (forest.below k (ap is_some found)) (lineage-at vmos k (Some x) found) hit in
      (grind (arith, common_steps, forest.children v, not_own), grind (arith, common_steps, forest.children v, not_own, left_count v))

  left_children : (v : ℕ) → cond (is_parent v up && is_some (gone v)) (children_of gone v - 1 + x.children) (children_of gone v) ≡ child_count left v
  left_children v =
      let counts = count-without (λ (vmo : Vmo). vmo.children) vmos (λ y o. refl) k x.parent v in
      grind (arith, common_steps, counts, parent_counts v, count-there (λ (vmo : Vmo). vmo.children) gone v, left_none, left_count v, forest.children v)

  pub lineages-left : lineages (adopted gone up 1 x.children) ≡ left
  lineages-left = lineages-adopted gone up 1 x.children ∙ lineages-without vmos k x.parent

  pub IsVmoForest-left : IsVmoForest (adopted gone up 1 x.children)
  unfolding adopted vmos_without
  IsVmoForest-left = record {
    below = λ v h. grind (arith, common_steps, forest.below v);
    children = λ v. children-adopted gone up 1 x.children v
        ∙ (left_children v ∙ ap (λ (l : ℕ → Option Lineage). child_count l v) (sym lineages-left));
    ranked = subst (λ (l : ℕ → Option Lineage). ∥ Ranking l ∥₁) (sym lineages-left) (∥∥₁_map forest.ranked (λ r. record {
      rank = r.rank;
      falls = λ p v e.
          let is = sym (child-without (lineages vmos) k up p v) ∙ e in
          let first = r.falls k v in
          let then_ = r.falls p k in
          let kept = r.falls p v in
          let mine = own p in
          grind (arith, common_steps);
    }));
  }
