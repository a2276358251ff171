-- How many names each VMO has, as names and VMOs come and go.
use Rattle.std.proofs.Common.{◌≡◌, ◌≢◌, ℕ, ◌+◌, ◌-◌, ◌<◌, ◌≤◌, ◌&&◌, Bool, true, false, cond, nat_lt, Option, None, Some, is_some, refl, sym, ap, ◌∙◌, arith}
use Rattle.std.specs.Prelude.{unwrap_or}
use Rattle.std.specs.Option.{option_map}
use Rattle.std.proofs.lemmas.Grind.{common_steps}
use Rattle.std.proofs.lemmas.Bool.{eq-eqb, ne_eqb}
use Rattle.vm_base.specs.declared.names.Koid.{Koid}
use Rattle.vm_base.specs.Entries.{with_key, without_key, passes, entry_count}
use Rattle.vm_base.specs.declared.limits.TheConstants.{NAMES}
use Rattle.vm_base.proofs.EntryLaws.{passes-some, entry_count_hit, entry_count_le, entry_count-with_key, entry_count-without_key, entry_count-empty, any_entry-count}
use Rattle.vm_base.proofs.SearchLaws.{count_below_less}
use Rattle.vm_model.specs.declared.names.NameKind.{NameKind}
use Rattle.vm_model.specs.declared.names.NameKind.TheVariants.{Slice, Reference}
use Rattle.vm_model.specs.declared.names.Target.{Target}
use Rattle.vm_model.specs.Naming.Names.{is_named, is_kind, names_as, is_of, is_of_as}
use Rattle.vmo_table.specs.declared.vmos.Vmo.{Vmo}
use Rattle.vmo_table.specs.Vmos.{kind_bit, fewer_names, counted_for, adopted, vmos_without}
use Rattle.vmo_table.specs.inside.TableFields.{name_count, AreNamed}
use Rattle.vmo_table.proofs.CountLaws.{count-at, count-there, count-same, count-with_key, count-adopted, count-without}

pub AreNamed-empty : (names : ℕ → Option Target) (vmos : ℕ → Option Vmo) → ((n : ℕ) → names n ≡ None) →
    ((v : ℕ) → vmos v ≡ None) → AreNamed names vmos
AreNamed-empty names vmos no_name no_vmo = record {
  below = λ n h. absurd (let e = no_name n in cc);
  named = λ v. none (λ (x : Vmo). x.names) (is_of v) v;
  sliced = λ v. none (λ (x : Vmo). x.slices) (is_of_as Slice v) v;
  referred = λ v. none (λ (x : Vmo). x.references) (is_of_as Reference v) v;
}
  where
    none : (count : Vmo → ℕ) (test : Target → Bool) (v : ℕ) → counted_for count vmos v ≡ entry_count NAMES test names
    none count test v = count-at count vmos v None (no_vmo v) ∙ sym (entry_count-empty NAMES test names no_name)

-- VMOs of which as much is counted
pub AreNamed-same : (names : ℕ → Option Target) (vmos other : ℕ → Option Vmo) →
    ((v : ℕ) → counted_for (λ (x : Vmo). x.names) other v ≡ counted_for (λ (x : Vmo). x.names) vmos v) →
    ((v : ℕ) → counted_for (λ (x : Vmo). x.slices) other v ≡ counted_for (λ (x : Vmo). x.slices) vmos v) →
    ((v : ℕ) → counted_for (λ (x : Vmo). x.references) other v ≡ counted_for (λ (x : Vmo). x.references) vmos v) →
    AreNamed names vmos → AreNamed names other
AreNamed-same names vmos other same_names same_slices same_references are = record {
  below = are.below;
  named = λ v. same_names v ∙ are.named v;
  sliced = λ v. same_slices v ∙ are.sliced v;
  referred = λ v. same_references v ∙ are.referred v;
}

pub AreNamed-adopted : (names : ℕ → Option Target) (vmos : ℕ → Option Vmo) (parent : Option ℕ) (gone come : ℕ) → AreNamed names vmos → AreNamed names (adopted vmos parent gone come)
AreNamed-adopted names vmos parent gone come =
    AreNamed-same names vmos (adopted vmos parent gone come)
    (count-adopted (λ (x : Vmo). x.names) vmos (λ x n. refl) parent gone come)
    (count-adopted (λ (x : Vmo). x.slices) vmos (λ x n. refl) parent gone come)
    (count-adopted (λ (x : Vmo). x.references) vmos (λ x n. refl) parent gone come)

pub AreNamed-kept : (names : ℕ → Option Target) (vmos : ℕ → Option Vmo) (k : ℕ) (old new : Vmo) → AreNamed names vmos → vmos k ≡ Some old →
    new.names ≡ old.names → new.slices ≡ old.slices → new.references ≡ old.references → AreNamed names (with_key vmos k new)
AreNamed-kept names vmos k old new are found same_names same_slices same_references =
    AreNamed-same names vmos (with_key vmos k new)
    (count-same (λ (x : Vmo). x.names) vmos k old new found same_names)
    (count-same (λ (x : Vmo). x.slices) vmos k old new found same_slices)
    (count-same (λ (x : Vmo). x.references) vmos k old new found same_references) are

-- a name passes the tests of no other VMO, and those of its own by its kind
other_kind : (kind : NameKind) (t : Target) (v : ℕ) → v ≢ t.koid.0 → is_of_as kind v t ≡ false
other_kind kind t v apart = ap (λ (b : Bool). b && is_kind kind t.kind) (ne_eqb t.koid.0 v (λ e. apart (sym e)))

own_kind : (kind : NameKind) (t : Target) → ◌≡◌ {A = ℕ} (cond (is_of_as kind t.koid.0 t) 1 0) (kind_bit kind t.kind)
own_kind kind t = ap (λ (b : Bool). cond {A = ℕ} (b && is_kind kind t.kind) 1 0) (eq-eqb t.koid.0 t.koid.0 refl)

own_name : (t : Target) → ◌≡◌ {A = ℕ} (cond (is_of t.koid.0 t) 1 0) 1
own_name t = ap (λ (b : Bool). cond {A = ℕ} b 1 0) (eq-eqb t.koid.0 t.koid.0 refl)

module _ (names : ℕ → Option Target) (vmos : ℕ → Option Vmo) (n : ℕ) (t : Target) (are : AreNamed names vmos) where
  -- ---- one name more

  module _ (new : Vmo) (low : n < NAMES) (free : names n ≡ None) where
    more : (count : Vmo → ℕ) (test : ℕ → Target → Bool) → ((v : ℕ) → counted_for count vmos v ≡ entry_count NAMES (test v) names) →
        ((v : ℕ) → v ≢ t.koid.0 → test v t ≡ false) → count new ≡ counted_for count vmos t.koid.0 + cond (test t.koid.0 t) 1 0 →
        (v : ℕ) → counted_for count (with_key vmos t.koid.0 new) v ≡ entry_count NAMES (test v) (with_key names n t)
    more count test was miss one v =
        grind (arith, common_steps, count-with_key count vmos t.koid.0 new v, entry_count-with_key NAMES (test v) names n t low free, was v, miss v)

    pub AreNamed-more : (o : Option Vmo) → vmos t.koid.0 ≡ o → new.names ≡ unwrap_or (option_map (λ (x : Vmo). x.names) o) 0 + 1 →
        new.slices ≡ unwrap_or (option_map (λ (x : Vmo). x.slices) o) 0 + kind_bit Slice t.kind →
        new.references ≡ unwrap_or (option_map (λ (x : Vmo). x.references) o) 0 + kind_bit Reference t.kind →
        AreNamed (with_key names n t) (with_key vmos t.koid.0 new)
    unfolding with_key
    AreNamed-more o was one slice reference = record {
      below = λ m h. grind (arith, common_steps, are.below m);
      named = more (λ (x : Vmo). x.names) is_of are.named (λ v apart. ne_eqb t.koid.0 v (λ e. apart (sym e))) (omega (arith, one, own_name t, count-at (λ (x : Vmo). x.names) vmos t.koid.0 o was));
      sliced = more (λ (x : Vmo). x.slices) (is_of_as Slice) are.sliced (other_kind Slice t) (omega (arith, slice, own_kind Slice t, count-at (λ (x : Vmo). x.slices) vmos t.koid.0 o was));
      referred = more (λ (x : Vmo). x.references) (is_of_as Reference) are.referred (other_kind Reference t) (omega (arith, reference, own_kind Reference t, count-at (λ (x : Vmo). x.references) vmos t.koid.0 o was));
    }

  -- ---- one name less

  module _ (vmo : Vmo) (open_ : names n ≡ Some t) (found : vmos t.koid.0 ≡ Some vmo) where
    less : (count : Vmo → ℕ) (test : ℕ → Target → Bool) (new : Vmo) → ((v : ℕ) → counted_for count vmos v ≡ entry_count NAMES (test v) names) →
        ((v : ℕ) → v ≢ t.koid.0 → test v t ≡ false) → count new ≡ count vmo - cond (test t.koid.0 t) 1 0 →
        (cond (test t.koid.0 t) 1 0 ≤ count vmo)
        × ((v : ℕ) → counted_for count (with_key vmos t.koid.0 new) v ≡ entry_count NAMES (test v) (without_key names n))
    less count test new was miss one =
        let low = are.below n (ap is_some open_) in
        let here = count-at count vmos t.koid.0 (Some vmo) found in
        let change = λ (v : ℕ). entry_count-without_key NAMES (test v) names n low in
        let is = λ (v : ℕ). passes-some (test v) (names n) t open_ in
        let fits : cond (test t.koid.0 t) 1 0 ≤ count vmo = grind (arith, common_steps, change t.koid.0, was t.koid.0, is t.koid.0) in
        (fits, λ v. grind (arith, common_steps, count-with_key count vmos t.koid.0 new v, change v, is v, was v, miss v))

    less_kind : (count : Vmo → ℕ) (kind : NameKind) → ((v : ℕ) → counted_for count vmos v ≡ names_as kind names v) →
        count (fewer_names t.kind vmo) ≡ count vmo - kind_bit kind t.kind →
        (kind_bit kind t.kind ≤ count vmo)
        × ((v : ℕ) → counted_for count (with_key vmos t.koid.0 (fewer_names t.kind vmo)) v ≡ names_as kind (without_key names n) v)
    less_kind count kind was one =
        let all = less count (is_of_as kind) (fewer_names t.kind vmo) was (other_kind kind t) (one ∙ ap (λ (m : ℕ). count vmo - m) (sym (own_kind kind t))) in
        (omega (arith, own_kind kind t, all.0), all.1)

    pub fewer_named : (1 ≤ vmo.names) × (kind_bit Slice t.kind ≤ vmo.slices) × (kind_bit Reference t.kind ≤ vmo.references)
        × AreNamed (without_key names n) (with_key vmos t.koid.0 (fewer_names t.kind vmo))
    unfolding without_key
    fewer_named =
        let name = less (λ (x : Vmo). x.names) is_of (fewer_names t.kind vmo) are.named (λ v apart. ne_eqb t.koid.0 v (λ e. apart (sym e))) (ap (λ (m : ℕ). vmo.names - m) (sym (own_name t))) in
        let slice = less_kind (λ (x : Vmo). x.slices) Slice are.sliced refl in
        let reference = less_kind (λ (x : Vmo). x.references) Reference are.referred refl in (
          omega (arith, own_name t, name.0),
          slice.0,
          reference.0,
          record {
            below = λ m h. grind (arith, common_steps, are.below m);
            named = name.1;
            sliced = slice.1;
            referred = reference.1;
          },
        )

-- ---- a VMO and its names

module _ (names : ℕ → Option Target) (vmos : ℕ → Option Vmo) (are : AreNamed names vmos) where
  -- what a name that is open stands for, is there
  pub named-there : (n : ℕ) (t : Target) → names n ≡ Some t → is_some (vmos t.koid.0) ≡ true
  named-there n t open_ =
      let one = entry_count_hit NAMES (is_of t.koid.0) names n t (are.below n (ap is_some open_)) open_ (eq-eqb t.koid.0 t.koid.0 refl) in
      count-there (λ (x : Vmo). x.names) vmos t.koid.0 (omega (arith, one, are.named t.koid.0))

  -- no more names are counted than there are
  pub names_fit : (v : ℕ) (vmo : Vmo) → vmos v ≡ Some vmo → (vmo.names ≤ NAMES) × (vmo.slices ≤ NAMES) × (vmo.references ≤ NAMES)
  names_fit v vmo found = (
    omega (arith, entry_count_le NAMES (is_of v) names, are.named v, count-at (λ (x : Vmo). x.names) vmos v (Some vmo) found),
    omega (arith, entry_count_le NAMES (is_of_as Slice v) names, are.sliced v, count-at (λ (x : Vmo). x.slices) vmos v (Some vmo) found),
    omega (arith, entry_count_le NAMES (is_of_as Reference v) names, are.referred v, count-at (λ (x : Vmo). x.references) vmos v (Some vmo) found),
  )

  -- a koid is named where its VMO has names
  pub is_named-counts : (v : ℕ) (vmo : Vmo) → vmos v ≡ Some vmo → is_named names v ≡ nat_lt 0 vmo.names
  is_named-counts v vmo found =
      any_entry-count NAMES (is_of v) names ∙ ap (nat_lt 0) (sym (are.named v) ∙ count-at (λ (x : Vmo). x.names) vmos v (Some vmo) found)

  kinds_le : (kind : NameKind) (v : ℕ) → names_as kind names v ≤ name_count names v
  unfolding entry_count passes
  kinds_le kind v =
      count_below_less NAMES (λ n. passes (is_of_as kind v) (names n)) (λ n. passes (is_of v) (names n)) (λ n h hit. grind (arith, common_steps))

  -- a VMO without names leaves
  pub AreNamed-left : (k : ℕ) (x : Vmo) (parent : Option Koid) → vmos k ≡ Some x → x.names ≤ 0 → AreNamed names (vmos_without vmos k parent)
  AreNamed-left k x parent found none =
      let named = count-at (λ (y : Vmo). y.names) vmos k (Some x) found in
      AreNamed-same names vmos (vmos_without vmos k parent)
      (kept (λ (y : Vmo). y.names) (λ y o. refl) (omega arith))
      (kept (λ (y : Vmo). y.slices) (λ y o. refl) (omega (arith, are.named k, are.sliced k, kinds_le Slice k)))
      (kept (λ (y : Vmo). y.references) (λ y o. refl) (omega (arith, are.named k, are.referred k, kinds_le Reference k))) are
    where
      kept : (count : Vmo → ℕ) → ((y : Vmo) (o : Option Koid) → count (record y { parent = o }) ≡ count y) → counted_for count vmos k ≡ 0 →
          (v : ℕ) → counted_for count (vmos_without vmos k parent) v ≡ counted_for count vmos v
      kept count keeps zero_ v = grind (arith, common_steps, count-without count vmos keeps k parent v)
