-- What stays true of the table where a VMO gets another value, and where it is settled: it is written, or it leaves.
use Rattle.std.proofs.Common.{◌≡◌, ℕ, ◌+◌, ◌-◌, ◌≤◌, true, false, cond, Option, None, Some, is_some, refl, sym, ap, subst, ◌∙◌, arith}
use Rattle.std.specs.Option.{option_map}
use Rattle.std.proofs.lemmas.Grind.{common_steps}
use Rattle.std.proofs.lemmas.Bool.{cond-true, cond-false, cond_both}
use Rattle.vm_base.specs.Entries.{with_key}
use Rattle.vm_base.proofs.EntryLaws.{with_key-same, passes-some, any_entry-count}
use Rattle.vm_base.specs.declared.names.Koid.{Koid}
use Rattle.vm_base.specs.declared.limits.TheConstants.{NAMES}
use Rattle.vm_model.specs.declared.names.Target.{Target}
use Rattle.vm_model.specs.Naming.Names.{Lineage, is_of, is_parent, has_parent, lineage_without}
use Rattle.balanced_tree.specs.Rows.{Rows}
use Rattle.vmo_table.specs.declared.vmos.Vmo.{Vmo}
use Rattle.vmo_table.specs.declared.child_rows.ChildRow.{ChildRow}
use Rattle.vmo_table.specs.Vmos.{koid_number, lineage_of_vmo, lineages, adopted, vmos_without, is_kept, vmos_settled, vmo_count, keepers_in, IsVmoForest, MayGet}
use Rattle.vmo_table.specs.inside.ChildRows.{AreChildren, MayLeave}
use Rattle.vmo_table.specs.Table.{parent_in_lineage, Settles}
use Rattle.vmo_table.specs.inside.TableFields.{AreNamed}
use Rattle.vmo_table.proofs.CountLaws.{funext, count-at, count-with_key, count-adopted, count-without}
use Rattle.vmo_table.proofs.VmosLaws.{lineage-at, lineages-written, lineages-without, without-written, without-childless, without_key-absent, child_count_le, left-there}
use Rattle.vmo_table.proofs.ForestLaws.{parent-there, IsVmoForest-written, IsVmoForest-left, not_own, parent_counts, lineages-left}
use Rattle.vmo_table.proofs.NamedLaws.{AreNamed-adopted, AreNamed-left, is_named-counts}

-- ---- a VMO gets another value

pub may_get : (vmos : ℕ → Option Vmo) (k : ℕ) (old new : Vmo) → IsVmoForest vmos → vmos k ≡ Some old →
    lineage_of_vmo new ≡ lineage_of_vmo old → new.children ≡ old.children → MayGet vmos k new
may_get vmos k old new forest found lineage children =
    record { old = old; found = found; lineage = lineage; forest = IsVmoForest-written vmos k old new forest found lineage children }

module _ (vmos : ℕ → Option Vmo) (k : ℕ) (new : Vmo) (may : MayGet vmos k new) where
  abbrev mid : ℕ → Option Vmo
  mid = with_key vmos k new

  abbrev up : Option ℕ
  up = option_map koid_number new.parent

  pub lineages-got : lineages mid ≡ lineages vmos
  lineages-got = lineages-written vmos k may.old new may.found may.lineage

  pub AreChildren-got : (t : Rows ChildRow) → AreChildren t (lineages vmos) → AreChildren t (lineages mid)
  AreChildren-got t rows = subst (AreChildren t) (sym lineages-got) rows

  here : mid k ≡ Some new
  here = with_key-same vmos k new

  its : lineages vmos k ≡ Some (lineage_of_vmo new)
  its = ap (λ (l : ℕ → Option Lineage). l k) (sym lineages-got) ∙ lineage-at mid k (Some new) here

  -- ---- it may leave

  pub may_leave : (t : Rows ChildRow) → AreChildren t (lineages vmos) → MayLeave vmos t k new.parent
  may_leave t rows = record {
    rows = rows;
    own = λ p. rows.is p k ∙ passes-some (has_parent p) (lineages vmos k) (lineage_of_vmo new) its;
    apart = not_own mid k new may.forest here;
  }

  pub left_fits : (v : ℕ) (above : Vmo) → is_parent v up ≡ true → vmos_without vmos k new.parent v ≡ Some above →
      (1 ≤ above.children) × (above.children - 1 + new.children ≤ vmo_count vmos)
  left_fits v above hit e =
      let counts = parent_counts mid k new may.forest here v hit in
      let is = count-at (λ (x : Vmo). x.children) (vmos_without mid k new.parent) v (Some above) (ap (λ (m : ℕ → Option Vmo). m v) (without-written vmos k new new.parent) ∙ e) in
      let few = child_count_le vmos (lineage_without (lineages mid) k up) v (λ w h.
      left-there vmos k up w (ap (λ (l : ℕ → Option Lineage). is_some (lineage_without l k up w)) (sym lineages-got) ∙ h)) in
      (omega (arith, counts.0, is), omega (arith, counts.1, is, few))

  -- ---- it is settled

  -- it is written where something keeps it, and else leaves
  pub vmos_settled-is : (P : (ℕ → Option Vmo) → Type 0) → (is_kept new ≡ true → P mid) →
      (is_kept new ≡ false → P (adopted (vmos_without mid k new.parent) up 1 new.children)) → P (vmos_settled vmos k new)
  unfolding vmos_settled
  vmos_settled-is P kept free = cond_both (is_kept new) mid (adopted (vmos_without vmos k new.parent) up 1 new.children) P kept
      (λ e. subst (λ (m : ℕ → Option Vmo). P (adopted m up 1 new.children)) (without-written vmos k new new.parent) (free e))

  pub IsVmoForest-settled : IsVmoForest (vmos_settled vmos k new)
  IsVmoForest-settled = vmos_settled-is IsVmoForest (λ kept. may.forest) (λ free. IsVmoForest-left mid k new may.forest here)

  -- it has the keepers of its new value, whether it leaves or not
  pub keepers-settled : keepers_in (vmos_settled vmos k new) ≡ keepers_in mid
  unfolding keepers_in
  keepers-settled = vmos_settled-is (λ (m : ℕ → Option Vmo). keepers_in m ≡ keepers_in mid) (λ kept. refl) (λ free. funext (λ v.
      let gone = vmos_without mid k new.parent in
      let other = count-adopted (λ (x : Vmo). x.keepers) gone (λ x n. refl) up 1 new.children v in
      let left = count-without (λ (x : Vmo). x.keepers) mid (λ x o. refl) k new.parent v in
      grind (arith, common_steps, count-with_key (λ (x : Vmo). x.keepers) vmos k new v)))

  module _ (names : ℕ → Option Target) (named : AreNamed names mid) where
    pub AreNamed-settled : AreNamed names (vmos_settled vmos k new)
    AreNamed-settled = vmos_settled-is (AreNamed names) (λ kept. named) (λ free.
        AreNamed-adopted names _ up 1 new.children (AreNamed-left names mid named k new new.parent here (grind (arith, common_steps))))

    -- what becomes of it
    pub settles : (answer : Option Koid) → answer ≡ cond (is_kept new) None (Some (record { 0 = k })) →
        Settles names new.keepers k (lineages vmos) (lineages (vmos_settled vmos k new)) answer
    settles answer said =
        let by = is_named-counts names mid named k new here in
        vmos_settled-is (λ (m : ℕ → Option Vmo). Settles names new.keepers k (lineages vmos) (lineages m) answer)
        (λ kept. record {
          stays = λ why. (said ∙ cond-true _ _ _ kept, lineages-got);
          leaves = λ unnamed none. absurd (grind (arith, common_steps));
        })
        (λ free. record {
          stays = λ why. absurd (grind (arith, common_steps));
          leaves = λ unnamed none. (
            said ∙ cond-false _ _ _ free,
            rw (lineages-left mid k new may.forest here, lineages-got, its) refl,
          );
        })

-- a VMO that is not in the table has nothing that keeps it, and settling it changes nothing
pub settles_absent : (names : ℕ → Option Target) (vmos : ℕ → Option Vmo) (v : ℕ) → AreNamed names vmos → IsVmoForest vmos →
    vmos v ≡ None → Settles names (keepers_in vmos v) v (lineages vmos) (lineages vmos) (Some (record { 0 = v }))
unfolding keepers_in
settles_absent names vmos v named forest none = record {
  stays = λ by. absurd (
      let no_name = count-at (λ (x : Vmo). x.names) vmos v None none in
      let no_keeper = count-at (λ (x : Vmo). x.keepers) vmos v None none in
      grind (arith, common_steps, any_entry-count NAMES (is_of v) names, named.named v));
  leaves = λ unnamed unkept. (
    refl,
    sym (
        ap (λ (o : Option Lineage). lineage_without (lineages vmos) v (parent_in_lineage o)) (lineage-at vmos v None none)
        ∙ (sym (lineages-without vmos v None) ∙ ap lineages (without-childless vmos v None (λ w. grind (arith, common_steps, none, parent-there vmos v w forest)) ∙ without_key-absent vmos v none))),
  );
}
