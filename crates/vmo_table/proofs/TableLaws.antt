-- What holds of the fields of the table.
use Rattle.std.proofs.Common.{◌≡◌, ℕ, ◌+◌, ◌<◌, ◌≤◌, ◌==◌, ◌&&◌, Bool, true, [], Option, None, Some, IsSome, is_some, refl, sym, ap, subst, ◌∙◌, arith, length}
use Rattle.std.specs.Prelude.{IfSome}
use Rattle.std.specs.Option.{option_map}
use Rattle.std.specs.HashMap.{spare}
use Rattle.std.proofs.lemmas.Bool.{eqb-true}
use Rattle.vm_base.specs.declared.names.Koid.{Koid}
use Rattle.vm_base.specs.Entries.{with_key, without_key, passes}
use Rattle.vm_base.specs.declared.limits.TheConstants.{NAMES}
use Rattle.vm_base.proofs.EntryLaws.{passes-none}
use Rattle.balanced_tree.specs.Rows.{Rows}
use Rattle.vm_model.specs.declared.names.NameKind.TheVariants.{Reference}
use Rattle.vm_model.specs.declared.names.Target.{Target}
use Rattle.vm_model.specs.Naming.Names.{Lineage, is_parent, has_parent, child_count, names_as, is_created, children, may_decommit}
use Rattle.vmo_table.specs.declared.vmos.Vmo.{Vmo}
use Rattle.vmo_table.specs.declared.child_rows.ChildRow.{ChildRow}
use Rattle.vmo_table.specs.inside.ChildRows.{AreChildren}
use Rattle.vmo_table.specs.declared.vmo_table.VmoTable.TheInside.{Inside}
use Rattle.vmo_table.specs.Vmos.{koid_number, vmos_in, lineage_of_vmo, lineages, fewer_names, vmos_settled, IsVmoForest, MayGet}
use Rattle.vmo_table.specs.Table.{names_in, vmo_room}
use Rattle.vmo_table.specs.inside.TableFields.{vmo_table_of, AreNamed, IsVmoTable}
use Rattle.vmo_table.proofs.ChildLaws.{under-none, under-same}
use Rattle.vmo_table.proofs.CountLaws.{count-at}
use Rattle.vmo_table.proofs.VmosLaws.{lineage-at, is_some-lineages, children_le}
use Rattle.vmo_table.proofs.NamedLaws.{names_fit, AreNamed-kept, fewer_named}
use Rattle.vmo_table.proofs.EntryLaws.{vmo_at, target_at, vmo_count_le}
use Rattle.vmo_table.proofs.SettledLaws.{may_get, AreNamed-settled, IsVmoForest-settled}

-- both maps and the tree have room
pub rooms : (a : Inside) → 1 ≤ vmo_room (vmo_table_of a) → (0 < spare a.names) × (0 < spare a.vmos) × (0 < a.child_rows.spare)
rooms a room = (omega arith, omega arith, omega arith)

-- a parent that has a lineage is in the map
pub parent_at : (vmos : ℕ → Option Vmo) (o : Option Koid) → IfSome o (λ p. IsSome (lineages vmos p.0)) → (p : ℕ) →
    is_parent p (option_map koid_number o) ≡ true → is_some (vmos p) ≡ true
unfolding passes
parent_at vmos None h p e = absurd (cc)
parent_at vmos (Some koid) h p e = sym (is_some-lineages vmos p) ∙ (ap (λ (v : ℕ). is_some (lineages vmos v)) (sym (eqb-true koid.0 p e)) ∙ h)

-- ---- the table from its parts

pub IsVmoTable-is : (a : Inside) (names : ℕ → Option Target) (vmos : ℕ → Option Vmo) → names_in a.names.entries ≡ names →
    vmos_in a.vmos.entries ≡ vmos → AreNamed names vmos → IsVmoForest vmos → AreChildren a.child_rows (lineages vmos) → IsVmoTable a
IsVmoTable-is a names vmos same_names same_vmos named forest rows = record {
  named = subst (λ (m : ℕ → Option Target). AreNamed m (vmos_in a.vmos.entries)) (sym same_names) (subst (AreNamed names) (sym same_vmos) named);
  forest = subst IsVmoForest (sym same_vmos) forest;
  rows = subst (λ (m : ℕ → Option Vmo). AreChildren a.child_rows (lineages m)) (sym same_vmos) rows;
}

-- a VMO was settled
pub IsVmoTable-settled : (a : Inside) (vmos : ℕ → Option Vmo) (k : ℕ) (new : Vmo) → MayGet vmos k new → (names : ℕ → Option Target) →
    names_in a.names.entries ≡ names → AreNamed names (with_key vmos k new) → vmos_in a.vmos.entries ≡ vmos_settled vmos k new →
    AreChildren a.child_rows (lineages (vmos_in a.vmos.entries)) → IsVmoTable a
IsVmoTable-settled a vmos k new may names same_names named same_vmos rows =
    IsVmoTable-is a names (vmos_settled vmos k new) same_names same_vmos (AreNamed-settled vmos k new may names named) (IsVmoForest-settled vmos k new may)
    (subst (λ (m : ℕ → Option Vmo). AreChildren a.child_rows (lineages m)) same_vmos rows)

-- where only room comes
pub IsVmoTable-same : (a b : Inside) → IsVmoTable a → names_in b.names.entries ≡ names_in a.names.entries →
    vmos_in b.vmos.entries ≡ vmos_in a.vmos.entries → b.child_rows.rows ≡ a.child_rows.rows → IsVmoTable b
IsVmoTable-same a b table names vmos rows = IsVmoTable-is b _ _ names vmos table.named table.forest
    (record { is = λ p v. under-same a.child_rows b.child_rows p v rows ∙ table.rows.is p v })

-- the rows of no VMO
pub AreChildren-empty : (t : Rows ChildRow) (vmos : ℕ → Option Vmo) → t.rows ≡ [] → ((v : ℕ) → vmos v ≡ None) → AreChildren t (lineages vmos)
AreChildren-empty t vmos none no_vmo =
    record { is = λ p v. under-none t p v none ∙ sym (passes-none (has_parent p) (lineages vmos v) (lineage-at vmos v None (no_vmo v))) }

-- ---- what a VMO of the table counts

module _ (a : Inside) (v : ℕ) (vmo : Vmo) (table : IsVmoTable a) (found : vmo_at a.vmos.entries v ≡ Some vmo) where
  there : vmos_in a.vmos.entries v ≡ Some vmo
  unfolding vmos_in
  there = found

  pub children_counted : (vmo.children + vmo.slices + vmo.references ≡ children (names_in a.names.entries) (lineages (vmos_in a.vmos.entries)) v)
      × (vmo.children ≤ length a.vmos.entries) × (vmo.slices ≤ NAMES) × (vmo.references ≤ NAMES)
  children_counted =
      let fit = names_fit (names_in a.names.entries) (vmos_in a.vmos.entries) table.named v vmo there in
      let less = children_le (vmos_in a.vmos.entries) v in
      let few = vmo_count_le a.vmos.entries in
      let children = count-at (λ (x : Vmo). x.children) (vmos_in a.vmos.entries) v (Some vmo) there in
      let slices = count-at (λ (x : Vmo). x.slices) (vmos_in a.vmos.entries) v (Some vmo) there in
      let references = count-at (λ (x : Vmo). x.references) (vmos_in a.vmos.entries) v (Some vmo) there in
      (omega (arith, children, slices, references, table.forest.children v, table.named.sliced v, table.named.referred v), omega (arith, less, few, children, table.forest.children v), fit.1, fit.2)

  -- its frames may be taken back where its counts say so
  pub decommit_counted : (b : Bool) → b ≡ (is_created vmo.origin && ((vmo.children == 0) && (vmo.references == 0))) →
      IfSome (lineages (vmos_in a.vmos.entries) v) (λ l. b ≡ may_decommit (names_in a.names.entries) (lineages (vmos_in a.vmos.entries)) v l)
  decommit_counted b is =
      let children : vmo.children ≡ child_count (lineages (vmos_in a.vmos.entries)) v = sym (count-at (λ (x : Vmo). x.children) (vmos_in a.vmos.entries) v (Some vmo) there) ∙ table.forest.children v in
      let references : vmo.references ≡ names_as Reference (names_in a.names.entries) v = sym (count-at (λ (x : Vmo). x.references) (vmos_in a.vmos.entries) v (Some vmo) there) ∙ table.named.referred v in
      subst (λ (o : Option Lineage). IfSome o (λ l. b ≡ may_decommit (names_in a.names.entries) (lineages (vmos_in a.vmos.entries)) v l))
      (sym (lineage-at (vmos_in a.vmos.entries) v (Some vmo) there))
      (is ∙ (cc))

-- ---- a VMO gets another value

-- by a name that is closed
pub closing : (a : Inside) (n : ℕ) (t : Target) (vmo left : Vmo) → IsVmoTable a → target_at a.names.entries n ≡ Some t →
    vmo_at a.vmos.entries t.koid.0 ≡ Some vmo → left ≡ fewer_names t.kind vmo →
    MayGet (vmos_in a.vmos.entries) t.koid.0 left × AreNamed (without_key (names_in a.names.entries) n) (with_key (vmos_in a.vmos.entries) t.koid.0 left)
unfolding names_in vmos_in
closing a n t vmo left table open_ found is = (
  may_get _ _ vmo left table.forest found (ap lineage_of_vmo is) (ap (λ (x : Vmo). x.children) is),
  subst (λ (x : Vmo). AreNamed (without_key (names_in a.names.entries) n) (with_key (vmos_in a.vmos.entries) t.koid.0 x)) (sym is) (fewer_named (names_in a.names.entries) _ n t table.named vmo open_ found).3,
)

-- by keepers that come or go
pub keeping : (a : Inside) (v : ℕ) (vmo : Vmo) (keepers : ℕ) → IsVmoTable a → vmo_at a.vmos.entries v ≡ Some vmo →
    MayGet (vmos_in a.vmos.entries) v (record vmo { keepers = keepers })
    × AreNamed (names_in a.names.entries) (with_key (vmos_in a.vmos.entries) v (record vmo { keepers = keepers }))
unfolding vmos_in
keeping a v vmo keepers table found = (
  may_get _ _ vmo _ table.forest found refl refl,
  AreNamed-kept _ _ v vmo _ table.named found refl refl refl,
)
