-- A VMO leaves: its children are moved one after another, and its own row goes.
use Rattle.std.proofs.Common.{◌≡◌, ◌≢◌, ℕ, ◌<◌, ◌^◌, true, false, ◌==◌, cond, arith}
use Rattle.std.proofs.Common.{Option, None, Some, IsSome, IfSome, is_some, refl, sym, ap, subst, ◌∙◌}
use Rattle.std.specs.Option.{option_map}
use Rattle.std.proofs.lemmas.Grind.{common_steps}
use Rattle.std.proofs.lemmas.Bool.{eq-eqb}
use Rattle.balanced_tree.specs.Rows.{Rows}
use Rattle.vm_base.specs.declared.names.Koid.{Koid}
use Rattle.vm_base.specs.Entries.{with_key, passes}
use Rattle.vm_base.proofs.EntryLaws.{with_key-other, passes-none, passes-some, passes_found, entry_count-change}
use Rattle.vm_model.specs.Naming.Names.{Lineage, is_parent, has_parent, child_count}
use Rattle.vmo_table.specs.declared.child_rows.ChildRow.{ChildRow}
use Rattle.vmo_table.specs.declared.vmos.Vmo.{Vmo}
use Rattle.vmo_table.specs.Vmos.{koid_number, lineage_of_vmo, lineages, koid_after, vmos_without}
use Rattle.vmo_table.specs.inside.ChildRows.{is_under, IsChange, AreChildren, MayLeave}
use Rattle.vmo_table.proofs.CountLaws.{funext}
use Rattle.vmo_table.proofs.VmosLaws.{lineage-at, is_some-lineages, lineages-with_key, lineages-without, child-with_key, child-without, one_parent}
use Rattle.vmo_table.proofs.ChildLaws.{under-below}

-- a VMO that is new gets a row under its parent
pub AreChildren-entered : (t new : Rows ChildRow) (lineage : ℕ → Option Lineage) (k : ℕ) (l : Lineage) →
    AreChildren t lineage → lineage k ≡ None → IsChange t new l.parent k true → AreChildren new (with_key lineage k l)
AreChildren-entered t new lineage k l kept free change = record {
  is = λ p v. grind (arith, common_steps, change p v, kept.is p v, kept.is p k, passes-none (has_parent p) (lineage k) free, child-with_key lineage k l p v);
}

-- a koid with no row has none under a parent that may be there
pub no_row_under : (t : Rows ChildRow) (k : ℕ) (o : Option Koid) → ((p : ℕ) → is_under t p k ≡ false) → IfSome o (λ p. is_under t p.0 k ≡ false)
no_row_under t k None none = tt
no_row_under t k (Some p) none = none p.0

pub row_under : (t : Rows ChildRow) (k : ℕ) (o : Option Koid) → ((p : ℕ) → is_under t p k ≡ is_parent p (option_map koid_number o)) →
    IfSome o (λ p. is_under t p.0 k ≡ true)
unfolding passes
row_under t k None own = tt
row_under t k (Some p) own = own p.0 ∙ eq-eqb p.0 p.0 refl

-- ---- the VMO k leaves, whose parent is `parent`

module _ (vmos : ℕ → Option Vmo) (t : Rows ChildRow) (k : ℕ) (parent : Option Koid)
    (leaves : MayLeave vmos t k parent) where
  abbrev above : Option ℕ
  above = option_map koid_number parent

  -- a child of it
  module _ (child : ℕ) (under : is_under t k child ≡ true) where
    is_its : passes (has_parent k) (lineages vmos child) ≡ true
    is_its = sym (leaves.rows.is k child) ∙ under

    pub child_there : IsSome (vmos child)
    child_there =
        sym (is_some-lineages vmos child) ∙ ap is_some (passes_found (has_parent k) (lineages vmos child) is_its).1

    child_apart : child ≢ k
    child_apart same = absurd (
        let own = leaves.own k in
        let apart = leaves.apart in
        let at = ap (is_under t k) (sym same) ∙ under in
        cc)

    module _ (mid : Rows ChildRow) (gone : IsChange t mid (Some k) child false) where
      pub nowhere : (q : ℕ) → is_under mid q child ≡ false
      nowhere q =
          let is = passes-some (λ (p : ℕ). p == q) (Some k) k refl in
          let apart = λ (a : q ≢ k). one_parent q k a (lineages vmos child) is_its in
          grind (arith, common_steps, gone q child, leaves.rows.is q child)

      module _ (vmo : Vmo) (found : vmos child ≡ Some vmo) (new : Rows ChildRow) (come : IsChange mid new above child true) where
        its_parent : (q : ℕ) → passes (has_parent q) (lineages vmos child) ≡ is_parent q (option_map koid_number vmo.parent)
        its_parent q = passes-some (has_parent q) (lineages vmos child) _ (lineage-at vmos child (Some vmo) found)

        abbrev its : Vmo
        its = record vmo { parent = parent }

        abbrev moved : ℕ → Option Vmo
        moved = with_key vmos child its

        rows-moved : (q w : ℕ) → is_under new q w ≡ cond (w == child) (is_parent q above) (is_under t q w)
        rows-moved q w = grind (arith, common_steps, gone q w, come q w, nowhere q)

        lineages-moved : (q w : ℕ) → passes (has_parent q) (lineages moved w) ≡ cond (w == child) (is_parent q above) (passes (has_parent q) (lineages vmos w))
        lineages-moved q w =
            ap (λ (l : ℕ → Option Lineage). passes (has_parent q) (l w)) (lineages-with_key vmos child its)
            ∙ child-with_key (lineages vmos) child (lineage_of_vmo its) q w

        MayLeave-moved : MayLeave moved new k parent
        MayLeave-moved = record {
          rows = record { is = λ p v. grind (arith, common_steps, rows-moved p v, lineages-moved p v, leaves.rows.is p v) };
          own = λ p. grind (arith, common_steps, rows-moved p k, leaves.own p, child_apart);
          apart = leaves.apart;
        }

        without-moved : vmos_without moved k parent ≡ vmos_without vmos k parent
        unfolding vmos_without with_key koid_after passes
        without-moved = funext (λ w. grind (arith, common_steps, found, leaves.apart, its_parent k, is_its))

        fewer-moved : child_count (lineages moved) k < child_count (lineages vmos) k
        fewer-moved =
            let change = entry_count-change (2 ^ 64) (has_parent k) (lineages vmos) (lineages moved) child
            (under-below t k child under)
            (λ w apart. ap (λ (m : ℕ → Option Lineage). m w) (lineages-with_key vmos child its)
            ∙ with_key-other (lineages vmos) child (lineage_of_vmo its) w apart) in
            grind (arith, common_steps, change, is_its, lineages-moved k child, leaves.apart)

        -- the child was moved: the VMO may leave still, and leaves the same, with fewer children
        pub moves : (after : ℕ → Option Vmo) → after ≡ moved → MayLeave after new k parent
            × (vmos_without after k parent ≡ vmos_without vmos k parent)
            × (child_count (lineages after) k < child_count (lineages vmos) k)
        moves after is = subst (λ (m : ℕ → Option Vmo). MayLeave m new k parent
            × (vmos_without m k parent ≡ vmos_without vmos k parent)
            × (child_count (lineages m) k < child_count (lineages vmos) k)) (sym is)
            (MayLeave-moved, without-moved, fewer-moved)

  -- it leaves, and has no children any more
  module _ (childless : (v : ℕ) → is_under t k v ≡ false) where
    pub no_children : (w : ℕ) → passes (has_parent k) (lineages vmos w) ≡ false
    no_children w = sym (leaves.rows.is k w) ∙ childless w

    pub AreChildren-left : (new : Rows ChildRow) → IsChange t new above k false → AreChildren new (lineages (vmos_without vmos k parent))
    AreChildren-left new change = record {
      is = λ p v. rw (lineages-without vmos k parent)
          (grind (arith, common_steps, change p v, leaves.own p, leaves.rows.is p v, no_children v, child-without (lineages vmos) k above p v));
    }
