-- The lineages of the VMOs of the table, and which VMO is a child of which, as VMOs are written, come and leave.
use Rattle.std.proofs.Common.{◌≡◌, ◌≢◌, ℕ, ◌≤◌, ◌^◌, ◌==◌, true, false, cond, Option, None, Some, IsSome, is_some, sym, ap, ◌∙◌, arith}
use Rattle.std.specs.Option.{option_map}
use Rattle.std.proofs.lemmas.Grind.{common_steps}
use Rattle.vm_base.specs.declared.names.Koid.{Koid}
use Rattle.vm_base.specs.Entries.{with_key, without_key, passes, entry_count}
use Rattle.vm_base.proofs.EntryLaws.{some_is, none_is, passes_found, passes-some}
use Rattle.vm_base.proofs.SearchLaws.{count_below_less}
use Rattle.vm_model.specs.Naming.Names.{Lineage, is_parent, parent_without, lineage_without, has_parent, child_count}
use Rattle.vm_model.proofs.NamesLaws.{lineage_without-some}
use Rattle.vmo_table.specs.declared.vmos.Vmo.{Vmo}
use Rattle.vmo_table.proofs.CountLaws.{funext}
use Rattle.vmo_table.specs.Vmos.{koid_number, lineage_of_vmo, lineages, adopted, koid_after, vmos_without, vmo_count}

pub lineage-at : (vmos : ℕ → Option Vmo) (v : ℕ) (o : Option Vmo) → vmos v ≡ o → lineages vmos v ≡ option_map lineage_of_vmo o
unfolding lineages
lineage-at vmos v o e = ap (option_map lineage_of_vmo) e

-- what has a lineage is there
pub is_some-lineages : (vmos : ℕ → Option Vmo) (v : ℕ) → is_some (lineages vmos v) ≡ is_some (vmos v)
unfolding lineages
is_some-lineages vmos v = grind (arith, common_steps)

pub lineages-none : (vmos : ℕ → Option Vmo) (v : ℕ) → lineages vmos v ≡ None → vmos v ≡ None
lineages-none vmos v e = none_is (vmos v) (sym (is_some-lineages vmos v) ∙ ap is_some e)

-- ---- lineages

pub lineages-with_key : (vmos : ℕ → Option Vmo) (k : ℕ) (vmo : Vmo) →
    lineages (with_key vmos k vmo) ≡ with_key (lineages vmos) k (lineage_of_vmo vmo)
unfolding lineages with_key
lineages-with_key vmos k vmo = funext (λ w. grind (arith, common_steps))

-- another count changes no lineage
pub lineages-written : (vmos : ℕ → Option Vmo) (k : ℕ) (old new : Vmo) → vmos k ≡ Some old →
    lineage_of_vmo new ≡ lineage_of_vmo old → lineages (with_key vmos k new) ≡ lineages vmos
unfolding lineages with_key
lineages-written vmos k old new was same_lineage = funext (λ w. grind (arith, common_steps))

pub lineages-adopted : (vmos : ℕ → Option Vmo) (parent : Option ℕ) (gone come : ℕ) →
    lineages (adopted vmos parent gone come) ≡ lineages vmos
unfolding lineages adopted
lineages-adopted vmos parent gone come = funext (λ w. grind (arith, common_steps))

pub lineages-without : (vmos : ℕ → Option Vmo) (v : ℕ) (parent : Option Koid) →
    lineages (vmos_without vmos v parent) ≡ lineage_without (lineages vmos) v (option_map koid_number parent)
unfolding lineages vmos_without lineage_without koid_after parent_without
lineages-without vmos v parent = funext (λ w. grind (arith, common_steps))

-- a VMO that leaves is gone, whatever it was
pub without-written : (vmos : ℕ → Option Vmo) (k : ℕ) (new : Vmo) (parent : Option Koid) →
    vmos_without (with_key vmos k new) k parent ≡ vmos_without vmos k parent
unfolding vmos_without with_key
without-written vmos k new parent = funext (λ w. grind (arith, common_steps))

-- a VMO without children leaves alone
pub without-childless : (vmos : ℕ → Option Vmo) (k : ℕ) (parent : Option Koid) → ((w : ℕ) → passes (has_parent k) (lineages vmos w) ≡ false) →
    vmos_without vmos k parent ≡ without_key vmos k
unfolding vmos_without without_key lineages passes koid_after
without-childless vmos k parent childless = funext (λ w. grind (arith, common_steps, childless w))

pub without_key-absent : (vmos : ℕ → Option Vmo) (k : ℕ) → vmos k ≡ None → without_key vmos k ≡ vmos
unfolding without_key
without_key-absent vmos k none = funext (λ w. grind (arith, common_steps))

-- ---- which VMO is a child of which

pub child-with_key : (lineage : ℕ → Option Lineage) (k : ℕ) (l : Lineage) (u w : ℕ) →
    passes (has_parent u) (with_key lineage k l w) ≡ cond (w == k) (is_parent u l.parent) (passes (has_parent u) (lineage w))
unfolding with_key passes
child-with_key lineage k l u w = grind (arith, common_steps)

pub child-without : (lineage : ℕ → Option Lineage) (k : ℕ) (above : Option ℕ) (u w : ℕ) →
    passes (has_parent u) (lineage_without lineage k above w)
    ≡ cond (w == k) false (cond (passes (has_parent k) (lineage w)) (is_parent u above) (passes (has_parent u) (lineage w)))
unfolding lineage_without parent_without passes
child-without lineage k above u w = grind (arith, common_steps)

-- a VMO has one parent
pub one_parent : (u k : ℕ) → u ≢ k → (o : Option Lineage) → passes (has_parent k) o ≡ true → passes (has_parent u) o ≡ false
unfolding passes
one_parent u k apart o e = grind (arith, common_steps)

-- what is there after a VMO left was there
pub left-there : (vmos : ℕ → Option Vmo) (k : ℕ) (above : Option ℕ) (w : ℕ) →
    IsSome (lineage_without (lineages vmos) k above w) → IsSome (vmos w)
left-there vmos k above w h =
    let found = some_is (lineage_without (lineages vmos) k above w) h in
    sym (is_some-lineages vmos w) ∙ ap is_some (lineage_without-some (lineages vmos) k above w found.0 found.1).2

-- no more VMOs have a parent than there are
pub child_count_le : (vmos : ℕ → Option Vmo) (lineage : ℕ → Option Lineage) (u : ℕ) → ((w : ℕ) → IsSome (lineage w) →
    IsSome (vmos w)) → child_count lineage u ≤ vmo_count vmos
unfolding entry_count
child_count_le vmos lineage u there =
    count_below_less (2 ^ 64) (λ w. passes (has_parent u) (lineage w)) (λ w. passes (λ (vmo : Vmo). true) (vmos w)) (λ w h hit.
    let found = passes_found (has_parent u) (lineage w) hit in
    let vmo = some_is (vmos w) (there w (ap is_some found.1)) in
    passes-some (λ (x : Vmo). true) (vmos w) vmo.0 vmo.1)

pub children_le : (vmos : ℕ → Option Vmo) (u : ℕ) → child_count (lineages vmos) u ≤ vmo_count vmos
children_le vmos u = child_count_le vmos (lineages vmos) u (λ w h. sym (is_some-lineages vmos w) ∙ h)
