-- What the entries of the two maps are as maps from numbers, after a call of the library.
use Rattle.std.proofs.Common.{◌≡◌, ℕ, ◌==◌, Bool, true, cond, List, [], ◌∷◌, Option, None, Some, IsSome, Result, Ok, Err, refl, sym, ap, ◌∙◌, inl, inr, ◌≢◌, ◌+◌, ◌^◌, ◌≤◌, length, arith}
use Rattle.std.specs.Prelude.{IsOk, OnOk}
use Rattle.std.specs.Map.{lookup}
use Rattle.std.proofs.lemmas.Grind.{common_steps}
use Rattle.std.proofs.lemmas.Bool.{ne_eqb, cond-false, cases_lt}
use Rattle.vm_base.specs.declared.names.Koid.{Koid}
use Rattle.vm_base.specs.declared.names.VmoName.{VmoName}
use Rattle.vm_base.specs.Entries.{with_key, without_key, passes, entry_count}
use Rattle.vm_base.proofs.EntryLaws.{entry_count-change, entry_count-same, entry_count-empty}
use Rattle.vm_base.proofs.SearchLaws.{bit_le}
use Rattle.vm_model.specs.declared.names.Target.{Target}
use Rattle.vmo_table.specs.declared.vmos.Vmo.{Vmo}
use Rattle.vmo_table.specs.Vmos.{vmos_in, lineages, with_children, adopted, vmo_count}
use Rattle.vmo_table.specs.Table.{names_in}
use Rattle.vmo_table.proofs.CountLaws.{funext}
use Rattle.vmo_table.proofs.VmosLaws.{is_some-lineages}

-- an entry of the map of VMOs
abbrev pub vmo_at : List (Koid × Vmo) → ℕ → Option Vmo
vmo_at entries v = lookup (λ (koid : Koid). v == koid.0) entries

-- an entry of the map of names
abbrev pub target_at : List (VmoName × Target) → ℕ → Option Target
target_at entries n = lookup (λ (name : VmoName). n == name.0) entries

-- ---- the map of VMOs

pub vmos_in-same : (old new : List (Koid × Vmo)) → ((q : Koid) → vmo_at new q.0 ≡ vmo_at old q.0) →
    vmos_in new ≡ vmos_in old
unfolding vmos_in
vmos_in-same old new each = funext (λ v. each (record { 0 = v }))

pub vmos_in-put : (old new : List (Koid × Vmo)) (k : ℕ) (vmo : Vmo) → ((q : Koid) →
    vmo_at new q.0 ≡ cond (k == q.0) (Some vmo) (vmo_at old q.0)) → vmos_in new ≡ with_key (vmos_in old) k vmo
unfolding vmos_in with_key
vmos_in-put old new k vmo each = funext (λ v. grind (arith, common_steps, each (record { 0 = v })))

-- the counts of the parent were changed
pub vmos_in-adopted : (old new : List (Koid × Vmo)) (k : ℕ) (vmo : Vmo) (gone come : ℕ) → vmo_at old k ≡ Some vmo →
    ((q : Koid) → vmo_at new q.0 ≡ cond (k == q.0) (Some (with_children gone come vmo)) (vmo_at old q.0)) →
    vmos_in new ≡ adopted (vmos_in old) (Some k) gone come
unfolding vmos_in adopted passes
vmos_in-adopted old new k vmo gone come found each = funext (λ v. grind (arith, common_steps, each (record { 0 = v })))

-- no VMO, no change
pub adopted-nobody : (vmos : ℕ → Option Vmo) (gone come : ℕ) → vmos ≡ adopted vmos None gone come
unfolding adopted passes
adopted-nobody vmos gone come = refl

pub adopted-absent : (entries : List (Koid × Vmo)) (k gone come : ℕ) → vmo_at entries k ≡ None →
    vmos_in entries ≡ adopted (vmos_in entries) (Some k) gone come
unfolding vmos_in adopted passes
adopted-absent entries k gone come none = funext (λ v. grind (arith, common_steps))

pub vmos_in-removed : (old new : List (Koid × Vmo)) (k : ℕ) → ((q : Koid) →
    vmo_at new q.0 ≡ cond (k == q.0) None (vmo_at old q.0)) → vmos_in new ≡ without_key (vmos_in old) k
unfolding vmos_in without_key
vmos_in-removed old new k each = funext (λ v. grind (arith, common_steps, each (record { 0 = v })))

-- ---- the map of names

pub names_in-same : (old new : List (VmoName × Target)) → ((q : VmoName) → target_at new q.0 ≡ target_at old q.0) →
    names_in new ≡ names_in old
unfolding names_in
names_in-same old new each = funext (λ n. each (record { 0 = n }))

pub names_in-put : (old new : List (VmoName × Target)) (k : ℕ) (t : Target) → ((q : VmoName) →
    target_at new q.0 ≡ cond (k == q.0) (Some t) (target_at old q.0)) → names_in new ≡ with_key (names_in old) k t
unfolding names_in with_key
names_in-put old new k t each = funext (λ n. grind (arith, common_steps, each (record { 0 = n })))

pub names_in-taken : (old new : List (VmoName × Target)) (k : ℕ) → ((q : VmoName) →
    target_at new q.0 ≡ cond (k == q.0) None (target_at old q.0)) → names_in new ≡ without_key (names_in old) k
unfolding names_in without_key
names_in-taken old new k each = funext (λ n. grind (arith, common_steps, each (record { 0 = n })))

-- ---- nothing is in a map

pub names_in-empty : (entries : List (VmoName × Target)) → entries ≡ [] → (n : ℕ) → names_in entries n ≡ None
unfolding names_in
names_in-empty entries e n = ap (λ (es : List (VmoName × Target)). target_at es n) e

pub vmos_in-empty : (entries : List (Koid × Vmo)) → entries ≡ [] → (v : ℕ) → vmos_in entries v ≡ None
unfolding vmos_in
vmos_in-empty entries e v = ap (λ (es : List (Koid × Vmo)). vmo_at es v) e

-- ---- how much is in a map

-- maps that differ at one key
count_apart : {A : Type 0} (bound : ℕ) (test : A → Bool) (map new : ℕ → Option A) (k : ℕ) → ((n : ℕ) → n ≢ k →
    new n ≡ map n) → entry_count bound test new ≤ entry_count bound test map + 1
count_apart bound test map new k others = elim (cases_lt k bound) [
  | inl low ↦
      let change = entry_count-change bound test map new k low others in
      let one = bit_le (passes test (new k)) in
      omega arith
  | inr high ↦
      let same = entry_count-same bound test new test map (λ n h. ap (passes test) (others n (λ e. absurd (omega arith)))) in
      omega arith
]

-- there are no more VMOs than entries
pub vmo_count_le : (entries : List (Koid × Vmo)) → vmo_count (vmos_in entries) ≤ length entries
unfolding vmos_in
vmo_count_le [] = let none = entry_count-empty (2 ^ 64) (λ (vmo : Vmo). true) (vmos_in []) (λ v. vmos_in-empty [] refl v) in omega (arith, none)
vmo_count_le (e ∷ es) =
    let rest = vmo_count_le es in
    let one = count_apart (2 ^ 64) (λ (vmo : Vmo). true) (vmos_in es) (vmos_in (e ∷ es)) e.0.0 (λ v apart.
    cond-false (v == e.0.0) (Some e.1) (vmo_at es v) (ne_eqb v e.0.0 apart)) in
    omega (arith, rest, one)

-- what has a lineage is in the map
pub vmo_there : (entries : List (Koid × Vmo)) (v : ℕ) → IsSome (lineages (vmos_in entries) v) → IsSome (vmo_at entries v)
unfolding vmos_in
vmo_there entries v h = sym (is_some-lineages (vmo_at entries) v) ∙ h

-- what holds on success holds
pub from_ok : {T E P : Type 0} (r : Result T E) → IsOk r → OnOk r P → P
from_ok (Ok x) e h = h
from_ok (Err d) e h = absurd cc
