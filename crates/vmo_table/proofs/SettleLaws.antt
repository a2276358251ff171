-- Something that kept a VMO went, a name, a pin or entries: what the table says of the VMO is what the machine does.
use Rattle.std.proofs.Common.{◌≡◌, ℕ, ◌<◌, ◌==◌, true, false, Option, Some, ◌⊎◌, sym, ◌∙◌, arith}
use Rattle.std.specs.Prelude.{IsSome, IfSome, MatchOption}
use Rattle.std.proofs.lemmas.Bool.{cases_Bool, ltb-true, ltb-false}
use Rattle.vm_base.specs.declared.names.Koid.{Koid}
use Rattle.vm_base.specs.declared.limits.TheConstants.{NAMES}
use Rattle.vm_base.proofs.EntryLaws.{any_entry-count}
use Rattle.vm_model.specs.Contents.Content.{Content}
use Rattle.vm_model.specs.Contents.Sharing.{without}
use Rattle.vm_model.specs.declared.names.Target.{Target}
use Rattle.vm_model.specs.Naming.Names.{Lineage, is_named}
use Rattle.vm_model.specs.Naming.Pins.{Pin, pin_count}
use Rattle.vm_model.specs.Space.AddressSpaces.{mapped_count}
use Rattle.vm_model.proofs.SpaceLaws.{is_mapped-count}
use Rattle.vm_model.specs.Machine.State.{State, is_live, keeper_count, IsGoodState}
use Rattle.vm_model.specs.Machine.Leaving.{pruned}
use Rattle.vm_model.proofs.NamesLaws.{lineage-known}
use Rattle.vm_model.proofs.LiveLaws.{is_live_cases, is_live_none}
use Rattle.vm_model.proofs.LeavingLaws.{LoosensAt, pruned-stays, pruned-leaves}
use Rattle.vmo_table.specs.Table.{Settles}

-- ---- what keeps a VMO, counted

-- a VMO is live by a name, or something counts as its keeper
kept_cases : (t : State) (v : ℕ) → is_live t v ≡ true → (is_named t.names v ≡ true) ⊎ (0 < keeper_count t v)
kept_cases = grind (arith, is_live_cases, ltb-true, any_entry-count, is_mapped-count)

-- one that is not live has no name, and no keeper
kept_none : (t : State) (v : ℕ) → is_live t v ≡ false → (is_named t.names v ≡ false) × (keeper_count t v ≡ 0)
kept_none t v gone =
    let off = is_live_none t v gone in
    let no_pin =
    ltb-false 0 (pin_count t.pins v) (sym (any_entry-count NAMES (λ (pin : Pin). pin.koid == v) t.pins) ∙ off.1) in
    let no_page = ltb-false 0 (mapped_count t.spaces v) (sym (is_mapped-count t.spaces v) ∙ off.2) in
    (off.0, omega (arith, no_pin, no_page))

-- ---- what the table answers

module _ (names : ℕ → Option Target) (keepers v : ℕ) (old new : ℕ → Option Lineage) where
  -- only the VMO itself leaves
  pub settled_koid : (koid : Koid) → Settles names keepers v old new (Some koid) → koid.0 ≡ v
  settled_koid = grind (arith, cases_Bool, ltb-true, ltb-false)

  -- so what leaves is a VMO of the content, where the VMO is
  pub leaving_vmo : (c : Content) (answer : Option Koid) → IsSome (c.count v) → Settles names keepers v old new answer
      → IfSome answer (λ koid. IsSome (c.count koid.0))
  leaving_vmo = grind (arith, settled_koid)

-- The state t is the good state s with less that keeps the VMO v, whose keepers are those that are left. Where the content
-- lost the VMO that leaves, it and the table's lineage are those of what is left of the loosened state.
pub settled_pruned : (s t : State) (v : ℕ) → IsGoodState s → LoosensAt s t v → (names : ℕ → Option Target)
    → names ≡ t.names → (keepers : ℕ) → keepers ≡ keeper_count t v → (lineage : ℕ → Option Lineage)
    (answer : Option Koid) → Settles names keepers v s.lineage lineage answer → (content : Content)
    → MatchOption answer (content ≡ s.content) (λ koid. content ≡ without s.content koid.0)
    → record t { content = content; lineage = lineage } ≡ pruned t
settled_pruned = grind (arith, cases_Bool, kept_cases, kept_none, lineage-known, pruned-stays, pruned-leaves)
