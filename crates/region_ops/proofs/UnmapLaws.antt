-- Laws of unmapping a range: what is mapped in it, and the step.
use Rattle.std.proofs.Common.{◌≡◌, ℕ, ◌+◌, ◌-◌, ◌/◌, ◌<◌, ◌≤◌, true, false, Option, None, Some, refl, sym, ap, ◌∙◌, inl, inr, arith}
use Rattle.std.specs.Prelude.{nat_lt, is_some}
use Rattle.std.proofs.lemmas.Bool.{cases_Bool, both_ways, ltb-true, ltb-false}
use Rattle.vm_base.specs.Pages.{rounded}
use Rattle.vm_base.specs.declared.limits.TheConstants.{PAGE}
use Rattle.vm_base.specs.declared.names.RegionName.{RegionName}
use Rattle.vm_base.specs.declared.refusal.Refusal.TheVariants.{HostMemory}
use Rattle.vm_base.proofs.SearchLaws.{any_from_at, none_from}
use Rattle.vm_model.specs.Machine.Words.{Command}
use Rattle.vm_model.specs.declared.command.Command.TheVariants.{VmarUnmap}
use Rattle.vm_model.specs.declared.reply.Reply.TheVariants.{Done, Refused}
use Rattle.vm_model.specs.declared.space.Entry.{Entry}
use Rattle.vm_model.specs.declared.space.Region.{Region}
use Rattle.vm_model.specs.Contents.Content.{Content}
use Rattle.vm_model.specs.Space.Regions.{region_of, killed}
use Rattle.vm_model.specs.Space.Table.{with_pages}
use Rattle.vm_model.specs.Space.AddressSpaces.{Spaces, is_mapped, mapped_count}
use Rattle.vm_model.specs.Space.Mappings.{is_mapped_in, lies_below_in, unmapped}
use Rattle.vm_model.specs.Machine.State.{State, is_live}
use Rattle.vm_model.specs.Machine.Leaving.{pruned}
use Rattle.vm_model.specs.Machine.Refusals.{refusals, first_of}
use Rattle.vm_model.specs.Machine.Step.{Effect, Step}
use Rattle.vm_model.proofs.RegionLaws.{region_of-at}
use Rattle.vm_model.proofs.StepLaws.{Step-done, Step-lacks}
use Rattle.mapping_set.specs.declared.piece.Piece.{Piece}
use Rattle.mapping_set.specs.Tables.{IsBare, IsBareFrom, IsNextPiece}
use Rattle.vmo_table.specs.Table.{Vmos}
use Rattle.region_ops.proofs.PrunedLaws.{pruned-alike}
use Rattle.region_ops.specs.Spaces.{with_entries, with_all, AreWell, AreAllWell, LetsGo, Does}

-- ---- whether a page of a range is mapped

module _ (entries : ℕ → Option Entry) (first end : ℕ) where
  -- a page that has an entry is
  mapped_at : (p : ℕ) (entry : Entry) → first ≤ p → p < end → entries p ≡ Some entry → is_mapped_in entries first end ≡ true
  unfolding is_mapped_in
  mapped_at p entry low high e = any_from_at _ first end p low high (ap is_some e)

  -- where none is, no page has one
  pub bare_from : is_mapped_in entries first end ≡ false → IsBare entries first end
  bare_from off p low high = go (entries p) refl where
    go : (o : Option Entry) → entries p ≡ o → entries p ≡ None
    go None e = e
    go (Some entry) e = absurd (both_ways (is_mapped_in entries first end) off (mapped_at p entry low high e))

  bare_is : IsBare entries first end → is_mapped_in entries first end ≡ false
  unfolding is_mapped_in
  bare_is bare = none_from _ first end (λ p low high. ap is_some (bare p low high))

-- one is where the next piece begins in the range
pub mapped_next : (entries : ℕ → Option Entry) (first count : ℕ) (piece : Piece) → IsNextPiece entries first piece
    → nat_lt (piece.first - first) count ≡ is_mapped_in entries first (first + count)
mapped_next entries first count piece next = elim (cases_Bool (nat_lt (piece.first - first) count)) [
  | inl near ↦
      let less = ltb-true (piece.first - first) count near in
      near ∙ sym (mapped_at entries first (first + count) piece.first _ next.not_before (omega (arith, less, next.not_before)) (next.is.entries piece.first (omega arith) (omega (arith, next.is.some))))
  | inr far ↦
      let more = ltb-false (piece.first - first) count far in
      far ∙ sym (bare_is entries first (first + count) (λ p low high. next.bare p low (omega (arith, more, high, next.not_before))))
]

-- and none where no piece begins
pub mapped_none : (entries : ℕ → Option Entry) (first count : ℕ) → IsBareFrom entries first → false ≡ is_mapped_in entries first (first + count)
mapped_none entries first count bare = sym (bare_is entries first (first + count) (λ p low high. bare p low))

-- parts of one good state, with its regions or without
pub AreWell-all : (c : Content) (vmos : Vmos) (spaces : Spaces) → AreAllWell c vmos spaces → AreWell c vmos spaces.table
AreWell-all c vmos spaces well = record { rest = record well.rest { spaces = spaces }; well = well.well }

-- ---- what leaves, whatever the regions are

-- the state with these regions
abbrev pub with_regions : State → (ℕ → Option Region) → State
with_regions t regions = record t { spaces = record t.spaces { regions = regions } }

-- the VMOs that leave are those that nothing keeps, whatever the regions are
pruned-regions : (t : State) (regions : ℕ → Option Region) → with_regions (pruned t) regions ≡ pruned (with_regions t regions)
unfolding pruned is_live is_mapped
pruned-regions t regions = sym (pruned-alike t (with_regions t regions) refl (λ v. refl) refl)

-- a command whose effect is that entries go and regions die, and the VMOs leave that nothing keeps any more
pub Does-gone : (c : Content) (vmos : Vmos) (spaces : Spaces) (command : Command) (d : Content) (vmos_new : Vmos) (now : Spaces)
    → LetsGo c vmos spaces.table d vmos_new now.table
    → ((s : State) → first_of (refusals (with_all s c vmos spaces) command) ≡ None)
    → ((s new : State) → new ≡ pruned (with_all s c vmos now) → Effect (with_all s c vmos spaces) command Done new)
    → Does c vmos spaces command Done d vmos_new now
unfolding mapped_count
Does-gone c vmos spaces command d vmos_new now gone none effect = record {
  step = λ s well.
      Step-done (with_all s c vmos spaces) command Done (with_all s d vmos_new now) (none s)
      (effect s (with_all s d vmos_new now)
      (ap (λ (t : State). with_regions t now.regions) (gone.gone (record s { spaces = spaces }) well)
      ∙ pruned-regions (with_entries (record s { spaces = spaces }) c vmos now.table) now.regions));
  counted = λ s well. (gone.well (record s { spaces = spaces }) well).counted;
}

-- ---- the step

module _ (c : Content) (vmos : Vmos) (spaces : Spaces) (region : RegionName) (addr len : ℕ) (above : Region)
    (given : spaces.regions region.0 ≡ Some above) where
  abbrev pub first : ℕ
  first = addr / PAGE

  abbrev pub count : ℕ
  count = rounded len / PAGE

  here : region_of spaces.regions region.0 ≡ above
  here = region_of-at spaces.regions region.0 above given

  module _ (none : (s : State) → first_of (refusals (with_all s c vmos spaces) (VmarUnmap region addr len)) ≡ None) where
    -- the host may lack memory for it if a page is mapped
    pub unmap_lacks : is_mapped_in (spaces.table above.root.0) first (first + count) ≡ true → (s : State)
        → Step (with_all s c vmos spaces) (VmarUnmap region addr len) (Refused HostMemory) (with_all s c vmos spaces)
    unmap_lacks mapped s =
        Step-lacks (with_all s c vmos spaces) (VmarUnmap region addr len) (none s) (ap (λ (r : Region). is_mapped_in (spaces.table r.root.0) first (first + count)) here ∙ mapped)

    -- the entries go, and then the regions
    pub unmap_done : (d : Content) (vmos_new : Vmos) (table_new : ℕ → ℕ → Option Entry) (regions_new : ℕ → Option Region)
        → table_new ≡ with_pages spaces.table above.root.0 first (first + count) (λ p. None)
        → LetsGo c vmos spaces.table d vmos_new table_new
        → regions_new ≡ killed spaces.regions (lies_below_in spaces.regions region.0 first (first + count))
        → Does c vmos spaces (VmarUnmap region addr len) Done d vmos_new (record { regions = regions_new; table = table_new })
    unmap_done d vmos_new table_new regions_new e gone f =
        let now : Spaces = record { regions = regions_new; table = table_new } in
        let is : now ≡ unmapped spaces region.0 first (first + count) =
        (λ i. record { regions = f i; table = e i }) ∙ (λ i. record (unmapped spaces region.0 first (first + count)) { table = with_pages spaces.table (sym here i).root.0 first (first + count) (λ p. None) }) in
        Does-gone c vmos spaces (VmarUnmap region addr len) d vmos_new now gone none (λ s new h. (refl, h ∙ ap (λ (x : Spaces). pruned (with_all s c vmos x)) is))
