-- What a change of mappings covers, and what it leaves of what is ready.
use Rattle.std.proofs.Common.{◌≡◌, ℕ, ◌+◌, ◌<◌, true, false, ◌&&◌, ◌==◌, Option, None, Some, refl, sym, ◌∙◌, inl, inr}
use Rattle.std.proofs.lemmas.Bool.{cases_Bool, cond-true, cond-false}
use Rattle.vm_base.specs.declared.flags.Perm.{Perm}
use Rattle.vm_base.specs.declared.names.RegionName.{RegionName}
use Rattle.vm_model.specs.declared.space.Entry.{Entry}
use Rattle.vm_model.specs.declared.space.Region.{Region}
use Rattle.vm_model.specs.Contents.Content.{pages_of}
use Rattle.vm_model.specs.Contents.Zeroing.{is_within}
use Rattle.vm_model.specs.Space.Readiness.{Ready, settled, unready}
use Rattle.vm_model.specs.Space.Regions.{region_of}
use Rattle.vm_model.specs.Space.Table.{with_pages}
use Rattle.vm_model.specs.Space.AddressSpaces.{Spaces, without_region}
use Rattle.vm_model.specs.Space.Mappings.{with_mapping, unmapped, protected}
use Rattle.vm_model.specs.Machine.State.{State, IsGoodState}
use Rattle.vm_model.specs.Machine.Leaving.{pruned}
use Rattle.region_ops.proofs.CountLaws.{entry_bounds}
use Rattle.region_ops.proofs.DestroyedLaws.{destroyed-in, destroyed-out}
use Rattle.ready_pages.specs.declared.change.Change.{Change}
use Rattle.ready_pages.specs.Changes.{EntryStays, Covers}
use Rattle.ready_pages.proofs.SettledLaws.{settled-bare, unready-in, unready-out}
use Rattle.machine.proofs.StaysLaws.{EntryStays-same, EntryStays-pruned}

-- ---- the changed range of a table

module _ (table : ℕ → ℕ → Option Entry) (root first end : ℕ) (now : ℕ → Option Entry) (r p : ℕ) where
  -- a page of the range has its new entry
  with_pages-at : ((r == root) && is_within first end p) ≡ true → with_pages table root first end now r p ≡ now p
  unfolding with_pages
  with_pages-at on = cond-true _ _ _ on

  -- another page has the entry that it had
  with_pages-off : ((r == root) && is_within first end p) ≡ false → with_pages table root first end now r p ≡ table r p
  unfolding with_pages
  with_pages-off off = cond-false _ _ _ off

-- where no page of the range is ready, nothing is taken
unready-same : (ready : Ready) (root first end : ℕ) → ((r p : ℕ) → ((r == root) && is_within first end p) ≡ true → ready r p ≡ None) → ready ≡ unready ready root first end
unready-same ready root first end none = λ i r p. at r p i where
  at : (r p : ℕ) → ready r p ≡ unready ready root first end r p
  at r p = elim (cases_Bool ((r == root) && is_within first end p)) [
    | inl on ↦ none r p on ∙ sym (unready-in ready root first end r p on)
    | inr off ↦ sym (unready-out ready root first end r p off)
  ]

module _ (old : State) (good : IsGoodState old) where
  -- the address spaces become these, and VMOs that are not live leave
  abbrev after : Spaces → State
  after spaces = pruned (record old { spaces = spaces })

  -- an entry that stands in them stays
  stays_in : (spaces : Spaces) (r p : ℕ) (entry : Entry) → old.spaces.table r p ≡ Some entry → entry.page < pages_of old.content entry.koid.0
      → spaces.table r p ≡ Some entry → EntryStays old.content (after spaces).content spaces.table r p entry
  stays_in spaces r p entry e h is =
      let place = entry_bounds old.content old.spaces good.spaces r p entry e in
      EntryStays-pruned (record old { spaces = spaces }) r p entry good.content place.0 place.1 is h

  -- a mapping
  pub Covers-mapped : (root : RegionName) (first count : ℕ) (entry : Entry) → let spaces = with_mapping old.spaces root.0 first count entry in
      Covers (Change.Mapped root first (first + count)) old.content (after spaces).content old.spaces.table spaces.table
  Covers-mapped root first count entry =
      let spaces = with_mapping old.spaces root.0 first count entry in
      record { stays = λ r p shown e h off. stays_in spaces r p shown e h (with_pages-off old.spaces.table root.0 first (first + count) _ r p off ∙ e); table = tt }

  -- pages of which nothing is shown any more
  pub Covers-unmapped : (name first end : ℕ) → let spaces = unmapped old.spaces name first end in
      Covers (Change.Mapped (region_of old.spaces.regions name).root first end) old.content (after spaces).content old.spaces.table spaces.table
  Covers-unmapped name first end =
      let spaces = unmapped old.spaces name first end in
      let root = (region_of old.spaces.regions name).root.0 in
      record { stays = λ r p shown e h off. stays_in spaces r p shown e h (with_pages-off old.spaces.table root first end _ r p off ∙ e); table = tt }

  pub unready-unmapped : (name first end : ℕ) (ready : Ready) → let spaces = unmapped old.spaces name first end in
      let left = settled old.content (after spaces).content spaces.table ready in left ≡ unready left (region_of old.spaces.regions name).root.0 first end
  unready-unmapped name first end ready =
      let spaces = unmapped old.spaces name first end in
      let root = (region_of old.spaces.regions name).root.0 in
      unready-same _ root first end (λ r p on. settled-bare old.content (after spaces).content spaces.table ready r p (with_pages-at old.spaces.table root first end _ r p on))

  -- a region that is destroyed
  module _ (name : ℕ) (given : old.spaces.regions name ≡ Some (region_of old.spaces.regions name)) (live : (region_of old.spaces.regions name).live ≡ true) where
    abbrev dying : Region
    dying = region_of old.spaces.regions name

    pub Covers-destroyed : let spaces = without_region old.spaces name in
        Covers (Change.Mapped dying.root dying.first (dying.first + dying.count)) old.content (after spaces).content old.spaces.table spaces.table
    Covers-destroyed =
        let spaces = without_region old.spaces name in
        record { stays = λ r p shown e h off. stays_in spaces r p shown e h (destroyed-out old.content old.spaces good.spaces name dying given live r p shown e off); table = tt }

    pub unready-destroyed : (ready : Ready) → let spaces = without_region old.spaces name in
        let left = settled old.content (after spaces).content spaces.table ready in left ≡ unready left dying.root.0 dying.first (dying.first + dying.count)
    unready-destroyed ready =
        let spaces = without_region old.spaces name in
        unready-same _ dying.root.0 dying.first (dying.first + dying.count)
        (λ r p on. settled-bare old.content (after spaces).content spaces.table ready r p (destroyed-in old.content old.spaces good.spaces name dying given live r p on))

  -- other permissions
  pub Covers-protected : (root : RegionName) (first end : ℕ) (perm : Perm) → let spaces = protected old.spaces root.0 first end perm in
      Covers (Change.Mapped root first end) old.content old.content old.spaces.table spaces.table
  Covers-protected root first end perm =
      let spaces = protected old.spaces root.0 first end perm in
      record {
        stays = λ r p shown e h off. EntryStays-same old.content old.content spaces.table r p shown (with_pages-off old.spaces.table root.0 first end _ r p off ∙ e) h refl refl;
        table = tt;
      }
