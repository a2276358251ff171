-- What holds of a place in a region.
use Rattle.std.proofs.Common.{◌≡◌, ℕ, ◌+◌, ◌*◌, ◌/◌, ◌≤◌, Bool, true, false, not, ◌&&◌, List, [], ◌∷◌, Option, None, Some, refl, ap, sym, subst, ◌∙◌, arith}
use Rattle.std.specs.Prelude.{nat_le}
use Rattle.std.proofs.lemmas.Bool.{and_from, le-leb}
use Rattle.vm_base.specs.Pages.{rounded}
use Rattle.vm_base.specs.declared.flags.MapFlags.{MapFlags}
use Rattle.vm_base.specs.declared.flags.Perm.{Perm}
use Rattle.vm_base.specs.declared.names.RegionName.{RegionName}
use Rattle.vm_base.specs.declared.refusal.Refusal.{Refusal}
use Rattle.vm_base.specs.declared.refusal.Refusal.TheVariants.{AccessDenied, InvalidArgs, AlreadyExists, NoResources, HostMemory}
use Rattle.vm_base.proofs.SearchLaws.{any_below_at}
use Rattle.vm_model.specs.Machine.Words.{Command}
use Rattle.vm_model.specs.declared.command.Command.TheVariants.{VmarAllocate}
use Rattle.vm_model.specs.Space.Rights.{has, specific, upper_limit}
use Rattle.vm_model.specs.declared.reply.Reply.TheVariants.{Address, Refused}
use Rattle.vm_base.specs.Entries.{with_key}
use Rattle.vm_base.proofs.EntryLaws.{passes-some}
use Rattle.region_tree.specs.Tree.{is_live_region}
use Rattle.vm_model.specs.Machine.State.{State}
use Rattle.vm_model.specs.Machine.Step.{StepAfter, Step}
use Rattle.vm_model.specs.Machine.Refusals.{refusals, first_of}
use Rattle.vm_base.specs.declared.limits.TheConstants.{PAGE, ROOT_END}
use Rattle.vm_model.specs.declared.space.Region.{Region}
use Rattle.vm_model.specs.Space.AddressSpaces.{Spaces}
use Rattle.vm_model.specs.Space.Regions.{end_of, region_of, region_below, reaches_over, meets_child, AreGoodRegions}
use Rattle.vm_model.specs.Space.Table.{has_entry}
use Rattle.region_ops.specs.Spaces.{HasNoPlace}
use Rattle.vm_model.specs.Space.Places.{is_free, has_place, is_misplaced, limit_of, IsPlace}
use Rattle.vm_model.proofs.RegionLaws.{region_of-at, region_bounds, reaches_over_parts}
use Rattle.vm_model.proofs.SpaceLaws.{is_free_parts}
use Rattle.vm_model.proofs.StepLaws.{Step-done, Step-lacks}

-- a live region ends where the address space does or before
pub live_end : (regions : ℕ → Option Region) (name : ℕ) (region : Region) → AreGoodRegions regions → regions name ≡ Some region → is_live_region regions name ≡ true → end_of region ≤ ROOT_END
live_end regions name region good given live =
    (region_bounds regions good name region given (sym (passes-some (λ (r : Region). r.live) (regions name) region given) ∙ live)).0

module _ (spaces : Spaces) (name : ℕ) (above : Region) (given : region_of spaces.regions name ≡ above) where
  -- a place lies in the region, and meets no live child
  pub place_inside : (fixed limited : Bool) (offset count first : ℕ) → IsPlace spaces name fixed limited offset count first
      → (reaches_over first (first + count) above ≡ true) × (meets_child spaces.regions name first (first + count) ≡ false)
  place_inside fixed limited offset count first place =
      let parts = is_free_parts spaces name first (first + count) place.free in
      (ap (reaches_over first (first + count)) (sym given) ∙ parts.1, parts.2)

  -- so it ends where the region does or before
  pub place_end : (fixed limited : Bool) (offset count first : ℕ) → IsPlace spaces name fixed limited offset count first → first + count ≤ end_of above
  place_end fixed limited offset count first place =
      (reaches_over_parts first (first + count) above (place_inside fixed limited offset count first place).0).1

-- where a place ends at most
pub place_bounds : (spaces : Spaces) (name : ℕ) (above : Region) → spaces.regions name ≡ Some above → (fixed limited : Bool) (offset count first : ℕ)
    → IsPlace spaces name fixed limited offset count first → (first + count ≤ end_of above) × (first + count ≤ above.first + limit_of above limited offset)
place_bounds spaces name above given fixed limited offset count first place =
    let here = region_of-at spaces.regions name above given in (
      place_end spaces name above here fixed limited offset count first place,
      subst (λ (r : Region). first + count ≤ r.first + limit_of r limited offset) here place.limit,
    )

-- a free place that ends within the limit is one that there is
pub has_place_at : (spaces : Spaces) (name count limit first : ℕ) → is_free spaces name first (first + count) ≡ true → first + count ≤ (region_of spaces.regions name).first + limit
    → has_place spaces name count limit ≡ true
unfolding has_place
has_place_at spaces name count limit first free ends =
    let parts = is_free_parts spaces name first (first + count) free in
    let inside = reaches_over_parts first (first + count) (region_of spaces.regions name) parts.1 in
    any_below_at (end_of (region_of spaces.regions name)) first
    (λ p. nat_le (p + count) ((region_of spaces.regions name).first + limit) && is_free spaces name p (p + count)) (omega (arith, parts.0, inside.1))
    (and_from (nat_le (first + count) ((region_of spaces.regions name).first + limit)) (is_free spaces name first (first + count))
    (le-leb (first + count) ((region_of spaces.regions name).first + limit) ends) free)

-- what holds of a free place
module _ (spaces : Spaces) (name : ℕ) (above : Region) (given : spaces.regions name ≡ Some above) (first count : ℕ) (free : is_free spaces name first (first + count) ≡ true) where
  here_is : region_of spaces.regions name ≡ above
  here_is = region_of-at spaces.regions name above given

  pub free_some : 1 ≤ count
  free_some = omega (arith, (is_free_parts spaces name first (first + count) free).0)

  pub free_inside : reaches_over first (first + count) (region_of spaces.regions name) ≡ true
  free_inside = (is_free_parts spaces name first (first + count) free).1

  pub free_end : first + count ≤ end_of above
  free_end = (reaches_over_parts first (first + count) above (ap (reaches_over first (first + count)) (sym here_is) ∙ free_inside)).1

  pub free_apart : meets_child spaces.regions name first (first + count) ≡ false
  free_apart = (is_free_parts spaces name first (first + count) free).2

  pub free_clear : has_entry spaces.table above.root.0 name first (first + count) ≡ false
  free_clear = ap (λ (r : Region). has_entry spaces.table r.root.0 name first (first + count)) (sym here_is) ∙ (is_free_parts spaces name first (first + count) free).3

-- ---- what refuses

-- a command that is refused changes nothing
pub Step-refused : (s : State) (command : Command) (refusal : Refusal) → first_of (refusals s command) ≡ Some refusal → Step s command (Refused refusal) s
Step-refused s command refusal e = record { outcome = subst (λ (o : Option Refusal). StepAfter o s command (Refused refusal) s) (sym e) (record { answer = refl; same = refl }) }

-- a row whose condition does not hold is passed over
passed : (a : Bool) (r : Refusal) (rest : List (Bool × Refusal)) → a ≡ false → first_of ((a, r) ∷ rest) ≡ first_of rest
passed a r rest e = ap (λ (b : Bool). first_of ((b, r) ∷ rest)) e

-- the refusals of a place of `count` pages. One that overwrites what is there needs no free place
abbrev pub place_rows : Spaces → (name : ℕ) → Region → (overwriting fixed limited : Bool) → (offset count : ℕ) → List (Bool × Refusal)
place_rows spaces name above overwriting fixed limited offset count =
    (fixed && not (is_free spaces name (above.first + offset / PAGE) (above.first + offset / PAGE + count)), AlreadyExists)
    ∷ (not fixed && (not overwriting && not (has_place spaces name count (limit_of above limited offset))), NoResources)
    ∷ []

module _ (spaces : Spaces) (name : ℕ) (above : Region) (given : spaces.regions name ≡ Some above) (overwriting fixed limited : Bool) (offset count : ℕ) where
  -- none refuses where there is a free place
  pub placed_rows : (first : ℕ) → IsPlace spaces name fixed limited offset count first → first_of (place_rows spaces name above overwriting fixed limited offset count) ≡ None
  placed_rows first place =
      let here = region_of-at spaces.regions name above given in
      let at : fixed ≡ true → is_free spaces name (above.first + offset / PAGE) (above.first + offset / PAGE + count) ≡ true = λ e.
      ap (λ (p : ℕ). is_free spaces name p (p + count)) (sym (place.at e ∙ ap (λ (r : Region). r.first + offset / PAGE) here)) ∙ place.free in
      let some : has_place spaces name count (limit_of above limited offset) ≡ true =
      ap (λ (r : Region). has_place spaces name count (limit_of r limited offset)) (sym here)
      ∙ has_place_at spaces name count (limit_of (region_of spaces.regions name) limited offset) first place.free place.limit in
      grind (arith, at, some)

  -- and one does where there is none
  pub unplaced_rows : (refusal : Refusal) → overwriting ≡ false → HasNoPlace spaces name fixed limited offset count refusal → first_of (place_rows spaces name above overwriting fixed limited offset count) ≡ Some refusal
  unplaced_rows refusal new none = go fixed refl where
    here : region_of spaces.regions name ≡ above
    here = region_of-at spaces.regions name above given

    go : (b : Bool) → fixed ≡ b → first_of (place_rows spaces name above overwriting fixed limited offset count) ≡ Some refusal
    go true is =
        let taken = none.taken is in
        let off : is_free spaces name (above.first + offset / PAGE) (above.first + offset / PAGE + count) ≡ false =
        ap (λ (r : Region). is_free spaces name (r.first + offset / PAGE) (r.first + offset / PAGE + count)) (sym here) ∙ taken.1 in
        grind (arith, is, off, taken.0)
    go false is =
        let full = none.full is in
        let off : has_place spaces name count (limit_of above limited offset) ≡ false =
        ap (λ (r : Region). has_place spaces name count (limit_of r limited offset)) (sym here) ∙ full.1 in
        grind (arith, is, new, off, full.0)

-- ---- the step of an allocation

module _ (s : State) (region parent : RegionName) (offset len : ℕ) (flags : MapFlags) (caps : Perm) (above : Region)
    (given : s.spaces.regions parent.0 ≡ Some above) (free : s.spaces.regions region.0 ≡ None) (live : above.live ≡ true) where
  abbrev pub command : Command
  command = VmarAllocate region parent offset len flags caps

  here : region_of s.spaces.regions parent.0 ≡ above
  here = region_of-at s.spaces.regions parent.0 above given

  abbrev pub fixed : Bool
  fixed = has flags.0 specific

  abbrev pub limited : Bool
  limited = has flags.0 upper_limit

  -- the first that refuses is one of the rows behind the names
  rows_left : first_of (refusals s command) ≡ first_of (
      (not (has above.caps.0 caps.0), AccessDenied)
      ∷ (is_misplaced above fixed limited offset len, InvalidArgs)
      ∷ place_rows s.spaces parent.0 above false fixed limited offset (rounded len / PAGE))
  rows_left = grind (arith, here, given, free, live)

  module _ (allowed : has above.caps.0 caps.0 ≡ true) (right : is_misplaced above fixed limited offset len ≡ false) where
    by_place : first_of (refusals s command) ≡ first_of (place_rows s.spaces parent.0 above false fixed limited offset (rounded len / PAGE))
    by_place =
        let places = place_rows s.spaces parent.0 above false fixed limited offset (rounded len / PAGE) in
        rows_left ∙ (passed (not (has above.caps.0 caps.0)) AccessDenied ((is_misplaced above fixed limited offset len, InvalidArgs) ∷ places) (ap not allowed)
        ∙ passed (is_misplaced above fixed limited offset len) InvalidArgs places right)

    -- a place is there, or none
    pub allocate_fits : (first : ℕ) → IsPlace s.spaces parent.0 fixed limited offset (rounded len / PAGE) first → first_of (refusals s command) ≡ None
    allocate_fits first place = by_place ∙ placed_rows s.spaces parent.0 above given false fixed limited offset (rounded len / PAGE) first place

    pub allocate_full : (refusal : Refusal) → HasNoPlace s.spaces parent.0 fixed limited offset (rounded len / PAGE) refusal → first_of (refusals s command) ≡ Some refusal
    allocate_full refusal none = by_place ∙ unplaced_rows s.spaces parent.0 above given false fixed limited offset (rounded len / PAGE) refusal refl none

-- it is done at a place, if nothing refuses it
pub allocate_done : (s : State) (region parent : RegionName) (offset len : ℕ) (flags : MapFlags) (caps : Perm) → first_of (refusals s (VmarAllocate region parent offset len flags caps)) ≡ None
    → (first : ℕ) → IsPlace s.spaces parent.0 (has flags.0 specific) (has flags.0 upper_limit) offset (rounded len / PAGE) first
    → (new : ℕ → Option Region) → new ≡ with_key s.spaces.regions region.0 (region_below parent.0 (region_of s.spaces.regions parent.0) first (rounded len / PAGE) caps.0)
    → Step s (VmarAllocate region parent offset len flags caps) (Address (first * PAGE)) (record s { spaces = record s.spaces { regions = new } })
allocate_done s region parent offset len flags caps none first place new e =
    Step-done s (VmarAllocate region parent offset len flags caps) (Address (first * PAGE)) (record s { spaces = record s.spaces { regions = new } }) none
    (first, refl, place, λ i. record s { spaces = record s.spaces { regions = e i } })

-- or the host lacks memory for it
pub allocate_lacks : (s : State) (region parent : RegionName) (offset len : ℕ) (flags : MapFlags) (caps : Perm) → first_of (refusals s (VmarAllocate region parent offset len flags caps)) ≡ None
    → (new : ℕ → Option Region) → new ≡ s.spaces.regions
    → Step s (VmarAllocate region parent offset len flags caps) (Refused HostMemory) (record s { spaces = record s.spaces { regions = new } })
allocate_lacks s region parent offset len flags caps none new e =
    subst (λ (regions : ℕ → Option Region). Step s (VmarAllocate region parent offset len flags caps) (Refused HostMemory) (record s { spaces = record s.spaces { regions = regions } })) (sym e)
    (Step-lacks s (VmarAllocate region parent offset len flags caps) none refl)
