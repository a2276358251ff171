-- The step of a mapping: why it is refused, what its place is, and what it does.
use Rattle.std.proofs.Common.{◌≡◌, ℕ, ◌+◌, ◌*◌, ◌/◌, ◌≤◌, Bool, true, false, not, ◌&&◌, ◌||◌, List, [], ◌∷◌, ◌++◌, Option, None, Some, refl, sym, ap, ◌∙◌, arith}
use Rattle.std.specs.Prelude.{nat_lt}
use Rattle.std.specs.Option.{option_or}
use Rattle.std.proofs.lemmas.Bool.{ltb-false, both_ways, and_from}
use Rattle.vm_base.specs.Pages.{rounded}
use Rattle.vm_base.specs.declared.flags.MapFlags.{MapFlags}
use Rattle.vm_base.specs.declared.flags.Perm.{Perm}
use Rattle.vm_base.specs.declared.limits.TheConstants.{PAGE, VMO_PAGES}
use Rattle.vm_base.specs.declared.names.RegionName.{RegionName}
use Rattle.vm_base.specs.declared.names.VmoName.{VmoName}
use Rattle.vm_base.specs.declared.refusal.Refusal.{Refusal}
use Rattle.vm_base.specs.declared.refusal.Refusal.TheVariants.{AccessDenied, InvalidArgs, OutOfRange, BufferTooSmall, HostMemory}
use Rattle.vm_model.specs.Machine.Words.{Command}
use Rattle.vm_model.specs.declared.command.Command.TheVariants.{VmarMap}
use Rattle.vm_model.specs.declared.names.NameKind.TheVariants.{Slice}
use Rattle.vm_model.specs.declared.names.Target.{Target}
use Rattle.vm_model.specs.Naming.Names.{is_kind}
use Rattle.vm_model.specs.declared.reply.Reply.TheVariants.{Address, Refused}
use Rattle.vm_model.specs.declared.space.Entry.{Entry}
use Rattle.vm_model.specs.declared.space.Region.{Region}
use Rattle.vm_model.specs.Space.Rights.{has, writing, specific, overwrite, upper_limit, allow_faults}
use Rattle.vm_model.specs.Space.Regions.{region_of, reaches_over, meets_child}
use Rattle.vm_model.specs.Space.Mappings.{is_mismapped, entry_of, with_mapping, IsMapPlace}
use Rattle.vm_model.specs.Machine.State.{State, name_pages, target_of, IsGoodState}
use Rattle.vm_model.specs.Machine.Leaving.{pruned}
use Rattle.vm_model.specs.Machine.Refusals.{refusals, first_of}
use Rattle.vm_model.specs.Machine.Step.{Step}
use Rattle.vm_model.proofs.MappingLaws.{IsMappedRightly, mismapped_parts, misplaced_parts, map_place}
use Rattle.vm_model.proofs.NamesLaws.{target_of-at}
use Rattle.vm_model.proofs.RegionLaws.{region_of-at, region_bounds, reaches_over_parts}
use Rattle.vm_model.proofs.StepLaws.{AllOff-from_none, Step-done, Step-lacks}
use Rattle.page_store.proofs.NameLaws.{IsInside-good, name_few}
use Rattle.region_tree.specs.Tree.{spaces_of}
use Rattle.vmo_table.specs.Table.{Vmos, names_of}
use Rattle.vm_model.specs.Contents.Content.{Content}
use Rattle.vm_model.specs.Space.AddressSpaces.{Spaces}
use Rattle.region_ops.specs.Spaces.{with_all, Does, HasNoPlace}
use Rattle.region_ops.specs.inside.Mapping.{map_rows, no_entries, IsPuttable, Puts}
use Rattle.region_ops.proofs.HolderLaws.{free_bare}
use Rattle.region_ops.proofs.PlaceLaws.{place_rows, placed_rows, unplaced_rows}

-- the first of these refusals, or else the first of those behind
first_append : (rows rest : List (Bool × Refusal)) → first_of (rows ++ rest) ≡ option_or (first_of rows) (first_of rest)
first_append [] rest = refl
first_append ((true, refusal) ∷ rows) rest = refl
first_append ((false, refusal) ∷ rows) rest = first_append rows rest

module _ (s : State) (region : RegionName) (offset : ℕ) (name : VmoName) (vmo_offset len : ℕ) (perm : Perm) (flags : MapFlags) (above : Region) (t : Target)
    (given : s.spaces.regions region.0 ≡ Some above) (live : above.live ≡ true) (named : s.names name.0 ≡ Some t) where
  abbrev pub command : Command
  command = VmarMap region offset name vmo_offset len perm flags

  here : region_of s.spaces.regions region.0 ≡ above
  here = region_of-at s.spaces.regions region.0 above given

  target : target_of s name.0 ≡ t
  target = target_of-at s name.0 t named

  abbrev over : Bool
  over = has flags.0 overwrite

  abbrev fixed : Bool
  fixed = has flags.0 specific

  abbrev limited : Bool
  limited = has flags.0 upper_limit

  abbrev count : ℕ
  count = rounded len / PAGE

  -- what refuses it before a place is looked for
  abbrev denied : Bool
  denied = not (has above.caps.0 perm.0) || (has perm.0 writing && not t.may_write)

  abbrev wrong : Bool
  wrong = is_mismapped (spaces_of s.spaces.regions no_entries) region.0 over fixed limited offset vmo_offset len perm.0

  abbrev past : Bool
  past = nat_lt (VMO_PAGES * PAGE) (vmo_offset + rounded len)

  abbrev short : Bool
  short = nat_lt (name_pages s.content t * PAGE) (vmo_offset + rounded len) && (not (has flags.0 allow_faults) || is_kind Slice t.kind)

  abbrev rows : List (Bool × Refusal)
  rows = map_rows (name_pages s.content t) s.spaces.regions region.0 above over fixed limited (has flags.0 allow_faults) offset t vmo_offset len perm.0

  -- and the refusals of a place that is not free
  abbrev places : List (Bool × Refusal)
  places = place_rows s.spaces region.0 above over fixed limited offset count

  rows_left : first_of (refusals s command) ≡ first_of ((denied, AccessDenied) ∷ (wrong, InvalidArgs) ∷ (past, OutOfRange) ∷ (short, BufferTooSmall) ∷ places)
  rows_left = grind (arith, here, target, given, live, named)

  -- what refuses the mapping before a place is looked for refuses it
  pub rows_refuse : (refusal : Refusal) → first_of rows ≡ Some refusal → first_of (refusals s command) ≡ Some refusal
  rows_refuse refusal e = rows_left ∙ rw e at (first_append rows places)

  -- where nothing does, the place decides
  by_place : first_of rows ≡ None → first_of (refusals s command) ≡ first_of places
  by_place e = rows_left ∙ rw e at (first_append rows places)

  -- there is no place for it
  pub place_refuses : (refusal : Refusal) → first_of rows ≡ None → over ≡ false → HasNoPlace s.spaces region.0 fixed limited offset count refusal → first_of (refusals s command) ≡ Some refusal
  place_refuses refusal e new none = by_place e ∙ unplaced_rows s.spaces region.0 above given over fixed limited offset count refusal new none

  right_by : first_of rows ≡ None → IsMappedRightly s.spaces region.0 over fixed limited offset vmo_offset len perm.0
  right_by none = mismapped_parts s.spaces region.0 over fixed limited offset vmo_offset len perm.0 (AllOff-from_none rows none).1.0

  -- nothing refuses the mapping where it has a place
  pub none_refuses : (first : ℕ) → first_of rows ≡ None → IsMapPlace s.spaces region.0 over fixed limited offset count first → first_of (refusals s command) ≡ None
  none_refuses first none place = by_place none ∙ go over fixed refl refl where
    go : (o f : Bool) → over ≡ o → fixed ≡ f → first_of places ≡ None
    go true true is also = absurd (both_ways (fixed && over) (right_by none).one_way (and_from fixed over also is))
    go true false is also = grind (arith, is, also)
    go false f is also = placed_rows s.spaces region.0 above given over fixed limited offset count first (place.free is)

  module _ (first : ℕ) (none : first_of (refusals s command) ≡ None) (place : IsMapPlace s.spaces region.0 over fixed limited offset count first) where
    rows_none : first_of rows ≡ None
    rows_none = go (first_of rows) refl where
      go : (o : Option Refusal) → first_of rows ≡ o → first_of rows ≡ None
      go None e = e
      go (Some refusal) e = let refused : Some refusal ≡ None = sym (rows_refuse refusal e) ∙ none in absurd cc

    right : IsMappedRightly s.spaces region.0 over fixed limited offset vmo_offset len perm.0
    right = right_by rows_none

    -- it meets no live child
    pub placed_apart : meets_child s.spaces.regions region.0 first (first + count) ≡ false
    placed_apart = (map_place s.spaces region.0 over fixed limited offset vmo_offset len perm.0 first right place).1

    -- the host may lack memory for it
    pub lacks_step : Step s command (Refused HostMemory) s
    lacks_step = Step-lacks s command none refl

    -- or it is done
    pub done_step : (new : State) → new ≡ pruned (record s { spaces = with_mapping s.spaces above.root.0 first count (entry_of above region.0 t (vmo_offset / PAGE) perm) })
        → Step s command (Address (first * PAGE)) new
    done_step new e =
        Step-done s command (Address (first * PAGE)) new none (
          first,
          refl,
          place,
          e ∙ ap (λ (entry : Entry). pruned (record s { spaces = with_mapping s.spaces above.root.0 first count entry }))
              (ap (λ (x : Target). entry_of above region.0 x (vmo_offset / PAGE) perm) (sym target))
              ∙ ap (λ (r : Region). pruned (record s { spaces = with_mapping s.spaces r.root.0 first count (entry_of r region.0 (target_of s name.0) (vmo_offset / PAGE) perm) })) (sym here),
        )

    -- its pages have a place in the address space, and so have those that they show in page numbers
    pub puttable : IsGoodState s → IsPuttable s.names s.spaces.table above.root.0 (record { first = first; count = count; entry = entry_of above region.0 t (vmo_offset / PAGE) perm }) over
    puttable good =
        let bounds = region_bounds s.spaces.regions good.spaces.regions region.0 above given live in
        let inside = map_place s.spaces region.0 over fixed limited offset vmo_offset len perm.0 first right place in
        let reach = reaches_over_parts first (first + count) above (ap (reaches_over first (first + count)) (sym here) ∙ inside.0) in
        let placed = misplaced_parts (region_of s.spaces.regions region.0) (fixed || over) limited offset len right.placed in
        let few = name_few s.content t good.content (IsInside-good s name.0 t good named) in
        let near : vmo_offset + rounded len ≤ VMO_PAGES * PAGE = ltb-false (VMO_PAGES * PAGE) (vmo_offset + rounded len) (AllOff-from_none rows rows_none).1.1.0 in
        record {
          space = bounds.1;
          some = omega (arith, placed.some);
          end = omega (arith, reach.1, bounds.0);
          pages = omega (arith, few, near);
          target = t;
          named = (name.0, named);
          koid = refl;
          bare = λ new p low high. free_bare s.content s.spaces region.0 above first (first + count) p good.spaces given live (place.free new).free low high;
        }

-- so what was put there does it, whatever else the state has
pub map_does : (c : Content) (vmos : Vmos) (spaces : Spaces) (region : RegionName) (offset : ℕ) (name : VmoName) (vmo_offset len : ℕ) (perm : Perm) (flags : MapFlags) (above : Region) (t : Target)
    → spaces.regions region.0 ≡ Some above → above.live ≡ true → names_of vmos name.0 ≡ Some t → (first : ℕ)
    → ((s : State) → first_of (refusals (with_all s c vmos spaces) (VmarMap region offset name vmo_offset len perm flags)) ≡ None)
    → IsMapPlace spaces region.0 (has flags.0 overwrite) (has flags.0 specific) (has flags.0 upper_limit) offset (rounded len / PAGE) first
    → (d : Content) (vmos_new : Vmos) (table_new : ℕ → ℕ → Option Entry)
    → Puts c vmos spaces.table above.root.0 (record { first = first; count = rounded len / PAGE; entry = entry_of above region.0 t (vmo_offset / PAGE) perm }) d vmos_new table_new
    → Does c vmos spaces (VmarMap region offset name vmo_offset len perm flags) (Address (first * PAGE)) d vmos_new (record spaces { table = table_new })
map_does c vmos spaces region offset name vmo_offset len perm flags above t given live named first none place d vmos_new table_new puts = record {
  step = λ s well.
      done_step (with_all s c vmos spaces) region offset name vmo_offset len perm flags above t given live named first (none s) place
      (with_all s d vmos_new (record spaces { table = table_new })) (puts.put (with_all s c vmos spaces) well);
  counted = λ s well. puts.counted (with_all s c vmos spaces) well;
}
