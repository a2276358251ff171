-- Mappings of VMOs in regions: how they are asked for, what they do to the table, and how they are listed. From the
-- kernel's zx_vmar_map, zx_vmar_unmap and zx_vmar_protect.
use Rattle.std.specs.Prelude.{◌≡◌, ℕ, zero, suc, ◌+◌, ◌-◌, ◌*◌, ◌/◌, ◌%◌, Bool, true, false, not, ◌&&◌, ◌||◌, ◌==◌, List, [], ◌∷◌, if◌then◌else◌, Option, None, Some, is_some}
use Rattle.vm_base.specs.Search.{any_from}
use Rattle.vm_base.specs.Pages.{rounded}
use Rattle.vm_base.specs.Entries.{passes}
use Rattle.vm_base.specs.declared.limits.TheConstants.{PAGE}
use Rattle.vm_base.specs.declared.flags.Perm.{Perm}
use Rattle.vm_model.specs.declared.names.Target.{Target}
use Rattle.vm_model.specs.declared.space.Entry.{Entry}
use Rattle.vm_model.specs.declared.space.Region.{Region}
use Rattle.vm_model.specs.declared.runs.Run.{Run}
use Rattle.vm_model.specs.Space.Rights.{has, reading, writing, executing}
use Rattle.vm_model.specs.Space.Regions.{region_of, reaches_over, lies_in, meets_child, is_below, killed}
use Rattle.vm_model.specs.Space.Table.{mapping_from, with_pages, with_perm, is_in}
use Rattle.vm_model.specs.Space.AddressSpaces.{Spaces}
use Rattle.vm_model.specs.Space.Places.{is_misplaced, IsPlace}

-- writing or executing is asked for without reading
abbrev pub lacks_reading : ℕ → Bool
lacks_reading perm = (has perm writing || has perm executing) && not (has perm reading)

-- what the permissions of a mapping's entries may be changed to: what the region allows, without writing if the VMO's
-- name may not write
abbrev pub cap_of : Region → Target → ℕ
cap_of region target = if target.may_write || not (has region.caps.0 writing) then region.caps.0 else region.caps.0 - writing

-- the entry of the first page of a mapping in the region of this name. It shows what the VMO's name stands for, from
-- the page `start` of that name on
abbrev pub entry_of : Region → ℕ → Target → ℕ → Perm → Entry
entry_of region name target start perm = record {
  koid = target.koid;
  page = target.first + start;
  perm = perm;
  cap = record { 0 = cap_of region target };
  region = record { 0 = name };
}

-- the spaces with a mapping of `count` pages. Its first page is the page `first` of an address space, with this entry
abbrev pub with_mapping : Spaces → (root first count : ℕ) → Entry → Spaces
with_mapping spaces root first count entry =
    record spaces { table = with_pages spaces.table root first (first + count) (mapping_from first entry) }

-- A mapping of `count` pages may begin at the page `first` in the region of this name. If it overwrites what is there,
-- `first` is at the offset, in bytes. Otherwise it begins a free place.
pub record IsMapPlace (spaces : Spaces) (name : ℕ) (overwriting fixed limited : Bool) (offset count first : ℕ) : Type 0 where
  pub over : overwriting ≡ true → first ≡ (region_of spaces.regions name).first + offset / PAGE
  pub free : overwriting ≡ false → IsPlace spaces name fixed limited offset count first

-- A mapping is asked for wrongly: no place can be where it is asked for, it is asked for at two places, from within a
-- page of the VMO, over a live child of the region, or for writing or executing without reading.
abbrev pub is_mismapped : Spaces → (name : ℕ) → (overwriting fixed limited : Bool) → (offset vmo_offset len perm : ℕ) → Bool
is_mismapped spaces name overwriting fixed limited offset vmo_offset len perm =
    let region = region_of spaces.regions name in
    let first = region.first + offset / PAGE in
    is_misplaced region (fixed || overwriting) limited offset len || (not (vmo_offset % PAGE == 0) || ((fixed && overwriting)
    || ((overwriting && meets_child spaces.regions name first (first + rounded len / PAGE)) || lacks_reading perm)))

-- A range of an address space, in bytes, is no range of the region: it does not begin at a page, has no byte, or passes
-- an end of the region.
abbrev pub is_outside : Region → (addr len count : ℕ) → Bool
is_outside region addr len count =
    not (addr % PAGE == 0) || (len == 0 || not (reaches_over (addr / PAGE) (addr / PAGE + count) region))

-- a region below the one of this name has no page but those from `first` to below `end`
abbrev pub lies_below_in : (ℕ → Option Region) → (name first end : ℕ) → ℕ → Bool
lies_below_in regions name first end n = is_below regions name n && lies_in first end (region_of regions n)

-- the spaces with nothing mapped on the pages from `first` to below `end` of the region's address space. The regions
-- below it that have no other pages are dead
abbrev pub unmapped : Spaces → (name first end : ℕ) → Spaces
unmapped spaces name first end = record {
  regions = killed spaces.regions (lies_below_in spaces.regions name first end);
  table = with_pages spaces.table (region_of spaces.regions name).root.0 first end (λ p. None);
}

-- the entries of the pages from `first` to below `end` of an address space have these permissions
abbrev pub protected : Spaces → (root first end : ℕ) → Perm → Spaces
protected spaces root first end perm =
    record spaces { table = with_pages spaces.table root first end (with_perm perm (spaces.table root)) }

-- some page of the range has an entry
unfoldable pub is_mapped_in : (ℕ → Option Entry) → ℕ → ℕ → Bool
is_mapped_in entries first end = any_from first end (λ p. is_some (entries p))

-- some page of the range has no entry that belongs to the region
unfoldable pub has_hole : (ℕ → Option Entry) → (region first end : ℕ) → Bool
has_hole entries region first end = any_from first end (λ p. not (passes (is_in region) (entries p)))

-- the entry of some page of the range may not be changed to these permissions
unfoldable pub forbids : (ℕ → Option Entry) → (perm first end : ℕ) → Bool
forbids entries perm first end = any_from first end (λ p. passes (λ (entry : Entry). not (has entry.cap.0 perm)) (entries p))

-- the run of one page, which has this entry
abbrev pub page_run : ℕ → Entry → Run
page_run p entry = record {
  addr = p * PAGE;
  len = PAGE;
  perm = entry.perm;
  koid = entry.koid;
  offset = entry.page * PAGE;
  region = entry.region;
}

-- the run y goes on where x ends, in the address space and in the VMO, and is like it in all else
abbrev pub goes_on : Run → Run → Bool
goes_on x y = (x.addr + x.len == y.addr) && (x.offset + x.len == y.offset) && (x.koid.0 == y.koid.0) && (x.perm.0 == y.perm.0)
    && (x.region.0 == y.region.0)

-- a run before other runs, joined to the first of them if that goes on where it ends
abbrev pub run_before : Run → List Run → List Run
run_before x [] = x ∷ []
run_before x (y ∷ runs) = if goes_on x y then record x { len = x.len + y.len } ∷ runs else x ∷ y ∷ runs

-- an entry of the page p, if there is one, before runs
abbrev pub entry_before : ℕ → Option Entry → List Run → List Run
entry_before p None runs = runs
entry_before p (Some entry) runs = run_before (page_run p entry) runs

-- the longest runs of the entries of `count` pages from the page p on, in the order of their pages
unfoldable pub runs_of : (ℕ → Option Entry) → (count p : ℕ) → List Run
runs_of entries zero p = []
runs_of entries (suc count) p = entry_before p (entries p) (runs_of entries count (p + 1))
