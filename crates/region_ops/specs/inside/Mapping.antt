-- What a mapping asks for, and what it does to a store, a table of VMOs and entries.
use Rattle.std.specs.Prelude.{◌≡◌, ℕ, ◌+◌, ◌*◌, ◌<◌, ◌≤◌, Bool, false, not, ◌&&◌, ◌||◌, nat_lt, List, [], ◌∷◌, Option, None}
use Rattle.vm_base.specs.Pages.{rounded}
use Rattle.vm_base.specs.declared.limits.TheConstants.{PAGE, VMO_PAGES, NAMES, ROOT_END, PAGES_END}
use Rattle.vm_base.specs.declared.refusal.Refusal.{Refusal}
use Rattle.vm_base.specs.declared.refusal.Refusal.TheVariants.{AccessDenied, InvalidArgs, OutOfRange, BufferTooSmall}
use Rattle.vm_model.specs.declared.names.NameKind.TheVariants.{Slice}
use Rattle.vm_model.specs.declared.names.Target.{Target}
use Rattle.vm_model.specs.declared.space.Entry.{Entry}
use Rattle.vm_model.specs.declared.space.Region.{Region}
use Rattle.vm_model.specs.Contents.Content.{Content}
use Rattle.vm_model.specs.Naming.Names.{is_kind}
use Rattle.vm_model.specs.Space.Rights.{has, writing}
use Rattle.vm_model.specs.Space.Mappings.{is_mismapped}
use Rattle.vm_model.specs.Machine.State.{State}
use Rattle.vm_model.specs.Machine.Leaving.{pruned}
use Rattle.vmo_table.specs.Table.{Vmos, CountsKeepers, IsWellCounted, IsNamed}
use Rattle.mapping_set.specs.declared.piece.Piece.{Piece}
use Rattle.mapping_set.specs.Tables.{with_piece, IsBare}
use Rattle.region_tree.specs.Tree.{spaces_of}
use Rattle.region_ops.specs.Spaces.{with_entries}

-- no page shows anything
abbrev pub no_entries : ℕ → ℕ → Option Entry
no_entries root p = None

-- the refusals of a mapping, without those for names and those for a place that is not free. They do not rest on what
-- is mapped. The name that is mapped has `pages` pages
abbrev pub map_rows : (pages : ℕ) → (ℕ → Option Region) → (name : ℕ) → Region → (overwriting fixed limited faults : Bool) → (offset : ℕ) → Target → (vmo_offset len perm : ℕ) → List (Bool × Refusal)
map_rows pages regions name above overwriting fixed limited faults offset target vmo_offset len perm =
    (not (has above.caps.0 perm) || (has perm writing && not target.may_write), AccessDenied)
    ∷ (is_mismapped (spaces_of regions no_entries) name overwriting fixed limited offset vmo_offset len perm, InvalidArgs)
    ∷ (nat_lt (VMO_PAGES * PAGE) (vmo_offset + rounded len), OutOfRange)
    ∷ (nat_lt (pages * PAGE) (vmo_offset + rounded len) && (not faults || is_kind Slice target.kind), BufferTooSmall)
    ∷ []

-- A piece may be put into an address space: it lies in it, shows a VMO for which a name stands, and has no page with an
-- entry, unless it overwrites those entries.
pub record IsPuttable (names : ℕ → Option Target) (table : ℕ → ℕ → Option Entry) (root : ℕ) (piece : Piece) (overwriting : Bool) : Type 0 where
  pub space : root < NAMES
  pub some : 1 ≤ piece.count
  pub end : piece.first + piece.count ≤ ROOT_END
  pub pages : piece.entry.page + piece.count ≤ PAGES_END
  pub target : Target
  pub named : IsNamed names target
  pub koid : target.koid ≡ piece.entry.koid
  pub bare : overwriting ≡ false → IsBare (table root) piece.first (piece.first + piece.count)

-- A piece was put into an address space. With the entries that it overwrote went the VMOs that nothing keeps any more.
-- The table of VMOs counts right what keeps the others.
pub record Puts (c : Content) (vmos : Vmos) (table : ℕ → ℕ → Option Entry) (root : ℕ) (piece : Piece) (d : Content) (vmos_new : Vmos) (table_new : ℕ → ℕ → Option Entry) : Type 0 where
  pub put : (s : State) → IsWellCounted vmos (with_entries s c vmos table)
      → with_entries s d vmos_new table_new ≡ pruned (with_entries s c vmos (with_piece table root piece))
  pub counted : (s : State) → IsWellCounted vmos (with_entries s c vmos table) → CountsKeepers vmos_new (with_entries s d vmos_new table_new)
