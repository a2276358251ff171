-- The children of each VMO as rows of a tree, by parent and then by child.
use Rattle.std.specs.Prelude.{◌≡◌, ℕ, Bool, false, ◌&&◌, ◌==◌, if◌then◌else◌, Option, None, is_some}
use Rattle.std.specs.Option.{option_map}
use Rattle.balanced_tree.specs.Row.{Functions, link_of, height_over}
use Rattle.balanced_tree.specs.Rows.{Rows}
use Rattle.balanced_tree.specs.Pairs.{pair_rank, value_at}
use Rattle.vm_base.specs.Entries.{passes}
use Rattle.vm_base.specs.declared.names.Koid.{Koid}
use Rattle.vm_model.specs.Naming.Names.{Lineage, is_parent, has_parent}
use Rattle.vmo_table.specs.declared.child_rows.ChildRow.{ChildRow}
use Rattle.vmo_table.specs.declared.vmos.Vmo.{Vmo}
use Rattle.vmo_table.specs.Vmos.{koid_number, lineages}

abbrev pub child_row_functions : Functions ChildRow
child_row_functions = record {
  rank = λ x. pair_rank x.parent.0 x.child.0;
  left = λ x. x.left;
  right = λ x. x.right;
  height = λ x. x.height;
  linked = λ x l r. record x { left = link_of l; right = link_of r; height = height_over (λ y. y.height) l r };
}

-- the row of the child v of p with no links
abbrev pub child_row_of : ℕ → ℕ → ChildRow
child_row_of p v =
    record { parent = record { 0 = p }; child = record { 0 = v }; left = None; right = None; height = 0 }

abbrev pub parent_in_row : ChildRow → ℕ
parent_in_row row = row.parent.0

abbrev pub child_in : ChildRow → ℕ
child_in row = row.child.0

-- v has a row under p
unfoldable pub is_under : Rows ChildRow → ℕ → ℕ → Bool
is_under t p v = is_some (value_at child_row_functions child_in t.rows p v)

-- whether v has a row under this parent is said anew; all other rows stay
abbrev pub IsChange : Rows ChildRow → Rows ChildRow → Option ℕ → ℕ → Bool → Type 0
IsChange old new parent v b =
    (q w : ℕ) → is_under new q w ≡ (if is_parent q parent && (w == v) then b else is_under old q w)

-- a VMO has a row under its parent, and under no other
pub record AreChildren (t : Rows ChildRow) (lineage : ℕ → Option Lineage) : Type 0 where
  pub is : (p v : ℕ) → is_under t p v ≡ passes (has_parent p) (lineage v)

-- the VMO k with this parent may leave: the rows are those of the VMOs, and it is not its own parent
pub record MayLeave (vmos : ℕ → Option Vmo) (t : Rows ChildRow) (k : ℕ) (parent : Option Koid) : Type 0 where
  pub rows : AreChildren t (lineages vmos)
  pub own : (p : ℕ) → is_under t p k ≡ is_parent p (option_map koid_number parent)
  pub apart : is_parent k (option_map koid_number parent) ≡ false
