-- The order of the rows, by list and then by page, and what the tree knows of a row.
use Rattle.std.specs.Prelude.{ℕ, None}
use Rattle.balanced_tree.specs.Pairs.{pair_rank}
use Rattle.balanced_tree.specs.Row.{Functions, link_of, height_over}
use Rattle.page_list.specs.declared.row.Row.{Row}
use Rattle.page_list.specs.declared.row.Slot.{Slot}

abbrev pub row_functions : Functions Row
row_functions = record {
  rank = λ x. pair_rank x.list.0 x.page;
  left = λ x. x.left;
  right = λ x. x.right;
  height = λ x. x.height;
  linked = λ x l r. record x { left = link_of l; right = link_of r; height = height_over (λ y. y.height) l r };
}

abbrev pub list_of : Row → ℕ
list_of row = row.list.0

abbrev pub page_of : Row → ℕ
page_of row = row.page

abbrev pub slot_of : Row → Slot
slot_of row = row.slot

-- the row of page p of list l with no children
abbrev pub row_of : ℕ → ℕ → Slot → Row
row_of l p slot = record { list = record { 0 = l }; page = p; slot = slot; left = None; right = None; height = 0 }
