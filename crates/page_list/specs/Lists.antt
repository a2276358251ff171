-- Page lists as their callers see them: a map from lists and pages to slots.
use Rattle.std.specs.Prelude.{ℕ, Bool, length, Option, is_some}
use Rattle.balanced_tree.specs.Rows.{Rows}
use Rattle.balanced_tree.specs.Pairs.{value_at, second_in}
use Rattle.page_list.specs.declared.row.Row.{Row}
use Rattle.page_list.specs.declared.row.Slot.{Slot}
use Rattle.page_list.specs.Order.{row_functions, list_of, page_of, slot_of}

-- the slot of page p of list l
abbrev pub slots_of : Rows Row → ℕ → ℕ → Option Slot
slots_of t = value_at row_functions slot_of t.rows

-- page p of a list with these slots has a row
abbrev pub has_row : (ℕ → Option Slot) → (p : ℕ) → Bool
has_row slots p = is_some (slots p)

-- how many rows there are
abbrev pub row_count : Rows Row → ℕ
row_count t = length t.rows

-- the page of the row that follows a place in the order, if it is of list l
abbrev pub page_in : ℕ → Option Row → Option ℕ
page_in = second_in list_of page_of
