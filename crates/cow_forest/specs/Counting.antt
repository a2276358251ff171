-- How many rows of a table have a frame.
use Rattle.std.specs.Prelude.{ℕ, filter, length, is_some}
use Rattle.balanced_tree.specs.Rows.{Rows}
use Rattle.page_list.specs.declared.row.Row.{Row}
use Rattle.cow_arena.specs.Walk.{frame_in}

-- how many rows have a frame
unfoldable pub frame_row_count : Rows Row → ℕ
frame_row_count t = length (filter (λ (row : Row). is_some (frame_in row.slot)) t.rows)
