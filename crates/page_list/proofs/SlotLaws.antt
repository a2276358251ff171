-- The rows of page lists are pairs of a list and a page, with a slot.
use Rattle.std.proofs.Common.{◌≡◌, ℕ, ◌<◌, ◌^◌, None, IsSome, refl, sym, ap, subst}
use Rattle.std.specs.Option.{IsNone}
use Rattle.balanced_tree.specs.Rows.{Rows, row_at}
use Rattle.balanced_tree.specs.Pairs.{ArePairs}
use Rattle.balanced_tree.proofs.PairLaws.{row-absent, row-there}
use Rattle.page_list.specs.declared.row.Row.{Row}
use Rattle.page_list.specs.declared.row.Slot.{Slot}
use Rattle.page_list.specs.Order.{row_functions, list_of, page_of, slot_of, row_of}
use Rattle.page_list.specs.Lists.{slots_of}

pub row_pairs : ArePairs row_functions list_of page_of slot_of
row_pairs = record { rank_is = λ x. refl; rank_kept = λ x. refl; value_kept = λ x. refl }

-- the rows of a table as they were inside, and as they were seen
pub seen_rows : {was old : Rows Row} → was ≡ old → was.rows ≡ old.rows
seen_rows seen = ap (λ (t : Rows Row). t.rows) seen

-- a row that comes to a page with no slot has a rank that no row has, and one that comes to a page with a slot has that of its row
module _ (was old : Rows Row) (seen : was ≡ old) (l p : ℕ) (few : p < 2 ^ 64) (slot : Slot) (row : Row) (is : row ≡ row_of l p slot) where
  pub no-row : slots_of old l p ≡ None → IsNone (row_at row_functions (row_functions.rank row) was.rows)
  no-row none =
      subst IsNone (sym (row-absent row_pairs was.rows old.rows (seen_rows seen) l p _ few (ap row_functions.rank is) none)) refl

  pub some-row : IsSome (slots_of old l p) → IsSome (row_at row_functions (row_functions.rank row) was.rows)
  some-row some = row-there row_pairs was.rows old.rows (seen_rows seen) l p _ few (ap row_functions.rank is) some
