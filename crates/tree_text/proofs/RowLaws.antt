-- Laws of the text of rows.
use Rattle.std.proofs.Common.{◌≡◌, ℕ, zero, suc, ◌+◌, ◌-◌, ◌^◌, ◌<◌, ◌≤◌, [], ◌++◌, Option, None, Some, refl, ap, ◌∙◌, arith}
use Rattle.balanced_tree.specs.Pairs.{IsNext}
use Rattle.page_list.specs.declared.row.Slot.{Slot}
use Rattle.tree_text.specs.Text.{row_text, text_of_row, rows_text}

module _ (rows : ℕ → Option Slot) where
  rows-over : (n p : ℕ) → n ≡ 0 → rows_text rows n p ≡ []
  unfolding rows_text
  rows-over zero p none = refl
  rows-over (suc n) p none = absurd (omega arith)

  rows-none : (n from : ℕ) → ((p : ℕ) → from ≤ p → rows p ≡ None) → rows_text rows n from ≡ []
  unfolding rows_text
  rows-none zero from none = refl
  rows-none (suc n) from none =
      ap (λ o. text_of_row from o ++ rows_text rows n (suc from)) (none from (omega arith))
      ∙ rows-none n (suc from) (λ p above. none p (omega arith))

  rows-skip : (d m n from to : ℕ) → m ≡ d + n → to ≡ from + d → ((p : ℕ) → from ≤ p → p < to → rows p ≡ None) →
      rows_text rows m from ≡ rows_text rows n to
  unfolding rows_text
  rows-skip zero m n from to count end none =
      let one : m ≡ n = omega arith in
      let same : from ≡ to = omega arith in
      ap (λ k. rows_text rows k from) one ∙ ap (rows_text rows n) same
  rows-skip (suc d) zero n from to count end none = absurd (omega arith)
  rows-skip (suc d) (suc m) n from to count end none =
      ap (λ o. text_of_row from o ++ rows_text rows m (suc from)) (none from (omega arith) (omega arith))
      ∙ rows-skip d m n (suc from) to (omega arith) (omega arith) (λ p above below. none p (omega arith) below)

  rows-one : (m n p q : ℕ) (slot : Slot) → m ≡ n + 1 → q ≡ p + 1 → rows p ≡ Some slot → rows_text rows m p ≡ row_text p slot ++ rows_text rows n q
  unfolding rows_text
  rows-one zero n p q slot count next is = absurd (omega arith)
  rows-one (suc m) n p q slot count next is =
      let one : m ≡ n = omega arith in
      let same : suc p ≡ q = omega arith in
      ap (λ o. text_of_row p o ++ rows_text rows m (suc p)) is
      ∙ (ap (λ k. row_text p slot ++ rows_text rows k (suc p)) one ∙ ap (λ k. row_text p slot ++ rows_text rows n k) same)

  -- the next row, and those after it
  pub rows-next : (from p q : ℕ) (slot : Slot) → IsNext rows from (Some p) → p < 2 ^ 64 → q ≡ p + 1 → rows p ≡ Some slot →
      rows_text rows (2 ^ 64 - from) from ≡ row_text p slot ++ rows_text rows (2 ^ 64 - q) q
  rows-next from p q slot next fits behind is =
      let least = next.least p refl in
      let above = least.0 in
      rows-skip (p - from) (2 ^ 64 - from) (2 ^ 64 - p) from p (omega arith) (omega arith) least.2
      ∙ rows-one (2 ^ 64 - p) (2 ^ 64 - q) p q slot (omega arith) behind is

  -- the end of the pages
  pub rows-last : (p : ℕ) → 2 ^ 64 ≤ p → rows_text rows (2 ^ 64 - p) p ≡ []
  rows-last p over = rows-over (2 ^ 64 - p) p (omega arith)

  -- no row comes any more
  pub rows-end : (from : ℕ) → IsNext rows from None → rows_text rows (2 ^ 64 - from) from ≡ []
  rows-end from next = rows-none (2 ^ 64 - from) from (next.none refl)
