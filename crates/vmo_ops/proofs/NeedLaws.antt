-- What owning the pages of a range takes.
use Rattle.vm_model.proofs.RangeLaws.{touched-row, touched-nil, touched_end-is}
use Rattle.std.proofs.Common.{◌≡◌, ℕ, ◌-◌, ◌≤◌, cond, arith}
use Rattle.std.specs.List.{range_with_len}
use Rattle.vm_model.specs.Contents.Content.{Content, sole}
use Rattle.vm_model.specs.Contents.Owning.{need}
use Rattle.vm_model.proofs.ContentLaws.{IsOfHeld, sole-zero}
use Rattle.vm_model.proofs.OwningLaws.{count_from, count_from_le, unowned, need-row}
use Rattle.vmo_ops.proofs.ModelLaws.{count_from-not}

-- no zero page is sole
pub IsOfHeld-sole : (c : Content) (v : ℕ) → IsOfHeld c v (sole c v)
IsOfHeld-sole = grind (arith, sole-zero)

-- the pages in a row that are not sole, by those that are
pub need-sole : (c : Content) (v first end n : ℕ) → n ≡ count_from (sole c v) first (end - first)
    → (end - first) - n ≡ need c v (range_with_len first (end - first))
unfolding unowned
need-sole c v first end n counted =
    omega (arith, counted, count_from-not (sole c v) first (end - first), need-row c v first (end - first))

-- the same of one page
pub need-one : (c : Content) (v first end : ℕ) → end - first ≡ 1
    → need c v (range_with_len first (end - first)) ≡ cond (sole c v first) 0 1
unfolding count_from unowned
need-one = grind (arith, need-row)

-- each page needs one frame at most
pub need-most : (c : Content) (v first n : ℕ) → need c v (range_with_len first n) ≤ n
unfolding unowned
need-most = grind (arith, need-row, count_from_le)

-- the pages that a range touches
pub ruleset touched_laws = (touched-row, touched-nil, touched_end-is)
