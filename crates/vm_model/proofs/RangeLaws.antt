-- Laws of ranges of bytes: the pages that they touch, what falls into each, and the bytes read.
use Rattle.std.proofs.Common.{◌≡◌, ◌≢◌, ℕ, zero, suc, ◌+◌, ◌-◌, ◌*◌, ◌/◌, ◌<◌, ◌≤◌, cond, List, [], length, refl, sym, ap, subst, arith}
use Rattle.std.specs.List.{All, range_with_len}
use Rattle.std.proofs.lemmas.List.{length-take, length-drop}
use Rattle.std.proofs.lemmas.List.Elements.{All-nil, All-cons}
use Rattle.vm_base.specs.declared.limits.TheConstants.{PAGE}
use Rattle.vm_model.specs.Contents.Writing.{touched_end, touched, part_at, part_bytes}
use Rattle.vm_base.proofs.SearchLaws.{eqb_apart}

-- a range with a byte touches the pages in a row from its first byte's
pub touched-row : (offset len : ℕ) → 0 < len → touched offset len ≡ range_with_len (offset / PAGE) (touched_end offset len - offset / PAGE)
unfolding touched
touched-row offset len h = let some : len ≢ 0 = omega arith in ap (λ b. cond b [] (range_with_len (offset / PAGE) (touched_end offset len - offset / PAGE))) (eqb_apart len 0 some)

-- a range with no byte touches none
pub touched-nil : (offset : ℕ) → touched offset 0 ≡ []
unfolding touched
touched-nil offset = refl

pub touched_end-is : (offset len : ℕ) → touched_end offset len ≡ (offset + len + (PAGE - 1)) / PAGE
unfolding touched_end
touched_end-is offset len = refl

-- it begins before it ends
pub touched_below : (offset len : ℕ) → 0 < len → offset / PAGE < touched_end offset len
unfolding touched_end
touched_below offset len h = omega arith

-- it ends inside what it lies inside
pub touched_end_le : (offset len pages : ℕ) → offset + len ≤ pages * PAGE → touched_end offset len ≤ pages
unfolding touched_end
touched_end_le offset len pages h = omega arith

-- the pages that it touches are not before its first byte's
pub touched-from : (offset len : ℕ) → All (λ p. offset / PAGE ≤ p) (touched offset len)
touched-from offset zero = subst (All (λ p. offset / PAGE ≤ p)) (sym (touched-nil offset)) (All-nil (λ p. offset / PAGE ≤ p))
touched-from offset (suc len) =
    subst (All (λ p. offset / PAGE ≤ p)) (sym (touched-row offset (suc len) (omega arith))) (row (offset / PAGE) (touched_end offset (suc len) - offset / PAGE) (omega arith)) where
      row : (first n : ℕ) → offset / PAGE ≤ first → All (λ p. offset / PAGE ≤ p) (range_with_len first n)
      row first zero h = All-nil (λ p. offset / PAGE ≤ p)
      row first (suc n) h = All-cons (λ p. offset / PAGE ≤ p) first (range_with_len (first + 1) n) h (row (first + 1) n (omega arith))

-- ---- pieces

-- a part lies in its page
pub part_fits : (offset : ℕ) (bytes : List ℕ) (p : ℕ) → offset / PAGE ≤ p → part_at offset p + length (part_bytes offset bytes p) ≤ PAGE
unfolding part_at part_bytes
part_fits offset bytes p h = simp (length-take, length-drop) (omega arith)

-- ---- reading

-- ---- how many touched pages are not sole

-- ---- a read that goes on
