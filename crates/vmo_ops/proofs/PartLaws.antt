-- Laws of the part of a range of bytes that falls into a page: what a write and a fill put there, and what is read
-- there.
use Rattle.std.proofs.Common.{◌≡◌, ℕ, ◌+◌, ◌-◌, ◌*◌, ◌/◌, ◌%◌, ◌<◌, ◌≤◌, min, List, ◌++◌, length, replicate, take, drop, sym, ap, ◌∙◌, arith}
use Rattle.std.specs.Prelude.{slice_range}
use Rattle.std.proofs.lemmas.List.{take_all, take-replicate, drop-replicate, length-replicate}
use Rattle.vm_base.specs.declared.limits.TheConstants.{PAGE}
use Rattle.vm_model.specs.Contents.Content.{Content, shown, IsGood}
use Rattle.vm_model.specs.Contents.Writing.{part_at, part_bytes, bytes_in}
use Rattle.vmo_ops.proofs.ModelLaws.{slice_range-min, bytes_in-more, bytes_in-nil}

-- a part of equal bytes
slice_range-replicate : (n byte i j : ℕ) → j ≤ n → slice_range (replicate n byte) i j ≡ replicate (j - i) byte
slice_range-replicate = grind (arith, drop-replicate, take-replicate)

-- The part of a range of this length that falls into page p, so many bytes from a place in the range on
module _ (offset len p from count : ℕ) (start : from ≡ PAGE * p - offset)
    (stop : from + count ≡ min (PAGE * (p + 1) - offset) len) where
  -- what a write puts there
  pub part_bytes-slice : (bytes : List ℕ) → length bytes ≡ len
      → slice_range bytes from (from + count) ≡ part_bytes offset bytes p
  unfolding part_bytes
  part_bytes-slice = grind (arith, slice_range-min)

  -- what a fill does
  pub part_bytes-replicate : (byte : ℕ) → replicate count byte ≡ part_bytes offset (replicate len byte) p
  part_bytes-replicate byte =
      let n : (from + count) - from ≡ count = omega arith in
      sym (ap (λ (m : ℕ). replicate m byte) n)
      ∙ (sym (slice_range-replicate len byte from (from + count) (omega (arith, stop)))
      ∙ part_bytes-slice (replicate len byte) (length-replicate len byte))

  -- what was read before it, and what the page shows there
  pub bytes_in-part : (c : Content) (v at : ℕ) → IsGood c → at ≡ part_at offset p → at + count ≤ PAGE
      → offset / PAGE ≤ p → p * PAGE < offset + len
      → bytes_in c v offset (from + count) ≡ bytes_in c v offset from ++ take count (drop at (shown c v p))
  unfolding part_at
  bytes_in-part = grind (arith, bytes_in-more)

-- A range that lies in page p
module _ (offset len p : ℕ) (low : p ≡ offset / PAGE) (high : offset + len ≤ PAGE * (p + 1)) where
  none_before : 0 ≡ PAGE * p - offset
  none_before = omega (arith, low)

  all_here : 0 + len ≡ min (PAGE * (p + 1) - offset) len
  all_here = omega (arith, high)

  pub part_at-one : offset % PAGE ≡ part_at offset p
  unfolding part_at
  part_at-one = omega (arith, low)

  pub part_bytes-one : (bytes : List ℕ) → length bytes ≡ len → bytes ≡ part_bytes offset bytes p
  part_bytes-one bytes size =
      sym (take_all ((0 + len) - 0) bytes (omega (arith, size)))
      ∙ part_bytes-slice offset len p 0 len none_before all_here bytes size

  -- what a read of it gives
  pub bytes_in-one : (c : Content) (v : ℕ) → IsGood c → p * PAGE < offset + len
      → take len (drop (offset % PAGE) (shown c v p)) ≡ bytes_in c v offset len
  bytes_in-one c v good last =
      let whole : len ≡ 0 + len = omega arith in
      let read : bytes_in c v offset (0 + len) ≡ bytes_in c v offset 0
      ++ take len (drop (offset % PAGE) (shown c v p)) = bytes_in-part offset len p 0 len none_before all_here c v
      (offset % PAGE) good part_at-one (omega (arith, low, high)) (omega (arith, low)) last in
      sym (ap (bytes_in c v offset) whole ∙ read
      ∙ ap (λ (bs : List ℕ). bs ++ take len (drop (offset % PAGE) (shown c v p))) (bytes_in-nil c v offset))
