-- The steps of a read.
use Rattle.vm_model.proofs.ContentLaws.{pages_of_le}
use Rattle.std.proofs.Common.{◌≡◌, ℕ, ◌+◌, ◌-◌, ◌*◌, ◌/◌, ◌<◌, ◌≤◌, min, List, length, take}
use Rattle.std.proofs.Common.{drop, length-drop, arith}
use Rattle.std.specs.Prelude.{slice_range}
use Rattle.std.proofs.lemmas.List.{length-take}
use Rattle.std.proofs.lemmas.Slice.{take-put_mid}
use borrow.Rule.Slice.PartMut.{put_mid}
use Rattle.vm_base.specs.declared.limits.TheConstants.{PAGE}
use Rattle.vm_model.specs.Contents.Content.{Content, shown, IsGood}
use Rattle.vm_model.specs.Contents.Writing.{part_at, bytes_in}
use Rattle.vmo_ops.proofs.ModelLaws.{bytes_in-nil}
use Rattle.vmo_ops.proofs.PartLaws.{bytes_in-part}

-- ---- a read, page by page

-- how many bytes of a range lie before page p
abbrev before : ℕ → ℕ → ℕ → ℕ
before offset len p = min (PAGE * p - offset) len

-- of the bytes of a range, in their room, those before page p are read
pub record IsReadTo (c : Content) (v offset len p : ℕ) (out : List ℕ) : Type 0 where
  pub bytes : take (before offset len p) out ≡ bytes_in c v offset (before offset len p)

-- nothing lies before the first page
pub read_start : (c : Content) (v offset first : ℕ) (out : List ℕ) → first ≡ offset / PAGE
    → IsReadTo c v offset (length out) first out
read_start = grind (arith, bytes_in-nil)

-- the part of the range that falls into page p is read to its place
pub read_step : {c : Content} {v offset len p at : ℕ} {out : List ℕ} (from count : ℕ) (new : List ℕ) → IsGood c
    → offset / PAGE ≤ p → p * PAGE < offset + len → at ≡ part_at offset p → from ≡ PAGE * p - offset
    → from + count ≡ before offset len (p + 1) → at + count ≤ PAGE → length out ≡ len
    → length new ≡ length (slice_range out from (from + count))
    → new ≡ take (length (slice_range out from (from + count))) (drop at (shown c v p)) → IsReadTo c v offset len p out
    → IsReadTo c v offset len (p + 1) (put_mid from ((from + count) - from) out new)
read_step = grind (arith, length-take, length-drop, take-put_mid, bytes_in-part)

-- a read, page by page
pub ruleset read_laws = (read_start, read_step, pages_of_le)
