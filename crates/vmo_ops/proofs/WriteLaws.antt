-- Laws of writing a page.
use Rattle.std.proofs.Common.{arith}
use Rattle.std.proofs.Common.{◌≡◌, ℕ, ◌/◌, ◌+◌, ◌<◌, ◌≤◌, List, length, map}
use Rattle.vm_base.specs.declared.limits.TheConstants.{PAGE}
use Rattle.vm_model.specs.Contents.Content.{Content}
use Rattle.vm_model.specs.Contents.Writing.{touched, piece, part_at, part_bytes, pieces, WritesPiece, Writes}
use Rattle.vm_model.proofs.RangeLaws.{part_fits}
use Rattle.vm_model.proofs.WritingLaws.{Written-from_WritesPiece}
use Rattle.vmo_ops.proofs.RowLaws.{Run}
use Rattle.vmo_ops.proofs.OwningLaws.{IsOwning, IsOwning-step}

-- a write at this offset, from a content over pages of v to another
abbrev pub writing : ℕ → ℕ → List ℕ → Run
writing v offset bytes c ps new = Writes c (map (piece v offset bytes) ps) new

-- the piece of a write that falls into the next page is written, by its place in the page and its bytes
pub IsOwning-written : (offset : ℕ) (bytes : List ℕ) {v : ℕ} {old : Content} {all : List ℕ} {now mid : Content}
    {from end spare left at : ℕ} {part : List ℕ}
    → IsOwning (writing v offset bytes) v old all now from end spare → from < end → offset / PAGE ≤ from
    → WritesPiece now (record { koid = v; page = from; at = at; bytes = part }) mid → at ≡ part_at offset from
    → part ≡ part_bytes offset bytes from → spare ≤ left + 1
    → IsOwning (writing v offset bytes) v old all mid (from + 1) end left
IsOwning-written offset bytes {v} {old} {all} {now} {mid} {from} owning h low piece_written place same cost =
    let writes : WritesPiece now (piece v offset bytes from) mid = grind arith in
    IsOwning-step owning h (Written-from_WritesPiece now (piece v offset bytes from) mid owning.way.good
    (omega (arith, owning.way.inside)) (part_fits offset bytes from low) writes) cost (λ ps last w. (mid, writes, w))

-- where all pages that a range touches are written, all pieces are
pub Writes-touched : (v offset len : ℕ) (bytes : List ℕ) (old new : Content) → length bytes ≡ len
    → writing v offset bytes old (touched offset len) new → Writes old (pieces v offset bytes) new
unfolding pieces
Writes-touched = grind (arith)
