-- Laws of a loop that writes the pages of a range.
use Rattle.std.proofs.Common.{◌≡◌, ℕ, zero, suc, ◌+◌, ◌/◌, ◌<◌, ◌≤◌, inl, inr, Bool, true, false, not, cond, List, length, map, refl, sym, ap, subst, arith}
use Rattle.std.specs.List.{list_any, range_with_len}
use Rattle.vm_base.specs.declared.limits.TheConstants.{PAGE}
use Rattle.vm_base.specs.declared.refusal.Refusal.{Refusal}
use Rattle.vm_model.specs.Contents.Content.{Content, pages_of, sole}
use Rattle.vm_model.specs.Contents.Owning.{need}
use Rattle.vm_model.specs.Contents.Writing.{piece, part_at, part_bytes, touched}
use Rattle.vm_model.proofs.OwningLaws.{count_from, unowned, need-row}
use Rattle.vm_model.proofs.RangeLaws.{part_fits, touched-row, touched-nil}
use Rattle.vmo_ops.specs.Costs.{LacksRoom}
use Rattle.vmo_ops.proofs.RowLaws.{Run}
use Rattle.vmo_ops.proofs.OwningLaws.{IsOwning, IsOwning-step}
use Rattle.source_vm.specs.Pages.{Backings, LooseLinks, IsReadable, FillsPage, FillsPages, LacksFrames}
use Rattle.source_vm.proofs.FillingLaws.{Written-from_fills, IsReadable-kept}
use Rattle.source_vm.proofs.SupplyLaws.{FillsPages-more}

-- a write at this offset, from a content over pages of v to another
abbrev pub filling : Backings → LooseLinks → ℕ → ℕ → List ℕ → Run
filling bs ls v offset bytes c ps new = FillsPages bs ls c (map (piece v offset bytes) ps) new

-- the piece of a write that falls into the next page is written, by its place in the page and its bytes
pub IsOwning-filled : (bs : Backings) (ls : LooseLinks) (offset : ℕ) (bytes : List ℕ) {v : ℕ} {old : Content} {all : List ℕ} {now mid : Content}
    {from end spare left at : ℕ} {part : List ℕ}
    → IsReadable now bs ls → IsOwning (filling bs ls v offset bytes) v old all now from end spare → from < end → offset / PAGE ≤ from
    → FillsPage bs ls now (record { koid = v; page = from; at = at; bytes = part }) mid → at ≡ part_at offset from
    → part ≡ part_bytes offset bytes from → spare ≤ left + 1
    → IsOwning (filling bs ls v offset bytes) v old all mid (from + 1) end left
IsOwning-filled bs ls offset bytes {v} {old} {all} {now} {mid} {from} readable owning h low fills place same cost =
    let here : FillsPage bs ls now (piece v offset bytes from) mid = grind arith in
    IsOwning-step owning h (Written-from_fills bs ls now mid v from (part_at offset from) (part_bytes offset bytes from) readable
    (omega (arith, owning.way.inside)) (part_fits offset bytes from low) here) cost
    (λ ps last w. FillsPages-more bs ls now mid last (piece v offset bytes from) (map (piece v offset bytes) ps) here w)

-- pages may be looked up as before
pub IsReadable-filled : (bs : Backings) (ls : LooseLinks) (now mid : Content) (v p at : ℕ) (part : List ℕ) → IsReadable now bs ls → p < pages_of now v → at + length part ≤ PAGE
    → FillsPage bs ls now (record { koid = v; page = p; at = at; bytes = part }) mid → IsReadable mid bs ls
IsReadable-filled bs ls now mid v p at part readable h fits fills =
    let written = Written-from_fills bs ls now mid v p at part readable h fits fills in
    IsReadable-kept bs ls now mid readable written.kept.good written.kept.pages

-- where some page of a row is not sole, owning the row takes a frame
some_need : (test : ℕ → Bool) (first n : ℕ) → list_any test (range_with_len first n) ≡ true → 0 < count_from test first n
unfolding count_from
some_need test first zero e = absurd cc
some_need test first (suc n) e = go (test first) refl (some_need test (first + 1) n) where
  go : (bit : Bool) → test first ≡ bit → (list_any test (range_with_len (first + 1) n) ≡ true → 0 < count_from test (first + 1) n)
      → 0 < cond (test first) 1 0 + count_from test (first + 1) n
  go true f rest = let one : ◌≡◌ {A = ℕ} (cond (test first) 1 0) 1 = ap (λ (t : Bool). cond t 1 0) f in omega (arith, one)
  go false f rest = let more = rest (rw f at e) in omega (arith, more)

-- what refuses a write, by what it takes
pub LacksFrames-row : (c : Content) (v first n : ℕ) (refusal : Refusal) → LacksRoom c v (range_with_len first n) refusal
    → LacksFrames c (need c v (range_with_len first n)) refusal
unfolding unowned
LacksFrames-row c v first n refusal (inl few) = inl few
LacksFrames-row c v first n refusal (inr host) =
    inr (host.0, host.1, let some = some_need (λ p. not (sole c v p)) first n host.2 in omega (arith, some, need-row c v first n))

pub LacksFrames-touched : (c : Content) (v first n : ℕ) (ps : List ℕ) (refusal : Refusal) → ps ≡ range_with_len first n
    → LacksRoom c v ps refusal → LacksFrames c (need c v ps) refusal
LacksFrames-touched c v first n ps refusal e lacks =
    subst (λ (xs : List ℕ). LacksFrames c (need c v xs) refusal) (sym e)
    (LacksFrames-row c v first n refusal (subst (λ (xs : List ℕ). LacksRoom c v xs refusal) e lacks))

pub LacksFrames-range : (c : Content) (v offset len : ℕ) (refusal : Refusal) → LacksRoom c v (touched offset len) refusal
    → LacksFrames c (need c v (touched offset len)) refusal
LacksFrames-range c v offset zero refusal lacks = LacksFrames-touched c v 0 0 (touched offset zero) refusal (touched-nil offset) lacks
LacksFrames-range c v offset (suc len) refusal lacks =
    LacksFrames-touched c v _ _ (touched offset (suc len)) refusal (touched-row offset (suc len) (omega arith)) lacks
