-- Laws of a part of a page: of zeros, and one that is written once the page is owned.
use Rattle.std.proofs.Common.{◌≡◌, ℕ, ◌+◌, ◌-◌, ◌≤◌, List, replicate, take, drop, refl, sym, ap, ◌∙◌, arith}
use Rattle.std.proofs.lemmas.List.{take-replicate, drop-replicate}
use Rattle.vm_base.specs.declared.limits.TheConstants.{PAGE}
use Rattle.vm_base.specs.Pages.{zeros, replaced}
use Rattle.vm_model.specs.Contents.Content.{Page, Content, shown, hold}
use Rattle.vm_model.specs.Contents.Owning.{Owns}
use Rattle.vm_model.specs.Contents.Writing.{WritesPiece}
use Rattle.vm_model.proofs.ContentLaws.{sole_alone, bytes_of-some}
use Rattle.vm_model.proofs.OwningLaws.{Owned}
use Rattle.page_store.specs.Pages.{IsShownOnce, Overwrites}

-- a part of a page of zeros
pub part_of_zeros : (at n : ℕ) → at + n ≤ PAGE → take n (drop at zeros) ≡ replicate n 0
unfolding zeros
part_of_zeros at n h = go PAGE h where
  go : (m : ℕ) → at + n ≤ m → take n (drop at (replicate {A = ℕ} m 0)) ≡ replicate n 0
  go m l = ap (take n) (drop-replicate at m 0) ∙ take-replicate n (m - at) 0 (omega arith)

-- the frame of a page that was owned is shown once
pub IsShownOnce-owned : (old new : Content) (v p tag : ℕ) → Owned old new v p tag → IsShownOnce new tag
IsShownOnce-owned = grind (arith, sole_alone)

-- a page that was owned and whose bytes were then overwritten
pub WritesPiece-from_parts : (old mid new : Content) (v p tag at : ℕ) (bytes : List ℕ) → Owned old mid v p tag
    → Owns old mid v p tag → Overwrites mid new tag at bytes
    → WritesPiece old (record { koid = v; page = p; at = at; bytes = bytes }) new
WritesPiece-from_parts old mid new v p tag at bytes owned owns overwrites =
    let held : Page = record { tag = tag; bytes = shown old v p } in
    let same : shown old v p ≡ shown mid v p = sym (bytes_of-some (mid.page v p) held owned.held) in
    record {
      tag = tag;
      owned = mid;
      owns = owns;
      bytes = overwrites v p held (record { page = owned.held; tag = refl })
          ∙ λ i. hold mid v p (record { tag = tag; bytes = replaced (same i) at bytes });
    }
