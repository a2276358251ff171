-- Laws of owning pages one after another: contents stay good, nothing changes but pages, and the pages are sole then.
use Rattle.std.proofs.Common.{◌≡◌, ℕ, zero, suc, ◌+◌, ◌-◌, ◌*◌, ◌/◌, ◌%◌, ◌<◌, ◌≤◌, Bool, true, List, refl, ap, subst, ◌∙◌, inl, inr, arith}
use Rattle.std.specs.List.{range_with_len}
use Rattle.std.proofs.lemmas.Bool.{cases_eq}
use Rattle.vm_base.specs.declared.limits.TheConstants.{PAGE}
use Rattle.vm_model.specs.Contents.Content.{Content, pages_of, sole, IsGood}
use Rattle.vm_model.specs.Contents.Owning.{Owns, OwnsAll}
use Rattle.vm_model.specs.Contents.Writing.{touched, touched_end}
use Rattle.vm_model.proofs.OwningLaws.{Owned-from_Owns}
use Rattle.vm_model.proofs.RangeLaws.{touched-row, touched_end-is, touched_end_le, touched_below}
use Rattle.vm_model.proofs.WritingLaws.{KeepsPages, KeepsPages-handed_on, row_keeps, touched_keeps}

-- page p of v is owned
abbrev OwnsPage : ℕ → Content → ℕ → Content → Type 0
OwnsPage v old p new = (tag : ℕ) × Owns old new v p tag

-- a page below the count
pub Owns-keeps : (test : ℕ → ℕ → Bool) (v lowest : ℕ) (old new : Content) (p : ℕ) → IsGood old → p < pages_of old v → lowest ≤ p → OwnsPage v old p new
    → KeepsPages test old new
Owns-keeps test v lowest old new p good h low owns =
    let owned = Owned-from_Owns old new v p owns.0 good h owns.1 in
    record {
      kept = record { good = owned.good; frames = owned.frames; next = owned.next; count = owned.count; pages = owned.pages };
      alone = λ w q passes was. owned.keeps w q was;
    }

-- all pages of a range inside the VMO
pub OwnsAll-keeps : (test : ℕ → ℕ → Bool) (v offset len : ℕ) (old new : Content) → IsGood old → offset + len ≤ pages_of old v * PAGE
    → OwnsAll old v (touched offset len) new → KeepsPages test old new
OwnsAll-keeps test v offset len old new good h owns =
    touched_keeps (KeepsPages test) (KeepsPages-handed_on test) v 0 (OwnsPage v) (λ a ps b. OwnsAll a v ps b) (λ a b e. e) (λ a b p ps all. (all.0, (all.1, all.2), all.3)) (Owns-keeps test v 0)
    offset len old new good (omega arith) h owns

-- each of the pages in a row is sole then
OwnsAll-alone : (v first n : ℕ) (old new : Content) → IsGood old → first + n ≤ pages_of old v → OwnsAll old v (range_with_len first n) new
    → (p : ℕ) → first ≤ p → p < first + n → sole new v p ≡ true
OwnsAll-alone v first zero old new good h owns p from less = absurd (omega arith)
OwnsAll-alone v first (suc n) old new good h owns p from less =
    let owned = Owned-from_Owns old owns.0 v first owns.1 good (omega arith) owns.2 in
    let room : (first + 1) + n ≤ pages_of owns.0 v = omega (arith, owned.pages v) in
    let every : ℕ → ℕ → Bool = λ w q. true in
    let rest = row_keeps (KeepsPages every) (KeepsPages-handed_on every) v 0 (OwnsPage v) (λ a ps b. OwnsAll a v ps b) (λ a b e. e) (λ a b q ps all. (all.0, (all.1, all.2), all.3))
    (Owns-keeps every v 0) (first + 1) n owns.0 new owned.good (omega arith) room owns.3 in
    elim (cases_eq p first) [
      | inl same ↦ ap (sole new v) same ∙ rest.alone v first refl owned.alone
      | inr apart ↦ OwnsAll-alone v (first + 1) n owns.0 new owned.good room owns.3 p (omega arith) (omega arith)
    ]

-- so is each page of a range of whole pages inside the VMO
pub OwnsAll-alone_pages : (v offset len : ℕ) (old new : Content) → IsGood old → offset + len ≤ pages_of old v * PAGE
    → OwnsAll old v (touched offset len) new → (p : ℕ) → offset % PAGE ≡ 0 → len % PAGE ≡ 0 → offset / PAGE ≤ p → p < offset / PAGE + len / PAGE
    → sole new v p ≡ true
OwnsAll-alone_pages v offset len old new good h owns p begins whole from less =
    let some : 0 < len = omega arith in
    OwnsAll-alone v (offset / PAGE) (touched_end offset len - offset / PAGE) old new good
    (omega (arith, touched_end_le offset len (pages_of old v) h, touched_below offset len some))
    (subst (λ (ps : List ℕ). OwnsAll old v ps new) (touched-row offset len some) owns) p from (omega (arith, touched_end-is offset len))
