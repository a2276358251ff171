-- Laws of pages that change one after another, as by a write: contents stay good, nothing changes but pages, and sole pages stay so.
use Rattle.std.proofs.Common.{◌≡◌, ◌≢◌, ℕ, zero, suc, ◌+◌, ◌-◌, ◌*◌, ◌/◌, ◌<◌, ◌≤◌, Bool, true, cond, List, [], ◌∷◌, length, map, refl, sym, subst, ◌∙◌, inl, inr, arith}
use Rattle.std.specs.List.{range_with_len}
use Rattle.std.proofs.lemmas.Bool.{cases_eq}
use Rattle.vm_base.specs.declared.limits.TheConstants.{PAGE}
use Rattle.vm_model.specs.Contents.Content.{Page, Content, shown, pages_of, used, sole, hold, IsGood}
use Rattle.vm_base.specs.Pages.{replaced}
use Rattle.vm_model.specs.Contents.Writing.{Piece, piece, pieces, touched, touched_end, WritesPiece, Writes}
use Rattle.vm_model.proofs.ContentLaws.{page-hold_other, IsGood-hold_bytes, sole-hold_kept, sole-hold_elsewhere, used-hold_kept}
use Rattle.vm_model.proofs.SoleLaws.{KeepsSole, sole-hold_keeps}
use Rattle.vm_model.proofs.OwningLaws.{Owned, Owned-from_Owns, length-shown}
use Rattle.vm_base.proofs.PageLaws.{length-replaced}
use Rattle.vm_model.proofs.RangeLaws.{part_fits, touched-row, touched-nil, touched_end_le, touched_below}

-- new has the frames and VMOs of old, and is good
pub record IsKept (old new : Content) : Type 0 where
  pub good : IsGood new
  pub frames : new.frames ≡ old.frames
  pub next : new.next ≡ old.next
  pub count : new.count ≡ old.count
  pub pages : (w : ℕ) → pages_of new w ≡ pages_of old w

-- where nothing changes
pub IsKept-same : (old new : Content) → IsGood old → new ≡ old → IsKept old new
IsKept-same old new good e = subst (IsKept old) (sym e) (record { good = good; frames = refl; next = refl; count = refl; pages = λ w. refl })

pub IsKept-trans : (a b c : Content) → IsKept a b → IsKept b c → IsKept a c
IsKept-trans a b c p q = record {
  good = q.good;
  frames = q.frames ∙ p.frames;
  next = q.next ∙ p.next;
  count = q.count ∙ p.count;
  pages = λ w. q.pages w ∙ p.pages w;
}

-- the same, and each sole page that passes stays so
pub record KeepsPages (test : ℕ → ℕ → Bool) (old new : Content) : Type 0 where
  pub kept : IsKept old new
  pub alone : KeepsSole test old new

-- ---- what changes hand on

-- What changes keep one after another: it holds where nothing changes and over two changes in a row, and contents stay good.
pub record IsHandedOn (Keeps : Content → Content → Type 0) : Type 0 where
  pub kept : (old new : Content) → Keeps old new → IsKept old new
  pub same : (old new : Content) → IsGood old → new ≡ old → Keeps old new
  pub both : (old mid new : Content) → Keeps old mid → Keeps mid new → Keeps old new

-- that sole pages stay so is kept
pub KeepsPages-handed_on : (test : ℕ → ℕ → Bool) → IsHandedOn (KeepsPages test)
KeepsPages-handed_on test = record {
  kept = λ old new keeps. keeps.kept;
  same = λ old new good e. subst (KeepsPages test old) (sym e) (record { kept = IsKept-same old old good refl; alone = λ w q passes was. was });
  both = λ old mid new first second. record {
    kept = IsKept-trans old mid new first.kept second.kept;
    alone = λ w q passes was. second.alone w q passes (first.alone w q passes was);
  };
}

-- ---- pages of a VMO that change one after another

module _ (Keeps : Content → Content → Type 0) (handed : IsHandedOn Keeps) (v lowest : ℕ)
    (Change : Content → ℕ → Content → Type 0) (Changes : Content → List ℕ → Content → Type 0)
    (none : (old new : Content) → Changes old [] new → new ≡ old)
    (more : (old new : Content) (p : ℕ) (ps : List ℕ) → Changes old (p ∷ ps) new → (mid : Content) × Change old p mid × Changes mid ps new)
    (keeps : (old new : Content) (p : ℕ) → IsGood old → p < pages_of old v → lowest ≤ p → Change old p new → Keeps old new) where
  -- pages in a row below the count
  pub row_keeps : (first n : ℕ) (old new : Content) → IsGood old → lowest ≤ first → first + n ≤ pages_of old v
      → Changes old (range_with_len first n) new → Keeps old new
  row_keeps first zero old new good low h changes = handed.same old new good (none old new changes)
  row_keeps first (suc n) old new good low h changes =
      let parts = more old new first (range_with_len (first + 1) n) changes in
      let step = keeps old parts.0 first good (omega arith) low parts.1 in
      let kept = handed.kept old parts.0 step in
      handed.both old parts.0 new step (row_keeps (first + 1) n parts.0 new kept.good (omega arith) (omega (arith, kept.pages v)) parts.2)

  -- all pages of a range inside the VMO
  pub touched_keeps : (offset len : ℕ) (old new : Content) → IsGood old → lowest ≤ offset / PAGE → offset + len ≤ pages_of old v * PAGE
      → Changes old (touched offset len) new → Keeps old new
  touched_keeps offset zero old new good low h changes =
      handed.same old new good (none old new (subst (λ (ps : List ℕ). Changes old ps new) (touched-nil offset) changes))
  touched_keeps offset (suc len) old new good low h changes =
      row_keeps (offset / PAGE) (touched_end offset (suc len) - offset / PAGE) old new good low
      (omega (arith, touched_end_le offset (suc len) (pages_of old v) h, touched_below offset (suc len) (omega arith)))
      (subst (λ (ps : List ℕ). Changes old ps new) (touched-row offset (suc len) (omega arith)) changes)

-- ---- pieces that are written

-- what writing a piece keeps, which page is sole afterwards, how many frames are used, and that the other pages stay
pub record Written (old : Content) (v p : ℕ) (new : Content) : Type 0 where
  pub kept : IsKept old new
  pub alone : sole new v p ≡ true
  pub other_page : (q : ℕ) → q ≢ p → new.page v q ≡ old.page v q
  pub other_vmo : (w q : ℕ) → w ≢ v → new.page w q ≡ old.page w q
  pub other_sole : (q : ℕ) → q ≢ p → sole new v q ≡ sole old v q
  pub used : used new ≡ cond (sole old v p) (used old) (used old + 1)

-- another page stays, of the same VMO or of another
pub Written-other : (old new : Content) (v p : ℕ) → Written old v p new → (w q : ℕ) → (w ≡ v → q ≡ p → ⊥) → new.page w q ≡ old.page w q
Written-other old new v p written w q apart = elim (cases_eq w v) [
  | inl same ↦ rw same (written.other_page q (apart same))
  | inr other ↦ written.other_vmo w q other
]

-- a piece that lies in its page, below the count
module _ (old : Content) (part : Piece) (new : Content) (good : IsGood old) (h : part.page < pages_of old part.koid)
    (fits : part.at + length part.bytes ≤ PAGE) (w : WritesPiece old part new) where
  owned : Owned old w.owned part.koid part.page w.tag
  owned = Owned-from_Owns old w.owned part.koid part.page w.tag good h w.owns

  pub Written-from_WritesPiece : Written old part.koid part.page new
  unfolding hold pages_of
  Written-from_WritesPiece =
      let v = part.koid in
      let p = part.page in
      let held : Page = record { tag = w.tag; bytes = shown old v p } in
      let page : Page = record { tag = w.tag; bytes = replaced (shown w.owned v p) part.at part.bytes } in
      let size = length-shown w.owned v p owned.good in
      let whole : length page.bytes ≡ PAGE = length-replaced (shown w.owned v p) part.at part.bytes (omega (arith, fits, size)) ∙ size in
      subst (Written old v p) (sym w.bytes) (record {
        kept = record {
          good = IsGood-hold_bytes w.owned v p held page owned.good owned.alone owned.held refl whole;
          frames = owned.frames;
          next = owned.next;
          count = owned.count;
          pages = owned.pages;
        };
        alone = sole-hold_kept w.owned v p held page owned.good owned.alone owned.held refl;
        other_page = λ q apart. page-hold_other w.owned v p page v q (λ vmo. apart) ∙ owned.other_page q apart;
        other_vmo = λ u q apart. page-hold_other w.owned v p page u q (λ vmo here. apart vmo) ∙ owned.other_vmo u q apart;
        other_sole = λ q apart. sole-hold_elsewhere w.owned v p q page apart ∙ owned.other_sole q apart;
        used = used-hold_kept w.owned v p held page owned.good owned.alone owned.held refl whole ∙ owned.used;
      })

  pub WritesPiece-keeps : (test : ℕ → ℕ → Bool) → KeepsPages test old new
  WritesPiece-keeps test = record {
    kept = (Written-from_WritesPiece).kept;
    alone = λ u q passes was. subst (λ (c : Content). sole c u q ≡ true) (sym w.bytes)
        (sole-hold_keeps w.owned part.koid part.page _ u q owned.good (inr (_, owned.held, refl)) (owned.keeps u q was));
  }

-- a whole write inside the VMO
pub Writes-keeps : (test : ℕ → ℕ → Bool) (v offset : ℕ) (bytes : List ℕ) (old new : Content) → IsGood old
    → offset + length bytes ≤ pages_of old v * PAGE → Writes old (pieces v offset bytes) new → KeepsPages test old new
unfolding pieces
Writes-keeps test v offset bytes old new good h w =
    touched_keeps (KeepsPages test) (KeepsPages-handed_on test) v (offset / PAGE) (λ a p b. WritesPiece a (piece v offset bytes p) b) (λ a ps b. Writes a (map (piece v offset bytes) ps) b)
    (λ a b e. e) (λ a b p ps writes. writes)
    (λ a b p fine low from writes. WritesPiece-keeps a (piece v offset bytes p) b fine low (part_fits offset bytes p from) writes test)
    offset (length bytes) old new good (omega arith) h w
