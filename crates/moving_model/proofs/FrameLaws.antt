-- Laws of pages that keep their frames: a sole page that passes a test keeps its own where pages are owned, written or zeroed.
use Rattle.std.proofs.Common.{◌≡◌, ℕ, ◌+◌, ◌/◌, ◌<◌, ◌≤◌, Bool, true, not, length, replicate, Some, refl, sym, ap, subst, ◌∙◌, inl, inr}
use Rattle.std.proofs.lemmas.Bool.{cases_Bool, cases_eq, both_ways, and_parts, not-true}
use Rattle.vm_base.specs.declared.limits.TheConstants.{PAGE}
use Rattle.vm_base.specs.Pages.{replaced}
use Rattle.vm_model.specs.Contents.Content.{Page, Content, shown, is_held, pages_of, sole, IsGood}
use Rattle.vm_model.specs.Contents.Owning.{Owns}
use Rattle.vm_model.specs.Contents.Writing.{Piece, piece, WritesPiece}
use Rattle.vm_model.specs.Contents.Zeroing.{is_whole, is_cleared, ZeroesPage}
use Rattle.vm_model.proofs.ContentLaws.{same_page, page-hold_here}
use Rattle.vm_model.proofs.OwningLaws.{Owned-from_Owns}
use Rattle.vm_model.proofs.RangeLaws.{part_fits}
use Rattle.vm_model.proofs.SoleLaws.{sole-zeroed_kept}
use Rattle.vm_model.proofs.WritingLaws.{IsKept, IsKept-same, IsKept-trans, Written-from_WritesPiece, Written-other, WritesPiece-keeps}
use Rattle.vm_model.proofs.ZeroesLaws.{zeroed-keeps, beside}
use Rattle.vm_model.proofs.ZeroingLaws.{page-zeroed_out}

-- In new the page is sole and has this frame.
pub record IsIn (new : Content) (v p tag : ℕ) : Type 0 where
  pub held : Page
  pub is : new.page v p ≡ Some held
  pub tag_is : held.tag ≡ tag
  pub alone : sole new v p ≡ true

-- new has the frames and VMOs of old, and is good, and each sole page that passes stays so, in its frame
pub record KeepsFrames (test : ℕ → ℕ → Bool) (old new : Content) : Type 0 where
  pub kept : IsKept old new
  pub stays : (v p : ℕ) (held : Page) → test v p ≡ true → sole old v p ≡ true → old.page v p ≡ Some held → IsIn new v p held.tag

module _ (test : ℕ → ℕ → Bool) where
  pub KeepsFrames-same : (old new : Content) → IsGood old → new ≡ old → KeepsFrames test old new
  KeepsFrames-same old new good e = subst (KeepsFrames test old) (sym e) (record {
    kept = IsKept-same old old good refl;
    stays = λ v p held passes alone f. record { held = held; is = f; tag_is = refl; alone = alone };
  })

  pub KeepsFrames-both : (old mid new : Content) → KeepsFrames test old mid → KeepsFrames test mid new → KeepsFrames test old new
  KeepsFrames-both old mid new first second = record {
    kept = IsKept-trans old mid new first.kept second.kept;
    stays = λ v p held passes alone e.
        let there = first.stays v p held passes alone e in
        let then = second.stays v p there.held passes there.alone there.is in
        record { held = then.held; is = then.is; tag_is = then.tag_is ∙ there.tag_is; alone = then.alone };
  }

  pub KeepsFrames-Owns : (old new : Content) (v p tag : ℕ) → IsGood old → p < pages_of old v → Owns old new v p tag → KeepsFrames test old new
  KeepsFrames-Owns old new v p tag good h owns =
      let owned = Owned-from_Owns old new v p tag good h owns in
      record {
        kept = record { good = owned.good; frames = owned.frames; next = owned.next; count = owned.count; pages = owned.pages };
        stays = λ w q held passes alone e. elim (same_page v p w q) [
          | inl here ↦
              let mine : sole old v p ≡ true = let vmo = here.0 in let page = here.1 in cc in
              record { held = held; is = ap (λ (c : Content). c.page w q) (owns.stays mine).0 ∙ e; tag_is = refl; alone = owned.keeps w q alone }
          | inr apart ↦ record { held = held; is = other old new v p tag w q owned.other_page owned.other_vmo apart ∙ e; tag_is = refl; alone = owned.keeps w q alone }
        ];
      } where
        other : (a b : Content) (u x s w q : ℕ) → ((y : ℕ) → (y ≡ x → ⊥) → b.page u y ≡ a.page u y) → ((z y : ℕ) → (z ≡ u → ⊥) → b.page z y ≡ a.page z y)
            → (w ≡ u → q ≡ x → ⊥) → b.page w q ≡ a.page w q
        other a b u x s w q page vmo apart = elim (cases_eq w u) [
          | inl same ↦ rw same (page q (apart same))
          | inr else ↦ vmo w q else
        ]

  pub KeepsFrames-WritesPiece : (old : Content) (part : Piece) (new : Content) → IsGood old → part.page < pages_of old part.koid → part.at + length part.bytes ≤ PAGE
      → WritesPiece old part new → KeepsFrames test old new
  KeepsFrames-WritesPiece old part new good h fits writes =
      let written = Written-from_WritesPiece old part new good h fits writes in
      let keeps = WritesPiece-keeps old part new good h fits writes (λ w q. true) in
      record {
        kept = written.kept;
        stays = λ w q held passes alone e. elim (same_page part.koid part.page w q) [
          | inl here ↦
              let mine : sole old part.koid part.page ≡ true = let vmo = here.0 in let page = here.1 in cc in
              let was : old.page part.koid part.page ≡ Some held = let vmo = here.0 in let page = here.1 in let at = e in cc in
              let now : Page = record { tag = writes.tag; bytes = replaced (shown writes.owned part.koid part.page) part.at part.bytes } in
              let is : new.page part.koid part.page ≡ Some now = ap (λ (c : Content). c.page part.koid part.page) writes.bytes ∙ page-hold_here writes.owned part.koid part.page now in
              record {
                held = now;
                is = ap (λ (u : ℕ). new.page u q) here.0 ∙ (ap (new.page part.koid) here.1 ∙ is);
                tag_is = (writes.owns.stays mine).1 held was;
                alone = keeps.alone w q refl alone;
              }
          | inr apart ↦ record { held = held; is = Written-other old new part.koid part.page written w q apart ∙ e; tag_is = refl; alone = keeps.alone w q refl alone }
        ];
      }

-- a page that is zeroed, where pages that pass are no page that becomes zero as a whole
pub KeepsFrames-ZeroesPage : (pins : ℕ → ℕ → Bool) (old : Content) (v offset len p : ℕ) (new : Content) → IsGood old → p < pages_of old v → offset / PAGE ≤ p
    → ZeroesPage old v (pins v) offset len p new → KeepsFrames pins old new
KeepsFrames-ZeroesPage pins old v offset len p new good h from zeroes = elim (cases_Bool (is_cleared (pins v) offset len p)) [
  | inl cleared ↦
      let free = not-true (pins v p) (and_parts (is_whole offset len p) (not (pins v p)) cleared).1 in
      subst (KeepsFrames pins old) (sym (zeroes.cleared cleared)) (record {
        kept = zeroed-keeps old v p (p + 1) good;
        stays = λ w q held pinned alone e.
            let out = λ (same : w ≡ v). beside p q (λ page. both_ways (pins v p) free (let vmo = same in let place = page in cc)) in
            record { held = held; is = page-zeroed_out old v p (p + 1) w q out ∙ e; tag_is = refl; alone = sole-zeroed_kept old v p (p + 1) w q good alone out };
      })
  | inr part ↦ elim (cases_Bool (is_held old v p)) [
    | inl held ↦ KeepsFrames-WritesPiece pins old (piece v offset (replicate len 0) p) new good h (part_fits offset (replicate len 0) p from) (zeroes.held part held)
    | inr free ↦ KeepsFrames-same pins old new good (zeroes.zero part free)
  ]
]
