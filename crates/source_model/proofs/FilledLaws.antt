-- Laws of a page that is filled: what each text is then.
use Rattle.std.proofs.Common.{◌≡◌, ℕ, ◌+◌, ◌<◌, ◌≤◌, Bool, true, false, cond, List, length, Option, Some, refl, sym, ap, subst, ◌∙◌, arith}
use Rattle.std.specs.Prelude.{is_some}
use Rattle.vm_base.specs.declared.limits.TheConstants.{PAGE}
use Rattle.vm_base.specs.Pages.{replaced}
use Rattle.vm_base.proofs.PageLaws.{length-replaced}
use Rattle.vm_model.specs.Contents.Content.{Content, Page, IsGood, pages_of, shown}
use Rattle.vm_model.specs.Contents.Writing.{Piece, WritesPiece}
use Rattle.vm_model.proofs.ContentLaws.{page-hold_here}
use Rattle.vm_model.proofs.OwningLaws.{Owned, Owned-from_Owns, length-shown}
use Rattle.vm_model.proofs.WritingLaws.{Written, Written-from_WritesPiece, Written-other}
use Rattle.source_model.specs.declared.backing.Backing.{Backing}
use Rattle.source_model.specs.declared.link.Link.{Link}
use Rattle.source_model.specs.Sources.{backing_text, held_text, text_over}
use Rattle.source_model.specs.Links.{Below, page_below, read_end, walked, shows_through}
use Rattle.vm_model.specs.Contents.Owning.{VmoPage}
use Rattle.source_model.specs.State.{SourceState, state_over, pushed, Fills}
use Rattle.source_model.proofs.FillingLaws.{replaced-whole}
use Rattle.source_model.proofs.WalkLaws.{shows-here, shown_end, not_shown, end_cut}
use Rattle.source_model.proofs.LinkLaws.{AreSmaller, below-held, below-same, goes_down, length-walked}

pub pushed-here : (s : SourceState) (part : Piece) → pushed s part part.koid part.page ≡ replaced (s.text part.koid part.page) part.at part.bytes
unfolding pushed
pushed-here s part =
    ap (λ (t : Bool). cond t (replaced (s.text part.koid part.page) part.at part.bytes) (s.text part.koid part.page))
    (shows-here part.koid (page_below s.content s.link) part.koid part.page)

module _ (old new : Content) (backing : ℕ → Option Backing) (link : ℕ → Option Link) (smaller : AreSmaller link) (v p at : ℕ) (bytes whole : List ℕ)
    (good : IsGood old) (h : p < pages_of old v) (fits : at + length bytes ≤ PAGE)
    (is : whole ≡ replaced (walked old backing (page_below old link) v p) at bytes)
    (w : WritesPiece old (record { koid = v; page = p; at = 0; bytes = whole }) new) where
  abbrev part : Piece
  part = record { koid = v; page = p; at = at; bytes = bytes }

  abbrev before : Below
  before = page_below old link

  abbrev after : Below
  after = page_below new link

  size : length whole ≡ PAGE
  size = ap (λ (xs : List ℕ). length xs) is ∙ (length-replaced (walked old backing before v p) at bytes
      (omega (arith, fits, length-walked old backing before v p good)) ∙ length-walked old backing before v p good)

  pub Written-filled : Written old v p new
  Written-filled = Written-from_WritesPiece old (record { koid = v; page = p; at = 0; bytes = whole }) new good h (omega (arith, size)) w

  owned : Owned old w.owned v p w.tag
  owned = Owned-from_Owns old w.owned v p w.tag good h w.owns

  now_held : new.page v p ≡ Some (record { tag = w.tag; bytes = whole })
  now_held =
      let shown_size = length-shown w.owned v p owned.good in
      let same : replaced (shown w.owned v p) 0 whole ≡ whole = replaced-whole (shown w.owned v p) whole (shown_size ∙ sym size) in
      ap (λ (c : Content). c.page v p) w.bytes ∙ (page-hold_here w.owned v p _ ∙ ap (λ (xs : List ℕ). Some (record { tag = w.tag; bytes = xs })) same)

  others : (u q : ℕ) → (u ≡ v → q ≡ p → ⊥) → after u q ≡ before u q
  others u q apart = below-same old new link link u q (ap is_some (Written-other old new v p Written-filled u q apart)) refl

  -- the page has its bytes in each page that shows it, and in no other
  text_at : (u q : ℕ) → walked new backing after u q ≡ cond (shows_through before v p u q) (replaced (walked old backing before u q) at bytes) (walked old backing before u q)
  unfolding walked text_over held_text
  text_at u q = go (shows_through before v p u q) refl where
    ends : (bit : Bool) → shows_through before v p u q ≡ bit
        → read_end after u q ≡ cond bit (record { koid = v; page = p }) (read_end before u q)
    ends bit e = end_cut before after v p (below-held new link v p _ now_held) others u u q
        ∙ ap (λ (t : Bool). cond t (record { koid = v; page = p }) (read_end before u q)) e

    go : (bit : Bool) → shows_through before v p u q ≡ bit
        → text_over new backing (read_end after u q).koid (read_end after u q).page
        ≡ cond bit (replaced (text_over old backing (read_end before u q).koid (read_end before u q).page) at bytes) (text_over old backing (read_end before u q).koid (read_end before u q).page)
    go true e =
        ap (λ (a : VmoPage). text_over new backing a.koid a.page) (ends true e)
        ∙ (ap (λ (o : Option Page). held_text o (backing_text (backing v) p)) now_held
        ∙ (is ∙ ap (λ (a : VmoPage). replaced (text_over old backing a.koid a.page) at bytes) (sym (shown_end before (goes_down old link smaller) u v p u q (omega arith) e))))
    go false e =
        ap (λ (a : VmoPage). text_over new backing a.koid a.page) (ends false e)
        ∙ ap (λ (o : Option Page). held_text o (backing_text (backing (read_end before u q).koid) (read_end before u q).page))
        (Written-other old new v p Written-filled (read_end before u q).koid (read_end before u q).page (not_shown before u v p u q e))

  pub Fills-from : (names : ℕ → Option ℕ) → Fills (state_over old names backing link) part (state_over new names backing link)
  unfolding pushed
  Fills-from names = record {
    content = subst (λ (xs : List ℕ). WritesPiece old (record { koid = v; page = p; at = 0; bytes = xs }) new)
        (is ∙ sym (pushed-here (state_over old names backing link) part)) w;
    rest = λ i. record (state_over old names backing link) { content = new; text = λ u q. text_at u q i };
  }
