-- Laws of filling a page, and of what a page shows.
use Rattle.std.proofs.Common.{◌≡◌, ℕ, ◌+◌, ◌<◌, ◌≤◌, false, List, length, take, drop, Option, None, Some, sym, ap, ◌∙◌, arith}
use Rattle.std.specs.Prelude.{nat_eq}
use Rattle.std.specs.Cmp.Lexicographic.{pointwise}
use Rattle.std.proofs.lemmas.List.{take_all}
use Rattle.vm_base.specs.declared.limits.TheConstants.{PAGE}
use Rattle.vm_base.specs.Pages.{replaced}
use Rattle.vm_base.proofs.PageLaws.{length-replaced}
use Rattle.vm_model.specs.Contents.Content.{Content, Page, IsGood, pages_of, shown, hold}
use Rattle.vm_model.specs.Contents.Writing.{Piece, WritesPiece}
use Rattle.vm_model.proofs.ContentLaws.{bytes_of-some}
use Rattle.vm_model.proofs.OwningLaws.{Owned-from_Owns, length-shown}
use Rattle.vm_model.proofs.WritingLaws.{Written, Written-from_WritesPiece}
use Rattle.source_model.specs.declared.backing.Backing.{Backing}
use Rattle.source_model.specs.Sources.{backing_text, held_text, text_over}
use Rattle.source_model.specs.Links.{page_below, walked}
use Rattle.source_model.specs.State.{SourceState, state_over, pushed}
use Rattle.source_model.proofs.FillingLaws.{replaced-whole}
use Rattle.source_model.proofs.LinkLaws.{below-held, walked-end, length-walked}
use Rattle.source_model.proofs.FilledLaws.{Fills-from, pushed-here}
use Rattle.source_vm.specs.Pages.{Backings, LooseLinks, IsReadable, FillsPage, is_clean_page}

-- ---- a page that is filled

module _ (bs : Backings) (ls : LooseLinks) (old new : Content) (v p at : ℕ) (bytes : List ℕ) (readable : IsReadable old bs ls) (h : p < pages_of old v) (fits : at + length bytes ≤ PAGE) where
  -- its whole text is written
  pub FillsPage-from : (whole : List ℕ) → whole ≡ replaced (walked old bs (page_below old ls) v p) at bytes
      → WritesPiece old (record { koid = v; page = p; at = 0; bytes = whole }) new → FillsPage bs ls old (record { koid = v; page = p; at = at; bytes = bytes }) new
  FillsPage-from whole is w = record {
    each = λ names. Fills-from old new bs ls readable.smaller v p at bytes whole readable.good h fits is w names;
  }

  -- it is held, and has the bytes written
  pub FillsPage-held : (held : Page) → old.page v p ≡ Some held → WritesPiece old (record { koid = v; page = p; at = at; bytes = bytes }) new
      → FillsPage bs ls old (record { koid = v; page = p; at = at; bytes = bytes }) new
  unfolding text_over held_text
  FillsPage-held held is w =
      let good = readable.good in
      let owned = Owned-from_Owns old w.owned v p w.tag good h w.owns in
      let shows : shown w.owned v p ≡ held.bytes = bytes_of-some (w.owned.page v p) _ owned.held ∙ bytes_of-some (old.page v p) held is in
      let whole : List ℕ = replaced held.bytes at bytes in
      let size : length whole ≡ PAGE = length-replaced held.bytes at bytes (omega (arith, fits, good.whole v p held is)) ∙ good.whole v p held is in
      let both : replaced (shown w.owned v p) at bytes ≡ replaced (shown w.owned v p) 0 whole =
      ap (λ (xs : List ℕ). replaced xs at bytes) shows ∙ sym (replaced-whole (shown w.owned v p) whole (length-shown w.owned v p owned.good ∙ sym size)) in
      let own : walked old bs (page_below old ls) v p ≡ held.bytes =
      walked-end old bs (page_below old ls) v p (below-held old ls v p held is) ∙ ap (λ (o : Option Page). held_text o (backing_text (bs v) p)) is in
      FillsPage-from whole (ap (λ (xs : List ℕ). replaced xs at bytes) (sym own)) (record {
        tag = w.tag;
        owned = w.owned;
        owns = w.owns;
        bytes = w.bytes ∙ ap (λ (xs : List ℕ). hold w.owned v p (record { tag = w.tag; bytes = xs })) both;
      })

  -- a page that was filled is one that was written, for all that a loop asks
  pub Written-from_fills : FillsPage bs ls old (record { koid = v; page = p; at = at; bytes = bytes }) new → Written old v p new
  Written-from_fills fills =
      let s : SourceState = state_over old (λ n. None) bs ls in
      let part : Piece = record { koid = v; page = p; at = at; bytes = bytes } in
      let before = length-walked old bs (page_below old ls) v p readable.good in
      let size : length (pushed s part v p) ≡ PAGE = ap (λ (xs : List ℕ). length xs) (pushed-here s part)
      ∙ (length-replaced (walked old bs (page_below old ls) v p) at bytes (omega (arith, fits, before)) ∙ before) in
      Written-from_WritesPiece old (record { koid = v; page = p; at = 0; bytes = pushed s part v p }) new readable.good h (omega (arith, size))
      (fills.each (λ n. None)).content

-- pages that change leave what may be looked up
pub IsReadable-kept : (bs : Backings) (ls : LooseLinks) (old new : Content) → IsReadable old bs ls → IsGood new → ((w : ℕ) → pages_of new w ≡ pages_of old w) → IsReadable new bs ls
IsReadable-kept bs ls old new readable good pages = record {
  good = good;
  sources = readable.sources;
  smaller = readable.smaller;
  inside = λ v l e some. omega (arith, readable.inside v l e some, pages l.parent.0);
  either = readable.either;
}

-- ---- what a page has

pub text-held : (c : Content) (bs : Backings) (v p : ℕ) (held : Page) → c.page v p ≡ Some held → text_over c bs v p ≡ held.bytes
unfolding text_over held_text
text-held c bs v p held e = ap (λ (o : Option Page). held_text o (backing_text (bs v) p)) e

pub text-free : (c : Content) (bs : Backings) (v p : ℕ) → c.page v p ≡ None → text_over c bs v p ≡ backing_text (bs v) p
unfolding text_over held_text
text-free c bs v p e = ap (λ (o : Option Page). held_text o (backing_text (bs v) p)) e

-- a whole page that was read
pub read_whole : (out bytes : List ℕ) → length out ≡ PAGE → length bytes ≡ PAGE → out ≡ take (length out) (drop 0 bytes) → out ≡ bytes
read_whole out bytes e f is = is ∙ take_all (length out) bytes (omega (arith, e, f))

-- ---- clean pages

pub clean-zero : (b : Backing) (o : Option Page) (p : ℕ) → o ≡ None → is_clean_page b o p ≡ false
unfolding is_clean_page
clean-zero b o p e = ap (λ (x : Option Page). is_clean_page b x p) e

pub clean-held : (b : Backing) (o : Option Page) (p : ℕ) (held : Page) → o ≡ Some held → is_clean_page b o p ≡ pointwise nat_eq held.bytes (backing_text (Some b) p)
unfolding is_clean_page
clean-held b o p held e = ap (λ (x : Option Page). is_clean_page b x p) e
