-- Laws of changes of contents under other numbers of frames: what a change leads to, renamed, is what the change of the renamed
-- content leads to.
use Rattle.std.proofs.Common.{◌≡◌, ℕ, ◌+◌, Bool, true, false, cond, ◌&&◌, ◌==◌, List, [], ◌∷◌, replicate, Option, None, Some, refl, sym, ap, subst, ◌∙◌}
use Rattle.std.specs.Prelude.{nat_lt}
use Rattle.std.specs.Option.{option_map}
use Rattle.vm_base.specs.Entries.{with_key}
use Rattle.vm_base.specs.Pages.{replaced}
use Rattle.vm_base.proofs.EntryLaws.{some_same}
use Rattle.vm_model.specs.Contents.Content.{Page, Content, shown, is_held, pages_of, sole, hold}
use Rattle.vm_model.specs.Contents.Owning.{VmoPage, Owns, OwnsEach}
use Rattle.vm_model.specs.Contents.Sharing.{page_seen, snapshotted, only}
use Rattle.vm_model.specs.Contents.Writing.{Piece, piece, WritesPiece, Writes}
use Rattle.vm_model.specs.Contents.Zeroing.{is_within, zeroed, resized, is_cleared, ZeroesPage, Zeroes}
use Rattle.moving_model.specs.Renaming.{Renaming, KeepsFrom, page_renamed, content_renamed}
use Rattle.moving_model.proofs.NumberLaws.{to_below}
use Rattle.moving_model.proofs.PageLaws.{option-cond, shown-renamed, is_held-renamed, in_use-renamed, sole-renamed, hold-renamed}

-- a renamed page that is held comes from one
pub renamed_held : (r : Renaming) (o : Option Page) (held : Page) → option_map (page_renamed r) o ≡ Some held → (old : Page) × (o ≡ Some old) × (held ≡ page_renamed r old)
renamed_held r None held e = absurd cc
renamed_held r (Some old) held e = (old, refl, sym (some_same e))

-- a page that is held is so under its other number
pub held-renamed : (r : Renaming) (o : Option Page) (held : Page) → o ≡ Some held → option_map (page_renamed r) o ≡ Some (page_renamed r held)
held-renamed r o held e = ap (option_map (page_renamed r)) e

module _ (r : Renaming) where
  -- ---- contents

  pub zeroed-renamed : (c : Content) (v first end : ℕ) → content_renamed r (zeroed c v first end) ≡ zeroed (content_renamed r c) v first end
  unfolding zeroed
  zeroed-renamed c v first end = λ i. record c { page = λ w p. option-cond r ((w == v) && is_within first end p) None (c.page w p) i }

  pub resized-renamed : (c : Content) (v pages : ℕ) → content_renamed r (resized c v pages) ≡ resized (content_renamed r c) v pages
  unfolding resized pages_of
  resized-renamed c v pages = ap (λ (d : Content). record d { count = with_key c.count v pages }) (zeroed-renamed c v pages (pages_of c v))

  pub only-renamed : (c : Content) (stays : ℕ → Bool) → content_renamed r (only c stays) ≡ only (content_renamed r c) stays
  unfolding only
  only-renamed c stays = λ i. record c { count = λ v. cond (stays v) (c.count v) None; page = λ v p. option-cond r (stays v) (c.page v p) None i }

  page_seen-renamed : (c : Content) (v first seen p : ℕ) → option_map (page_renamed r) (page_seen c v first seen p) ≡ page_seen (content_renamed r c) v first seen p
  unfolding page_seen
  page_seen-renamed c v first seen p = option-cond r (nat_lt p seen) (c.page v (first + p)) None

  pub snapshotted-renamed : (c : Content) (v first seen pages : ℕ) → content_renamed r (snapshotted c v first seen pages) ≡ snapshotted (content_renamed r c) v first seen pages
  unfolding snapshotted
  snapshotted-renamed c v first seen pages = λ i. record c {
    next = c.next + 1;
    count = λ w. cond (w == c.next) (Some pages) (c.count w);
    page = λ w p. (option-cond r (w == c.next) (page_seen c v first seen p) (c.page w p)
        ∙ ap (λ (o : Option Page). cond (w == c.next) o (option_map (page_renamed r) (c.page w p))) (page_seen-renamed c v first seen p)) i;
  }

  -- ---- owning

  pub Owns-renamed : (old new : Content) (v p tag : ℕ) → KeepsFrom r old.frames → Owns old new v p tag → Owns (content_renamed r old) (content_renamed r new) v p (r.to tag)
  Owns-renamed old new v p tag keeps owns = record {
    stays = λ alone.
        let stays = owns.stays (sym (sole-renamed r old v p) ∙ alone) in (
          ap (content_renamed r) stays.0,
          λ held e.
              let was = renamed_held r (old.page v p) held e in
              ap r.to (stays.1 was.0 was.1) ∙ sym (ap (λ (page : Page). page.tag) was.2),
        );
    copies = λ shared.
        let copies = owns.copies (sym (sole-renamed r old v p) ∙ shared) in (
          to_below r old.frames tag keeps copies.0,
          in_use-renamed r old tag ∙ copies.1,
          ap (content_renamed r) copies.2 ∙ (hold-renamed r old v p (record { tag = tag; bytes = shown old v p })
              ∙ ap (λ (bytes : List ℕ). hold (content_renamed r old) v p (record { tag = r.to tag; bytes = bytes })) (sym (shown-renamed r old v p))),
        );
  }

  -- owning leaves how many frames there are
  pub Owns-frames : (old new : Content) (v p tag : ℕ) → Owns old new v p tag → new.frames ≡ old.frames
  unfolding hold
  Owns-frames old new v p tag owns = go (sole old v p) refl where
    go : (b : Bool) → sole old v p ≡ b → new.frames ≡ old.frames
    go true e = ap (λ (c : Content). c.frames) (owns.stays e).0
    go false e = ap (λ (c : Content). c.frames) (owns.copies e).2

  pub OwnsEach-renamed : (old : Content) (ws : List VmoPage) (new : Content) → KeepsFrom r old.frames → OwnsEach old ws new → OwnsEach (content_renamed r old) ws (content_renamed r new)
  OwnsEach-renamed old [] new keeps e = ap (content_renamed r) e
  OwnsEach-renamed old (w ∷ ws) new keeps owns =
      let later = subst (KeepsFrom r) (sym (Owns-frames old owns.0 w.koid w.page owns.1 owns.2)) keeps in
      (content_renamed r owns.0, r.to owns.1, Owns-renamed old owns.0 w.koid w.page owns.1 keeps owns.2, OwnsEach-renamed owns.0 ws new later owns.3)

  -- ---- writing

  pub WritesPiece-renamed : (old : Content) (part : Piece) (new : Content) → KeepsFrom r old.frames → WritesPiece old part new → WritesPiece (content_renamed r old) part (content_renamed r new)
  WritesPiece-renamed old part new keeps writes = record {
    tag = r.to writes.tag;
    owned = content_renamed r writes.owned;
    owns = Owns-renamed old writes.owned part.koid part.page writes.tag keeps writes.owns;
    bytes = ap (content_renamed r) writes.bytes
        ∙ (hold-renamed r writes.owned part.koid part.page (record { tag = writes.tag; bytes = replaced (shown writes.owned part.koid part.page) part.at part.bytes })
        ∙ ap (λ (bytes : List ℕ). hold (content_renamed r writes.owned) part.koid part.page (record { tag = r.to writes.tag; bytes = replaced bytes part.at part.bytes }))
        (sym (shown-renamed r writes.owned part.koid part.page)));
  }

  pub WritesPiece-frames : (old : Content) (part : Piece) (new : Content) → WritesPiece old part new → new.frames ≡ old.frames
  unfolding hold
  WritesPiece-frames old part new writes =
      ap (λ (c : Content). c.frames) writes.bytes ∙ Owns-frames old writes.owned part.koid part.page writes.tag writes.owns

  pub Writes-renamed : (parts : List Piece) (old new : Content) → KeepsFrom r old.frames → Writes old parts new → Writes (content_renamed r old) parts (content_renamed r new)
  Writes-renamed [] old new keeps e = ap (content_renamed r) e
  Writes-renamed (part ∷ parts) old new keeps writes =
      let later = subst (KeepsFrom r) (sym (WritesPiece-frames old part writes.0 writes.1)) keeps in
      (content_renamed r writes.0, WritesPiece-renamed old part writes.0 keeps writes.1, Writes-renamed parts writes.0 new later writes.2)

  -- ---- zeroing

  pub ZeroesPage-renamed : (old : Content) (v : ℕ) (pinned : ℕ → Bool) (offset len p : ℕ) (new : Content) → KeepsFrom r old.frames
      → ZeroesPage old v pinned offset len p new → ZeroesPage (content_renamed r old) v pinned offset len p (content_renamed r new)
  ZeroesPage-renamed old v pinned offset len p new keeps zeroes = record {
    cleared = λ e. ap (content_renamed r) (zeroes.cleared e) ∙ zeroed-renamed old v p (p + 1);
    held = λ e h. WritesPiece-renamed old (piece v offset (replicate len 0) p) new keeps (zeroes.held e (sym (is_held-renamed r old v p) ∙ h));
    zero = λ e h. ap (content_renamed r) (zeroes.zero e (sym (is_held-renamed r old v p) ∙ h));
  }

  zeroed-frames : (c : Content) (v first end : ℕ) → (zeroed c v first end).frames ≡ c.frames
  unfolding zeroed
  zeroed-frames c v first end = refl

  pub ZeroesPage-frames : (old : Content) (v : ℕ) (pinned : ℕ → Bool) (offset len p : ℕ) (new : Content) → ZeroesPage old v pinned offset len p new → new.frames ≡ old.frames
  ZeroesPage-frames old v pinned offset len p new zeroes = go (is_cleared pinned offset len p) (is_held old v p) refl refl where
    go : (cleared held : Bool) → is_cleared pinned offset len p ≡ cleared → is_held old v p ≡ held → new.frames ≡ old.frames
    go true held e f = ap (λ (c : Content). c.frames) (zeroes.cleared e) ∙ zeroed-frames old v p (p + 1)
    go false true e f = WritesPiece-frames old (piece v offset (replicate len 0) p) new (zeroes.held e f)
    go false false e f = ap (λ (c : Content). c.frames) (zeroes.zero e f)

  pub Zeroes-renamed : (v : ℕ) (pinned : ℕ → Bool) (offset len : ℕ) (ps : List ℕ) (old new : Content) → KeepsFrom r old.frames
      → Zeroes old v pinned offset len ps new → Zeroes (content_renamed r old) v pinned offset len ps (content_renamed r new)
  Zeroes-renamed v pinned offset len [] old new keeps e = ap (content_renamed r) e
  Zeroes-renamed v pinned offset len (p ∷ ps) old new keeps zeroes =
      let later = subst (KeepsFrom r) (sym (ZeroesPage-frames old v pinned offset len p zeroes.0 zeroes.1)) keeps in
      (content_renamed r zeroes.0, ZeroesPage-renamed old v pinned offset len p zeroes.0 keeps zeroes.1, Zeroes-renamed v pinned offset len ps zeroes.0 new later zeroes.2)
