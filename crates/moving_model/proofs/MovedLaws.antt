-- Laws of pages that moved: seen page by page, that is a renaming of frames.
use Rattle.std.proofs.Common.{◌≡◌, ℕ, ◌<◌, Bool, true, false, Option, None, Some, refl, sym, ap, subst, ◌∙◌}
use Rattle.std.specs.Prelude.{is_some}
use Rattle.std.specs.Option.{option_map}
use Rattle.vm_base.proofs.EntryLaws.{some_same, some_is}
use Rattle.vm_model.specs.Contents.Content.{Page, in_use}
use Rattle.vm_model.specs.Machine.Step.{frame_of}
use Rattle.vm_model.specs.Machine.State.{State, IsGoodState}
use Rattle.vm_model.proofs.ContentLaws.{in_use_found, in_use_at, bytes_of-some}
use Rattle.moving_model.specs.Renaming.{Renaming, KeepsFrom, KeepsPinned, page_renamed, state_renamed}
use Rattle.moving_model.specs.Moving.{HasMoved}
use Rattle.moving_model.proofs.NumberLaws.{to_once, to_below}
use Rattle.moving_model.proofs.PageLaws.{shown-renamed, is_held-renamed}
use Rattle.moving_model.proofs.ChangeLaws.{renamed_held}
use Rattle.moving_model.proofs.KeptLaws.{frame_of-held}
use Rattle.moving_model.proofs.GroupLaws.{extends}

module _ (old new : State) (good : IsGoodState old) (moved : HasMoved old new) where
  -- a page that was held is held
  held_then : (v p : ℕ) (held : Page) → old.content.page v p ≡ Some held → (page : Page) × (new.content.page v p ≡ Some page)
  held_then v p held e = some_is (new.content.page v p) (moved.held v p ∙ ap is_some e)

  -- the frame that pages with this frame have now
  moved_at : (t : ℕ) (b : Bool) → in_use old.content t ≡ b → ℕ
  moved_at t true e = let found = in_use_found old.content t e in frame_of (new.content.page found.0 found.1)
  moved_at t false e = t

  moved_to : ℕ → ℕ
  moved_to t = moved_at t (in_use old.content t) refl

  moved_at-is : (v p : ℕ) (held page : Page) → old.content.page v p ≡ Some held → new.content.page v p ≡ Some page → (t : ℕ) → held.tag ≡ t
      → (b : Bool) (e : in_use old.content t ≡ b) → moved_at t b e ≡ page.tag
  unfolding moved_at
  moved_at-is v p held page e f t same true used =
      let found = in_use_found old.content t used in
      let now = held_then found.0 found.1 found.2 found.5 in
      frame_of-held (new.content.page found.0 found.1) now.0 now.1 ∙ moved.together found.0 found.1 v p found.2 held now.0 page found.5 e now.1 f (found.6 ∙ sym same)
  moved_at-is v p held page e f t same false used = absurd (let is = in_use_at old.content t v p held good.content e same in cc)

  moved_to-is : (v p : ℕ) (held page : Page) → old.content.page v p ≡ Some held → new.content.page v p ≡ Some page → moved_to held.tag ≡ page.tag
  unfolding moved_to
  moved_to-is v p held page e f = moved_at-is v p held page e f held.tag refl (in_use old.content held.tag) refl

  -- a frame in use is that of a page, and the page has a frame now
  record InUse (t : ℕ) : Type 0 where
    pub koid : ℕ
    pub number : ℕ
    pub before : Page
    pub was : old.content.page koid number ≡ Some before
    pub tag_is : before.tag ≡ t
    pub after : Page
    pub is : new.content.page koid number ≡ Some after

  used_page : (t : ℕ) → in_use old.content t ≡ true → InUse t
  used_page t e =
      let found = in_use_found old.content t e in
      let now = held_then found.0 found.1 found.2 found.5 in
      record { koid = found.0; number = found.1; before = found.2; was = found.5; tag_is = found.6; after = now.0; is = now.1 }

  used_to : (t : ℕ) (page : InUse t) → moved_to t ≡ page.after.tag
  used_to t page = ap moved_to (sym page.tag_is) ∙ moved_to-is page.koid page.number page.before page.after page.was page.is

  frames_same : new.content.frames ≡ old.content.frames
  frames_same = ap (λ (s : State). s.content.frames) moved.rest

  permutation : (by : Renaming) × KeepsFrom by old.content.frames × ((t : ℕ) → t < old.content.frames → in_use old.content t ≡ true → by.to t ≡ moved_to t)
  permutation = extends old.content.frames (in_use old.content) moved_to
      (λ t h e.
      let page = used_page t e in
      subst (λ (n : ℕ). n < old.content.frames) (sym (used_to t page)) (subst (λ (n : ℕ). page.after.tag < n) frames_same (moved.tags page.koid page.number page.after page.is)))
      (λ t u h l e f same.
      let a = used_page t e in
      let b = used_page u f in
      sym a.tag_is ∙ (moved.apart a.koid a.number b.koid b.number a.before b.before a.after b.after a.was b.was a.is b.is (sym (used_to t a) ∙ (same ∙ used_to u b)) ∙ b.tag_is))

  -- each page has the frame that its own is renamed to
  page_is : (r : Renaming) → ((t : ℕ) → t < old.content.frames → in_use old.content t ≡ true → r.to t ≡ moved_to t) → (v p : ℕ) → new.content.page v p ≡ option_map (page_renamed r) (old.content.page v p)
  page_is r does v p = go (old.content.page v p) (new.content.page v p) refl refl where
    go : (o n : Option Page) → old.content.page v p ≡ o → new.content.page v p ≡ n → n ≡ option_map (page_renamed r) o
    go None None e f = refl
    go None (Some page) e f = absurd (let a = sym (ap is_some f) ∙ (moved.held v p ∙ ap is_some e) in cc)
    go (Some held) None e f = absurd (let a = sym (ap is_some f) ∙ (moved.held v p ∙ ap is_some e) in cc)
    go (Some held) (Some page) e f =
        let tag : page.tag ≡ r.to held.tag = sym (moved_to-is v p held page e f) ∙ sym (does held.tag (good.content.tags v p held e) (in_use_at old.content held.tag v p held good.content e refl)) in
        let bytes : page.bytes ≡ held.bytes = sym (bytes_of-some (new.content.page v p) page f) ∙ (moved.bytes v p ∙ bytes_of-some (old.content.page v p) held e) in
        λ i. Some (record { tag = tag i; bytes = bytes i })

  -- Pages that moved are renamed.
  pub moved-renamed : (r : Renaming) × KeepsFrom r old.content.frames × KeepsPinned r old × (new ≡ state_renamed r old)
  moved-renamed =
      let all = permutation in
      let r = all.0 in (
        r,
        all.1,
        λ v p held pinned e.
            let now = held_then v p held e in
            all.2 held.tag (good.content.tags v p held e) (in_use_at old.content held.tag v p held good.content e refl) ∙ (moved_to-is v p held now.0 e now.1 ∙ moved.pinned v p held now.0 pinned e now.1),
        moved.rest ∙ (λ i. record old { content = record (old.content) { page = λ v p. page_is r all.2 v p i } }),
      )

-- and pages that are renamed have moved
pub renamed-moved : (r : Renaming) (old : State) → IsGoodState old → KeepsFrom r old.content.frames → KeepsPinned r old → HasMoved old (state_renamed r old)
renamed-moved r old good keeps kept = record {
  rest = refl;
  held = λ v p. is_held-renamed r old.content v p;
  bytes = λ v p. shown-renamed r old.content v p;
  together = λ v p w q a b c d e f g h same. tag_now v p a c e g ∙ (ap r.to same ∙ sym (tag_now w q b d f h));
  apart = λ v p w q a b c d e f g h same. to_once r a.tag b.tag (sym (tag_now v p a c e g) ∙ (same ∙ tag_now w q b d f h));
  tags = λ v p held e.
      let was = renamed_held r (old.content.page v p) held e in
      subst (λ (page : Page). page.tag < old.content.frames) (sym was.2) (to_below r old.content.frames was.0.tag keeps (good.content.tags v p was.0 was.1));
  pinned = λ v p before after pinned e f. tag_now v p before after e f ∙ kept v p before pinned e;
} where
  tag_now : (v p : ℕ) (a c : Page) → old.content.page v p ≡ Some a → option_map (page_renamed r) (old.content.page v p) ≡ Some c → c.tag ≡ r.to a.tag
  tag_now v p a c e f = sym (ap (λ (page : Page). page.tag) (some_same (sym (ap (option_map (page_renamed r)) e) ∙ f)))
