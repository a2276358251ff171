-- Frames: which page shows one, which VMOs do, and bytes that are written to one.
use Rattle.std.proofs.Common.{◌≡◌, ℕ, ◌+◌, ◌<◌, ◌≤◌, true, List, length, take, drop, None, Some, IsSome, refl, sym, ap, subst, ◌∙◌, arith, add-one}
use Rattle.std.specs.Prelude.{is_some}
use Rattle.std.specs.Option.{option_map}
use Rattle.vm_base.specs.declared.limits.TheConstants.{PAGE}
use Rattle.vm_base.specs.declared.names.Tag.{Tag}
use Rattle.vm_base.specs.Pages.{replaced}
use Rattle.vm_base.specs.Search.{count_below}
use Rattle.vm_base.specs.Entries.{with_key}
use Rattle.vm_base.proofs.SearchLaws.{count_below_gap, bit-true}
use Rattle.vm_base.proofs.EntryLaws.{some_is}
use Rattle.frame_pool.specs.Pool.{Pool, taken_frames, frame_bytes}
use Rattle.pair_map.specs.Maps.{values_of, IsNext}
use Rattle.vm_model.specs.Contents.Content.{Content, Page, views, sole, hold}
use Rattle.vm_model.specs.Contents.Sharing.{viewers, IsLeastViewer}
use Rattle.vm_model.specs.Space.Readiness.{frame_at}
use Rattle.vm_model.proofs.ContentLaws.{sole_from, bytes_of-some}
use Rattle.page_store.specs.Pages.{ShowsTag, IsShown, IsShownOnce, AreBytesOf, Overwrites}
use Rattle.page_store.specs.Flat.{Flat, flat_content, IsFlat}
use Rattle.page_store.proofs.RowLaws.{page_row, frame_row, viewer_of, views-is, koid_low}
use Rattle.page_store.proofs.ChangeLaws.{content-overwritten, IsFlat-overwritten}

module _ (f : Flat) (flat : IsFlat f) (t : ℕ) where
  -- a frame that some page shows is taken
  pub shown_taken : IsShown (flat_content f) t → IsSome (taken_frames f.pool t)
  shown_taken s = subst (λ (u : ℕ). IsSome (taken_frames f.pool u)) s.shows.tag (flat.linked.taken s.held.tag s.v s.p (viewer_of f flat s.v s.p s.held s.shows.page))

  pub frame_of_shown : (v p : ℕ) (held : Page) → ShowsTag (flat_content f) t v p held → held.bytes ≡ frame_bytes f.pool t
  frame_of_shown v p held shows =
      let row = page_row f v p held shows.page in
      sym (ap (λ (page : Page). page.bytes) row.2) ∙ ap (frame_bytes f.pool) (ap (λ (page : Page). page.tag) row.2 ∙ shows.tag)

  pub bytes_shown : (at : ℕ) (out : List ℕ) (n : ℕ) → length out ≡ n → out ≡ take n (drop at (frame_bytes f.pool t)) → AreBytesOf (flat_content f) t at out
  bytes_shown at out n len is v p held shows =
      is ∙ (ap (λ (k : ℕ). take k (drop at (frame_bytes f.pool t))) (sym len) ∙ ap (λ (bs : List ℕ). take (length out) (drop at bs)) (sym (frame_of_shown v p held shows)))

  -- some VMO shows it, so one is found
  pub some_viewer : IsShown (flat_content f) t → IsNext (values_of f.viewers t) 0 None → ⊥
  some_viewer s next =
      let there = subst (λ (u : ℕ). values_of f.viewers u s.v ≡ Some s.p) s.shows.tag (viewer_of f flat s.v s.p s.held s.shows.page) in
      let none = next.none refl s.v (omega arith) in
      absurd cc

-- a frame without viewers is that of no page
pub none_shown : (f : Flat) (flat : IsFlat f) (tag : Tag) → IsNext (values_of f.viewers tag.0) 0 None
    → (v p : ℕ) → frame_at (flat_content f) v p ≡ Some tag.0 → ⊥
none_shown f flat tag next v p e =
    let there = flat.linked.there v p tag (frame_row f v p tag e) in
    let none = next.none refl v (omega arith) in
    absurd cc

-- ---- a frame that one page shows

pub frame_shown : (f : Flat) (tag : Tag) (v p : ℕ) (held : Page) → ShowsTag (flat_content f) tag.0 v p held → frame_at (flat_content f) v p ≡ Some tag.0
frame_shown f tag v p held shows = ap (option_map (λ (page : Page). page.tag)) shows.page ∙ ap (λ (t : ℕ). Some t) shows.tag

pub once_sole : (f : Flat) (tag : Tag) (v p : ℕ) (held : Page) → IsShownOnce (flat_content f) tag.0 → ShowsTag (flat_content f) tag.0 v p held
    → sole (flat_content f) v p ≡ true
once_sole f tag v p held once shows = sole_from (flat_content f) v p held shows.page (λ w q other apart e same.
    let here = once.shows.alone v p held shows in
    let there = once.shows.alone w q other (record { page = e; tag = same ∙ shows.tag }) in
    apart (there.0 ∙ sym here.0))

module _ (f : Flat) (flat : IsFlat f) (tag : Tag) where
  -- bytes that are written to a frame that one page shows
  pub overwrites : (pool : Pool) (at : ℕ) (bytes : List ℕ) → IsShownOnce (flat_content f) tag.0 → pool.frames ≡ f.pool.frames
      → taken_frames pool ≡ with_key (taken_frames f.pool) tag.0 (replaced (frame_bytes f.pool tag.0) at bytes)
      → Overwrites (flat_content f) (flat_content (record f { pool = pool })) tag.0 at bytes
  overwrites pool at bytes once frames taken v p held shows =
      content-overwritten f v p tag pool at bytes flat (once_sole f tag v p held once shows) (frame_shown f tag v p held shows) frames taken
      ∙ λ i. hold (flat_content f) v p (record { tag = sym shows.tag i; bytes = replaced (bytes_of-some ((flat_content f).page v p) held shows.page i) at bytes })

  pub stays_flat : (pool : Pool) (at : ℕ) (bytes : List ℕ) (once : IsShownOnce (flat_content f) tag.0) → pool.frames ≡ f.pool.frames
      → taken_frames pool ≡ with_key (taken_frames f.pool) tag.0 (replaced (frame_bytes f.pool tag.0) at bytes)
      → at + length bytes ≤ PAGE → IsFlat (record f { pool = pool })
  stays_flat pool at bytes once frames taken range =
      IsFlat-overwritten f once.v once.p tag pool at bytes flat (once_sole f tag once.v once.p once.held once once.shows.shows)
      (frame_shown f tag once.v once.p once.held once.shows.shows) frames taken range

  -- the first of the viewers
  pub least-is : (koid : ℕ) → IsNext (values_of f.viewers tag.0) 0 (Some koid) → IsLeastViewer (flat_content f) tag.0 koid
  least-is koid next =
      let least = next.least koid refl in
      record {
        shows = views-is f flat tag.0 koid ∙ least.1;
        least = λ w h. views-is f flat tag.0 w ∙ ap is_some (least.2 w (omega arith) h);
      }

  -- one more, and the end
  pub viewers-next : (from koid : ℕ) → IsNext (values_of f.viewers tag.0) from (Some koid)
      → count_below (koid + 1) (views (flat_content f) tag.0) ≡ count_below from (views (flat_content f) tag.0) + 1
  unfolding count_below
  viewers-next from koid next =
      let least = next.least koid refl in
      let gap = count_below_gap from koid (views (flat_content f) tag.0) least.0 (λ k low less. views-is f flat tag.0 k ∙ ap is_some (least.2 k low less)) in
      rw (add-one koid) (omega (arith, gap, bit-true (views (flat_content f) tag.0 koid) (views-is f flat tag.0 koid ∙ least.1)))

  pub viewers-end : (from : ℕ) → from ≤ f.next → IsNext (values_of f.viewers tag.0) from None
      → count_below from (views (flat_content f) tag.0) ≡ viewers (flat_content f) tag.0
  unfolding viewers
  viewers-end from low next = sym (count_below_gap from f.next (views (flat_content f) tag.0) low (λ k over less. views-is f flat tag.0 k ∙ ap is_some (next.none refl k over)))

  pub viewer_low : (from koid : ℕ) → IsNext (values_of f.viewers tag.0) from (Some koid) → koid < f.next
  viewer_low from koid next =
      let page = some_is (values_of f.viewers tag.0 koid) (next.least koid refl).1 in
      koid_low f flat koid page.0 (record { 0 = tag.0 }) (flat.linked.back tag.0 koid page.0 page.1)

pub IsShown-once : (c : Content) (t : ℕ) → IsShownOnce c t → IsShown c t
IsShown-once c t once = record { v = once.v; p = once.p; held = once.held; shows = once.shows.shows }
