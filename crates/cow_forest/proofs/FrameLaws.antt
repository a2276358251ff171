-- Looking at pages, and reading and writing the bytes of a frame.
use Rattle.cow_forest.proofs.Words.{◌≡◌, ◌≢◌, ℕ, List, [], Option, None, Some, IsSome, refl, sym, ap, subst, ◌∙◌, arith, unwrap_or}
use Rattle.cow_forest.proofs.Words.{nat_tests, Tag, with_key, with_key-same, with_key-other, Page, is_sole_page, sole, hold, Backlink, Pool}
use Rattle.cow_forest.proofs.Words.{taken_frames, is_taken, frame_bytes, links_of, frame_shown, IsExact, all_in_sight, IsPage, AreLinked}
use Rattle.cow_forest.proofs.Words.{look_at, tag_held, ShowsTag, IsShown, IsShownOnce, Overwrites, IsLook, ShowsFrameOrNone, Forest, tree}
use Rattle.cow_forest.proofs.Words.{forest_content, page_with_frame, page_showing, HasNode, IsStore}
use Rattle.std.proofs.Common.{true, cond, ◌==◌}
use Rattle.std.specs.Prelude.{is_some}
use Rattle.std.specs.Cmp.{both_ways}
use Rattle.vm_base.specs.Pages.{replaced}
use Rattle.cow_split.proofs.RowLaws.{frame-in_use, exact-in_use_alike}
use Rattle.page_store.specs.declared.page_store.Look.{Look}
use Rattle.page_store.specs.declared.page_store.Look.TheVariants as look
use Rattle.cow_forest.proofs.ContentLaws.{HasPage, ShownBy, page-of, page-shown, shown-page, vmo-shows, sole-last, one-node}
use Rattle.cow_forest.proofs.StoreLaws.{IsChangedAt, store-kept, content-held}

module _ (f : Forest) (s : IsStore f) where
  -- what a look at the VMO's node answers
  pub look-of : (v k p : ℕ) (answer : Look) → HasPage f v k p → IsLook (tree f) k p answer → answer ≡ look_at (forest_content f) v ((forest_content f).page v p)
  look-of v k p look.Zero h zero = ap (look_at (forest_content f) v) (sym (page-of f s v k p h.node ∙ ap (page_showing f.pool) zero))
  look-of v k p (look.Held tag alone) h held =
      let shown : ShownBy f v k p tag.0 = record { page = h; frame = held.0 } in
      let page_is : (forest_content f).page v p ≡ Some (page_with_frame f.pool tag.0) = page-of f s v k p h.node ∙ ap (page_showing f.pool) held.0 in
      let last = sole-last f s v k p tag.0 shown in
      let same : alone ≡ sole (forest_content f) v p = both_ways alone (sole (forest_content f) v p) (λ e. last.1 (held.1.0 e)) (λ e. held.1.1 (last.0 e)) in
      ap (look.Held tag) (same ∙ ap (is_sole_page (forest_content f) v) page_is) ∙ ap (look_at (forest_content f) v) (sym page_is)

  -- which frame the VMO's node shows
  pub frame-from : (v k p : ℕ) (answer : Option Tag) → HasPage f v k p → ShowsFrameOrNone (tree f) k p answer → answer ≡ tag_held ((forest_content f).page v p)
  frame-from v k p None h zero = ap tag_held (sym (page-of f s v k p h.node ∙ ap (page_showing f.pool) zero))
  frame-from v k p (Some tag) h held = ap tag_held (sym (page-of f s v k p h.node ∙ ap (page_showing f.pool) held))

  -- the frame of a page that is held is taken
  pub held-taken : (v p t : ℕ) (held : Page) → ShowsTag (forest_content f) t v p held → IsSome (taken_frames f.pool t)
  held-taken v p t held shows =
      let it = shown-page f s v p held shows.page in
      subst (λ u. IsSome (taken_frames f.pool u)) shows.tag (frame-in_use (tree f) all_in_sight (is_taken f.pool) s.exact it.0 p held.tag it.1.frame)

  pub shown-taken : (t : ℕ) → IsShown (forest_content f) t → IsSome (taken_frames f.pool t)
  shown-taken t shown = held-taken shown.v shown.p t shown.held shown.shows

  pub once-taken : (t : ℕ) → IsShownOnce (forest_content f) t → IsSome (taken_frames f.pool t)
  once-taken t once = held-taken once.v once.p t once.held once.shows.shows

-- a number that was given a value has one
is_some-with_key : (m : ℕ → Option (List ℕ)) (t : ℕ) (bytes : List ℕ) (u : ℕ) → is_some (with_key m t bytes u) ≡ cond (t == u) true (is_some (m u))
unfolding with_key
is_some-with_key m t bytes u = grind (arith, nat_tests)

-- bytes are written to a frame that one page shows
module _ (f : Forest) (s : IsStore f) (pool : Pool) (t at : ℕ) (bytes : List ℕ) (once : IsShownOnce (forest_content f) t)
    (frames : pool.frames ≡ f.pool.frames) (links : links_of pool ≡ links_of f.pool)
    (taken : taken_frames pool ≡ with_key (taken_frames f.pool) t (replaced (frame_bytes f.pool t) at bytes)) where
  abbrev written : List ℕ
  written = replaced (frame_bytes f.pool t) at bytes

  as-taken : (u : ℕ) → is_taken f.pool u ≡ is_taken pool u
  as-taken u = let here = once-taken f s t once in rw (taken, is_some-with_key (taken_frames f.pool) t written u) (grind (arith, nat_tests))

  still-exact : IsExact (tree f) all_in_sight (is_taken pool)
  still-exact = exact-in_use_alike (tree f) all_in_sight (is_taken f.pool) (is_taken pool) as-taken s.exact

  still-linked : AreLinked f.rows pool
  still-linked = record { linked = λ l q row tag at frame. ap (λ (link : ℕ → Backlink). link tag) links ∙ s.linked.linked l q row tag at frame }

  pub store-written : IsStore (record f { pool = pool })
  store-written = store-kept f f.rows pool s still-exact still-linked

  -- the page that shows the frame changes alone
  changed : (v k p : ℕ) → ShownBy f v k p t → IsChangedAt f f.rows pool k p
  changed v k p shown = record {
    exact = still-exact;
    linked = still-linked;
    frames = frames;
    others = λ w q page away. refl;
    bytes = λ w q u page away frame.
        let apart : u ≢ t = λ same. away (one-page w q page (frame ∙ ap (λ x. Some x) same)) in
        ap (λ (map : ℕ → Option (List ℕ)). unwrap_or (map u) []) taken
        ∙ ap (λ (o : Option (List ℕ)). unwrap_or o []) (with_key-other (taken_frames f.pool) t written u apart);
  }
    where
      one-page : (w q : ℕ) → IsPage (tree f) w q → frame_shown (tree f) w q ≡ Some t → (w ≡ k) × (q ≡ p)
      one-page w q page frame =
          let other = vmo-shows f s w q t page frame in
          let its = page-shown f s other.0 w q t other.1 in
          let held = page-shown f s v k p t shown in
          let there = once.shows.alone other.0 q its.0 its.1 in
          let here = once.shows.alone v p held.0 held.1 in
          (one-node f s v w k (subst (λ x. HasNode f x w) (there.0 ∙ sym here.0) other.1.page.node) shown.page.node, there.1 ∙ sym here.1)

  pub overwrites : Overwrites (forest_content f) (forest_content (record f { pool = pool })) t at bytes
  overwrites v p held shows =
      let it = shown-page f s v p held shows.page in
      let shown : ShownBy f v it.0 p t = subst (λ u. ShownBy f v it.0 p u) shows.tag it.1 in
      let same : frame_bytes f.pool t ≡ held.bytes = sym (it.2 ∙ ap (frame_bytes f.pool) shows.tag) in
      let now : frame_bytes pool t ≡ replaced held.bytes at bytes =
      ap (λ (map : ℕ → Option (List ℕ)). unwrap_or (map t) []) taken
      ∙ (ap (λ (o : Option (List ℕ)). unwrap_or o []) (with_key-same (taken_frames f.pool) t written) ∙ ap (λ xs. replaced xs at bytes) same) in
      let page : page_with_frame pool t ≡ record held { bytes = replaced held.bytes at bytes } = λ i. record { tag = sym shows.tag i; bytes = now i } in
      content-held f f.rows pool v it.0 p s shown.page.node (changed v it.0 p shown) t shown.frame ∙ ap (hold (forest_content f) v p) page
