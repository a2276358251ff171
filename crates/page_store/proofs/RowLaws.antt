-- What the rows say of the content: which frame a page has, which VMOs show a frame, and which pages are sole or charged.
use Rattle.std.proofs.Common.{◌≡◌, ◌⊎◌, ℕ, ◌+◌, ◌<◌, Bool, true, false, Option, None, Some, IsSome, refl, sym, ap, subst, ◌∙◌, inl, inr, arith}
use Rattle.std.specs.Prelude.{is_some}
use Rattle.std.specs.Option.{option_map}
use Rattle.std.specs.Cmp.{both_ways}
use Rattle.std.proofs.lemmas.Bool.{false_from_ne_true}
use Rattle.vm_base.specs.declared.names.Tag.{Tag}
use Rattle.vm_base.proofs.SearchLaws.{count_below_same}
use Rattle.vm_base.proofs.EntryLaws.{some_is, some_same}
use Rattle.frame_pool.specs.Pool.{taken_frames, taken_count}
use Rattle.frame_pool.proofs.PoolLaws.{taken_count-is}
use Rattle.pair_map.specs.Maps.{values_of}
use Rattle.vm_model.specs.Contents.Content.{Page, views, in_use, used, sole}
use Rattle.vm_model.specs.Space.Readiness.{frame_at}
use Rattle.vm_model.proofs.ContentLaws.{views_found, in_use_at, in_use_found, sole_from, sole_alone, sole-zero}
use Rattle.vm_model.proofs.SharingLaws.{views_held, koid_held}
use Rattle.page_store.specs.inside.Rows.{IsAlone, HasOther, HasThird, HasNoThird}
use Rattle.page_store.specs.Flat.{Flat, flat_content, page_with_tag, IsFlat, IsSeenByThird}

-- ---- the row of a page

module _ (f : Flat) (v p : ℕ) where
  -- a page with a row is held with its frame
  pub row_page : (tag : Tag) → values_of f.rows v p ≡ Some tag → (flat_content f).page v p ≡ Some (page_with_tag f.pool tag)
  row_page tag e = ap (option_map (page_with_tag f.pool)) e

  -- a page that is held has a row
  pub page_row : (held : Page) → (flat_content f).page v p ≡ Some held → (tag : Tag) × (values_of f.rows v p ≡ Some tag) × (page_with_tag f.pool tag ≡ held)
  page_row held e = go (values_of f.rows v p) refl e where
    go : (o : Option Tag) → values_of f.rows v p ≡ o → option_map (page_with_tag f.pool) o ≡ Some held → (tag : Tag) × (values_of f.rows v p ≡ Some tag) × (page_with_tag f.pool tag ≡ held)
    go None row is = absurd cc
    go (Some tag) row is = (tag, row, some_same is)

  -- a page that is zero has none
  pub page_bare : (flat_content f).page v p ≡ None → values_of f.rows v p ≡ None
  page_bare e = go (values_of f.rows v p) refl where
    go : (o : Option Tag) → values_of f.rows v p ≡ o → o ≡ None
    go None row = refl
    go (Some tag) row = let held = row_page tag row in absurd cc

  -- the row of a page that has a frame
  pub frame_row : (tag : Tag) → frame_at (flat_content f) v p ≡ Some tag.0 → values_of f.rows v p ≡ Some tag
  frame_row tag frame = go (values_of f.rows v p) frame where
    go : (o : Option Tag) → option_map (λ (held : Page). held.tag) (option_map (page_with_tag f.pool) o) ≡ Some tag.0 → o ≡ Some tag
    go None e = absurd cc
    go (Some u) e = λ i. Some (record { 0 = some_same e i })

-- ---- the VMOs that show a frame

module _ (f : Flat) (flat : IsFlat f) where
  -- the frame of a page that is held is taken, and its VMO is among the viewers
  pub frame_taken : (v p : ℕ) (tag : Tag) → values_of f.rows v p ≡ Some tag → IsSome (taken_frames f.pool tag.0)
  frame_taken v p tag e = flat.linked.taken tag.0 v p (flat.linked.there v p tag e)

  pub viewer_of : (v p : ℕ) (held : Page) → (flat_content f).page v p ≡ Some held → values_of f.viewers held.tag v ≡ Some p
  viewer_of v p held e =
      let row = page_row f v p held e in
      subst (λ (page : Page). values_of f.viewers page.tag v ≡ Some p) row.2 (flat.linked.there v p row.0 row.1)

  -- a viewer shows the frame on a page
  pub page_of_viewer : (t v p : ℕ) → values_of f.viewers t v ≡ Some p → (flat_content f).page v p ≡ Some (page_with_tag f.pool (record { 0 = t }))
  page_of_viewer t v p e = row_page f v p (record { 0 = t }) (flat.linked.back t v p e)

  pub views-is : (t v : ℕ) → views (flat_content f) t v ≡ is_some (values_of f.viewers t v)
  views-is t v = both_ways (views (flat_content f) t v) (is_some (values_of f.viewers t v))
      (λ e.
      let found = views_found (flat_content f) t v e in
      let is : values_of f.viewers t v ≡ Some found.0 = subst (λ (u : ℕ). values_of f.viewers u v ≡ Some found.0) found.4 (viewer_of v found.0 found.1 found.3) in
      ap is_some is)
      (λ e.
      let page = some_is (values_of f.viewers t v) e in
      views_held (flat_content f) t v page.0 (page_with_tag f.pool (record { 0 = t })) flat.good (page_of_viewer t v page.0 page.1) refl)

  -- a frame is taken where some VMO shows it
  pub taken-is : (t : ℕ) → is_some (taken_frames f.pool t) ≡ in_use (flat_content f) t
  taken-is t = both_ways (is_some (taken_frames f.pool t)) (in_use (flat_content f) t)
      (λ e.
      let any = flat.linked.shown t e in
      let page = some_is (values_of f.viewers t any.w) any.shows in
      in_use_at (flat_content f) t any.w page.0 (page_with_tag f.pool (record { 0 = t })) flat.good (page_of_viewer t any.w page.0 page.1) refl)
      (λ e.
      let found = in_use_found (flat_content f) t e in
      subst (λ (u : ℕ). IsSome (taken_frames f.pool u)) found.6
      (flat.linked.taken found.2.tag found.0 found.1 (viewer_of found.0 found.1 found.2 found.5)))

  -- as many frames are taken as are used, and the others are free
  pub used-taken : used (flat_content f) ≡ taken_count f.pool
  unfolding used
  used-taken =
      count_below_same f.pool.frames (in_use (flat_content f)) (λ t. is_some (taken_frames f.pool t)) (λ t h. sym (taken-is t))
      ∙ sym (taken_count-is f.pool)

  pub free_unused : (n : ℕ) → n + taken_count f.pool ≡ f.pool.frames → n + used (flat_content f) ≡ (flat_content f).frames
  free_unused n e = omega (arith, used-taken)

  -- there is a free frame where one is not used
  pub room_free : used (flat_content f) < (flat_content f).frames → taken_count f.pool < f.pool.frames
  room_free room = omega (arith, used-taken)

  -- a frame that is free is not in use
  pub free_unseen : (t : ℕ) → taken_frames f.pool t ≡ None → in_use (flat_content f) t ≡ false
  free_unseen t free = sym (taken-is t) ∙ ap is_some free

  -- ---- sole pages

  module _ (v p : ℕ) (tag : Tag) (found : values_of f.rows v p ≡ Some tag) where
    pub sole_where : IsAlone (values_of f.viewers tag.0) v → sole (flat_content f) v p ≡ true
    sole_where alone = sole_from (flat_content f) v p (page_with_tag f.pool tag) (row_page f v p tag found) (λ w q other apart e same.
        let shows : values_of f.viewers tag.0 w ≡ Some q = subst (λ (u : ℕ). values_of f.viewers u w ≡ Some q) same (viewer_of w q other e) in
        let none = alone.none w apart in
        absurd cc)

    pub shared_where : HasOther (values_of f.viewers tag.0) v → sole (flat_content f) v p ≡ false
    shared_where other = false_from_ne_true (sole (flat_content f) v p) (λ e.
        let page = some_is (values_of f.viewers tag.0 other.w) other.shows in
        other.other (sole_alone (flat_content f) v p other.w page.0 (page_with_tag f.pool tag) (page_with_tag f.pool tag) flat.good e
        (row_page f v p tag found) (page_of_viewer tag.0 other.w page.0 page.1) refl).0)

    pub sole-is : (b : Bool) → (b ≡ true → IsAlone (values_of f.viewers tag.0) v) → (b ≡ false → HasOther (values_of f.viewers tag.0) v)
        → b ≡ sole (flat_content f) v p
    sole-is true alone other = sym (sole_where (alone refl))
    sole-is false alone other = sym (shared_where (other refl))

    -- ---- pages that a third VMO shows

    pub third_where : (w : ℕ) → HasThird (values_of f.viewers tag.0) v w → IsSeenByThird (flat_content f) v p w
    third_where w third =
        let page = some_is (values_of f.viewers tag.0 third.u) third.shows in
        record {
          held = page_with_tag f.pool tag;
          is = row_page f v p tag found;
          u = third.u;
          q = page.0;
          seen = page_with_tag f.pool tag;
          shows = page_of_viewer tag.0 third.u page.0 page.1;
          same = refl;
          other = third.other;
          third = third.third;
        }

    pub no_third_where : (w : ℕ) → HasNoThird (values_of f.viewers tag.0) v w → IsSeenByThird (flat_content f) v p w → ⊥
    no_third_where w none third =
        let mine : page_with_tag f.pool tag ≡ third.held = some_same (sym (row_page f v p tag found) ∙ third.is) in
        let frame : third.seen.tag ≡ tag.0 = third.same ∙ ap (λ (page : Page). page.tag) (sym mine) in
        let shows : values_of f.viewers tag.0 third.u ≡ Some third.q =
        subst (λ (t : ℕ). values_of f.viewers t third.u ≡ Some third.q) frame (viewer_of third.u third.q third.seen third.shows) in
        let unseen = none.none third.u third.other third.third in
        absurd cc

    -- where it is shared, there is a free frame
    pub room_held : HasOther (values_of f.viewers tag.0) v → (sole (flat_content f) v p ≡ true) ⊎ (used (flat_content f) < (flat_content f).frames)
        → taken_count f.pool < f.pool.frames
    room_held other (inl alone) = let shared = shared_where other in absurd cc
    room_held other (inr free) = room_free free

  -- a page that is zero is not sole
  pub unsole : (v p : ℕ) → values_of f.rows v p ≡ None → false ≡ sole (flat_content f) v p
  unsole v p none = sym (sole-zero (flat_content f) v p (ap (option_map (page_with_tag f.pool)) none))

  -- nor does a third VMO show its frame
  pub unseen : (v p w : ℕ) → values_of f.rows v p ≡ None → IsSeenByThird (flat_content f) v p w → ⊥
  unseen v p w none third =
      let zero : (flat_content f).page v p ≡ None = ap (option_map (page_with_tag f.pool)) none in
      let held = third.is in
      absurd cc

  -- the koid of a page with a row is below the next
  pub koid_low : (v p : ℕ) (tag : Tag) → values_of f.rows v p ≡ Some tag → v < f.next
  koid_low v p tag e = koid_held (flat_content f) v p (page_with_tag f.pool tag) flat.good (row_page f v p tag e)
