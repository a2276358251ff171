-- One page that changes: it is owned, written, shown or released.
use Rattle.std.proofs.Common.{◌≡◌, ◌≢◌, ◌⊎◌, ℕ, ◌+◌, ◌<◌, ◌≤◌, true, false, List, [], length, Option, None, Some, IsSome, refl, sym, ap, subst, ◌∙◌, inl, inr, arith}
use Rattle.std.specs.Prelude.{is_some, unwrap_or}
use Rattle.std.specs.Option.{option_map}
use Rattle.std.proofs.lemmas.Bool.{cases_eq, cases_lt, both_ways}
use Rattle.vm_base.specs.declared.limits.TheConstants.{PAGE}
use Rattle.vm_base.specs.declared.names.Tag.{Tag}
use Rattle.vm_base.specs.Entries.{with_key}
use Rattle.vm_base.specs.Pages.{zeros, replaced}
use Rattle.vm_base.proofs.EntryLaws.{none_is, with_key-same, with_key-other, with_key-here, without_key-other}
use Rattle.vm_base.proofs.PageLaws.{length-zeros, length-replaced}
use Rattle.frame_pool.specs.Pool.{Pool, taken_frames, frame_bytes, Takes}
use Rattle.frame_pool.proofs.PoolLaws.{takes_apart}
use Rattle.pair_map.specs.declared.pair_map.PairMap.{PairMap}
use Rattle.pair_map.specs.Maps.{values_of, with_pair}
use Rattle.vm_model.specs.Contents.Content.{shown, pages_of, in_use, used, vmos_of, sole, hold, IsGood}
use Rattle.vm_model.specs.Contents.Owning.{Owns}
use Rattle.vm_model.specs.Contents.Zeroing.{zeroed}
use Rattle.vm_model.proofs.ContentLaws.{same_content, same_page, page-hold_here, page-hold_other, zero_not_held, sole_alone, sole-zero, bytes_of-none, bytes_of-some, IsGood-hold_new, IsGood-hold_bytes}
use Rattle.vm_model.proofs.ZeroingLaws.{page-zeroed_in, page-zeroed_out, IsGood-zeroed, zeroed-none}
use Rattle.vm_model.proofs.OwningLaws.{length-shown}
use Rattle.vm_model.specs.Space.Readiness.{frame_at}
use Rattle.page_store.specs.inside.Rows.{HasOther}
use Rattle.page_store.specs.Flat.{Flat, flat_content, page_with_tag, ArePaired, IsFlat}
use Rattle.page_store.proofs.LinkLaws.{pair-here, pair-other, pair-twice, pair-same, not_none, linked-comes, linked-goes, left_apart, unseen_free, LetsGo}
use Rattle.page_store.proofs.RowLaws.{row_page, page_bare, frame_row, frame_taken, page_of_viewer, free_unseen, shared_where}

-- a page whose frame has its bytes in both pools
page_kept : (old new : Pool) (o : Option Tag) → ((tag : Tag) → o ≡ Some tag → taken_frames new tag.0 ≡ taken_frames old tag.0)
    → option_map (page_with_tag new) o ≡ option_map (page_with_tag old) o
page_kept old new None same = refl
page_kept old new (Some tag) same = ap (λ (o : Option (List ℕ)). Some (record { tag = tag.0; bytes = unwrap_or o [] })) (same tag refl)

-- g is f with other frames and rows, but for page p of v each page has its frame, with its bytes
pub record ChangesPage (f g : Flat) (v p : ℕ) (o : Option Tag) : Type 0 where
  pub rest : g ≡ record f { pool = g.pool; rows = g.rows; viewers = g.viewers; room = g.room }
  pub frames : g.pool.frames ≡ f.pool.frames
  pub rows : values_of g.rows ≡ with_pair (values_of f.rows) v p o
  pub bytes : (w q : ℕ) (tag : Tag) → (w ≡ v → q ≡ p → ⊥) → values_of f.rows w q ≡ Some tag → taken_frames g.pool tag.0 ≡ taken_frames f.pool tag.0

module _ (f g : Flat) (v p : ℕ) (o : Option Tag) (is : ChangesPage f g v p o) where
  page-here : (flat_content g).page v p ≡ option_map (page_with_tag g.pool) o
  page-here = ap (λ (map : ℕ → ℕ → Option Tag). option_map (page_with_tag g.pool) (map v p)) is.rows
      ∙ ap (option_map (page_with_tag g.pool)) (pair-here (values_of f.rows) v p o)

  page-other : (w q : ℕ) → (w ≡ v → q ≡ p → ⊥) → (flat_content g).page w q ≡ (flat_content f).page w q
  page-other w q apart =
      ap (λ (map : ℕ → ℕ → Option Tag). option_map (page_with_tag g.pool) (map w q)) is.rows
      ∙ (ap (option_map (page_with_tag g.pool)) (pair-other (values_of f.rows) v p o w q apart)
      ∙ page_kept f.pool g.pool (values_of f.rows w q) (λ tag row. is.bytes w q tag apart row))

  next-is : g.next ≡ f.next
  next-is = ap (λ (h : Flat). h.next) is.rest

  count-is : (w : ℕ) → values_of g.vmos 0 w ≡ values_of f.vmos 0 w
  count-is w = ap (λ (h : Flat). values_of h.vmos 0 w) is.rest

  -- it is f with the page held
  pub content-hold : (tag : Tag) → o ≡ Some tag → flat_content g ≡ hold (flat_content f) v p (page_with_tag g.pool tag)
  unfolding hold
  content-hold tag some = same_content _ _ is.frames next-is count-is (λ w q. elim (same_page v p w q) [
    | inl here ↦ rw (here.0, here.1) (page-here ∙ (ap (option_map (page_with_tag g.pool)) some ∙ sym (page-hold_here (flat_content f) v p (page_with_tag g.pool tag))))
    | inr apart ↦ page-other w q apart ∙ sym (page-hold_other (flat_content f) v p (page_with_tag g.pool tag) w q apart)
  ])

  -- or zero
  pub content-zeroed : o ≡ None → flat_content g ≡ zeroed (flat_content f) v p (p + 1)
  unfolding zeroed
  content-zeroed none = same_content _ _ is.frames next-is count-is (λ w q. elim (same_page v p w q) [
    | inl here ↦ rw (here.0, here.1) (page-here ∙ (ap (option_map (page_with_tag g.pool)) none ∙ sym (page-zeroed_in (flat_content f) v p (p + 1) v p refl (omega arith) (omega arith))))
    | inr apart ↦ page-other w q apart ∙ sym (page-zeroed_out (flat_content f) v p (p + 1) w q (λ vmo. elim (cases_lt q p) [
      | inl low ↦ inl low
      | inr high ↦ inr (let other : q ≢ p = apart vmo in omega arith)
    ]))
  ])

-- ---- a page that gets a frame

-- g is good, and owning page p of v leads from f to it
pub record IsOwned (f g : Flat) (v p t : ℕ) : Type 0 where
  pub flat : IsFlat g
  pub owns : Owns (flat_content f) (flat_content g) v p t

module _ (f : Flat) (v p : ℕ) (tag : Tag) (pool : Pool) (rows : PairMap Tag) (viewers : PairMap ℕ) (room : ℕ) (bytes : List ℕ)
    (flat : IsFlat f) (frames : pool.frames ≡ f.pool.frames) (takes : Takes f.pool pool tag.0 bytes)
    (values : values_of rows ≡ with_pair (values_of f.rows) v p (Some tag)) where
  abbrev owned : Flat
  owned = record f { pool = pool; rows = rows; viewers = viewers; room = room }

  changes : ChangesPage f owned v p (Some tag)
  changes = record {
    rest = refl;
    frames = frames;
    rows = values;
    bytes = λ w q u apart row.
        ap (λ (m : ℕ → Option (List ℕ)). m u.0) takes.taken
        ∙ with_key-other (taken_frames f.pool) tag.0 bytes u.0 (takes_apart f.pool pool tag.0 bytes takes u.0 (frame_taken f flat w q u row));
  }

  new_bytes : frame_bytes pool tag.0 ≡ bytes
  new_bytes = ap (λ (m : ℕ → Option (List ℕ)). unwrap_or (m tag.0) []) takes.taken
      ∙ ap (λ (o : Option (List ℕ)). unwrap_or o []) (with_key-same (taken_frames f.pool) tag.0 bytes)

  content-owned : flat_content owned ≡ hold (flat_content f) v p (record { tag = tag.0; bytes = bytes })
  content-owned = content-hold f owned v p (Some tag) changes tag refl ∙ ap (λ (bs : List ℕ). hold (flat_content f) v p (record { tag = tag.0; bytes = bs })) new_bytes

  unused : in_use (flat_content f) tag.0 ≡ false
  unused = free_unseen f flat tag.0 takes.was_free

  IsOwned-new : ArePaired (values_of rows) (values_of viewers) (taken_frames pool) → p < pages_of (flat_content f) v → sole (flat_content f) v p ≡ false
      → bytes ≡ shown (flat_content f) v p → length bytes ≡ PAGE → room ≤ rows.spare → room ≤ viewers.spare → IsOwned f owned v p tag.0
  unfolding vmos_of
  IsOwned-new linked page shared same whole low high = record {
    flat = record {
      good = subst IsGood (sym content-owned) (IsGood-hold_new (flat_content f) v p (record { tag = tag.0; bytes = bytes }) flat.good page takes.below unused whole);
      live = flat.live;
      linked = linked;
      rows_room = low;
      viewers_room = high;
    };
    owns = record {
      stays = λ alone. absurd (both_ways (sole (flat_content f) v p) shared alone);
      copies = λ _. (
        takes.below,
        unused,
        content-owned ∙ ap (λ (bs : List ℕ). hold (flat_content f) v p (record { tag = tag.0; bytes = bs })) same,
      );
    };
  }

  taken_now : IsSome (taken_frames pool tag.0)
  taken_now = ap (λ (m : ℕ → Option (List ℕ)). is_some (m tag.0)) takes.taken ∙ ap is_some (with_key-same (taken_frames f.pool) tag.0 bytes)

  taken_else : (t : ℕ) → t ≢ tag.0 → taken_frames pool t ≡ taken_frames f.pool t
  taken_else t apart = ap (λ (m : ℕ → Option (List ℕ)). m t) takes.taken ∙ with_key-other (taken_frames f.pool) tag.0 bytes t apart

  -- a page that was zero
  pub owned_zero : (flat_content f).page v p ≡ None → p < pages_of (flat_content f) v → bytes ≡ zeros
      → values_of viewers ≡ with_pair (values_of f.viewers) tag.0 v (Some p) → room ≤ rows.spare → room ≤ viewers.spare → IsOwned f owned v p tag.0
  owned_zero zero page blank seen low high = IsOwned-new
      (rw (values, seen) (linked-comes (values_of f.rows) (values_of f.viewers) (taken_frames f.pool) (taken_frames pool) v p tag flat.linked
      (page_bare f v p zero) (unseen_free (values_of f.rows) (values_of f.viewers) (taken_frames f.pool) (taken_frames pool) v p tag flat.linked takes.was_free)
      taken_now taken_else))
      page (sole-zero (flat_content f) v p zero) (blank ∙ sym (bytes_of-none ((flat_content f).page v p) zero)) (ap length blank ∙ length-zeros) low high

  -- a page whose frame another VMO shows too
  pub owned_held : (was : Tag) → values_of f.rows v p ≡ Some was → HasOther (values_of f.viewers was.0) v → bytes ≡ frame_bytes f.pool was.0
      → values_of viewers ≡ with_pair (with_pair (values_of f.viewers) was.0 v None) tag.0 v (Some p) → room ≤ rows.spare → room ≤ viewers.spare → IsOwned f owned v p tag.0
  owned_held was found other copy seen low high =
      let page = row_page f v p was found in
      let left : ArePaired (with_pair (values_of f.rows) v p None) (with_pair (values_of f.viewers) was.0 v None) (taken_frames f.pool) =
      linked-goes (values_of f.rows) (values_of f.viewers) (taken_frames f.pool) (taken_frames f.pool) v p was flat.linked found
      (inl (record { w = other.w; shows = ap is_some (pair-other (values_of f.viewers) was.0 v None was.0 other.w (λ _ vmo. other.other vmo)) ∙ other.shows }, refl)) in
      IsOwned-new
      (rw (values, seen, ← pair-twice (values_of f.rows) v p None (Some tag)) (linked-comes (with_pair (values_of f.rows) v p None) (with_pair (values_of f.viewers) was.0 v None)
      (taken_frames f.pool) (taken_frames pool) v p tag left (pair-here (values_of f.rows) v p None)
      (unseen_free (with_pair (values_of f.rows) v p None) (with_pair (values_of f.viewers) was.0 v None) (taken_frames f.pool) (taken_frames pool) v p tag left takes.was_free)
      taken_now taken_else))
      (flat.good.below v p (page_with_tag f.pool was) page) (shared_where f flat v p was found other)
      (copy ∙ sym (bytes_of-some ((flat_content f).page v p) (page_with_tag f.pool was) page))
      (ap length copy ∙ flat.good.whole v p (page_with_tag f.pool was) page) low high

-- for a page that is zero there is room, since it is not sole
pub own_room : (f : Flat) (v p : ℕ) {room : ℕ} → (flat_content f).page v p ≡ None → (sole (flat_content f) v p ≡ true) ⊎ ((1 ≤ room) × (used (flat_content f) < (flat_content f).frames))
    → (1 ≤ room) × (used (flat_content f) < (flat_content f).frames)
own_room f v p zero (inl alone) = absurd (both_ways (sole (flat_content f) v p) (sole-zero (flat_content f) v p zero) alone)
own_room f v p zero (inr room) = room

-- a page that is sole is owned already
pub owned_already : (f : Flat) (v p : ℕ) (tag : Tag) → values_of f.rows v p ≡ Some tag → sole (flat_content f) v p ≡ true → Owns (flat_content f) (flat_content f) v p tag.0
owned_already f v p tag found alone = record {
  stays = λ _. (refl, λ other e. cc (sym (row_page f v p tag found) ∙ e));
  copies = λ shared. absurd (both_ways (sole (flat_content f) v p) shared alone);
}

-- ---- a frame that one VMO more shows

-- the VMO did not show it
pub unseen : (f : Flat) (v p : ℕ) (tag : Tag) → IsFlat f → (flat_content f).page v p ≡ None → IsGood (hold (flat_content f) v p (page_with_tag f.pool tag))
    → values_of f.viewers tag.0 v ≡ None
unseen f v p tag flat zero good = go (values_of f.viewers tag.0 v) refl where
  go : (o : Option ℕ) → values_of f.viewers tag.0 v ≡ o → o ≡ None
  go None e = refl
  go (Some q) e =
      let was = page_of_viewer f flat tag.0 v q e in
      let apart : q ≢ p = λ same. zero_not_held ((flat_content f).page v p) (page_with_tag f.pool tag) zero ((λ i. (flat_content f).page v (sym same i)) ∙ was) in
      absurd (apart (good.apart v q p (page_with_tag f.pool tag) (page_with_tag f.pool tag)
      (page-hold_other (flat_content f) v p (page_with_tag f.pool tag) v q (λ _. apart) ∙ was) (page-hold_here (flat_content f) v p (page_with_tag f.pool tag)) refl))

module _ (f : Flat) (v p : ℕ) (tag : Tag) (rows : PairMap Tag) (viewers : PairMap ℕ) (room : ℕ) (flat : IsFlat f) (zero : (flat_content f).page v p ≡ None)
    (values : values_of rows ≡ with_pair (values_of f.rows) v p (Some tag)) where
  pub content-shown : flat_content (record f { rows = rows; viewers = viewers; room = room }) ≡ hold (flat_content f) v p (page_with_tag f.pool tag)
  content-shown = content-hold f (record f { rows = rows; viewers = viewers; room = room }) v p (Some tag)
      (record { rest = refl; frames = refl; rows = values; bytes = λ w q u apart row. refl }) tag refl

  pub IsFlat-shown : IsGood (hold (flat_content f) v p (page_with_tag f.pool tag)) → (w q : ℕ) → values_of f.rows w q ≡ Some tag
      → values_of viewers ≡ with_pair (values_of f.viewers) tag.0 v (Some p) → room ≤ rows.spare → room ≤ viewers.spare
      → IsFlat (record f { rows = rows; viewers = viewers; room = room })
  unfolding vmos_of
  IsFlat-shown good w q found seen low high = record {
    good = subst IsGood (sym content-shown) good;
    live = flat.live;
    linked = rw (values, seen) (linked-comes (values_of f.rows) (values_of f.viewers) (taken_frames f.pool) (taken_frames f.pool) v p tag flat.linked
        (page_bare f v p zero) (unseen f v p tag flat zero good) (frame_taken f flat w q tag found) (λ t apart. refl));
    rows_room = low;
    viewers_room = high;
  }

-- ---- a page that is released

module _ (f : Flat) (v p : ℕ) (tag : Tag) (pool : Pool) (rows : PairMap Tag) (viewers : PairMap ℕ) (flat : IsFlat f) (found : values_of f.rows v p ≡ Some tag)
    (frames : pool.frames ≡ f.pool.frames) (values : values_of rows ≡ with_pair (values_of f.rows) v p None)
    (seen : values_of viewers ≡ with_pair (values_of f.viewers) tag.0 v None) (goes : LetsGo (values_of viewers tag.0) (taken_frames f.pool) (taken_frames pool) tag.0) where
  -- the pages that are left keep their bytes
  kept : (w q : ℕ) (u : Tag) → (w ≡ v → q ≡ p → ⊥) → values_of f.rows w q ≡ Some u → taken_frames pool u.0 ≡ taken_frames f.pool u.0
  kept w q u apart row = elim goes [
    | inl stays ↦ ap (λ (m : ℕ → Option (List ℕ)). m u.0) stays.1
    | inr free ↦ ap (λ (m : ℕ → Option (List ℕ)). m u.0) free.1 ∙ without_key-other (taken_frames f.pool) tag.0 u.0 (λ same.
        let still : values_of viewers u.0 w ≡ Some q =
        ap (λ (m : ℕ → ℕ → Option ℕ). m u.0 w) seen ∙ (pair-other (values_of f.viewers) tag.0 v None u.0 w
        (left_apart (values_of f.rows) (values_of f.viewers) (taken_frames f.pool) (taken_frames pool) v p tag flat.linked found u w q row apart)
        ∙ flat.linked.there w q u row) in
        not_none (values_of viewers u.0 w) q (ap (λ (t : ℕ). values_of viewers t w) same ∙ free.0.none w) still)
  ]

  pub content-released : flat_content (record f { pool = pool; rows = rows; viewers = viewers }) ≡ zeroed (flat_content f) v p (p + 1)
  content-released = content-zeroed f (record f { pool = pool; rows = rows; viewers = viewers }) v p None
      (record { rest = refl; frames = frames; rows = values; bytes = kept }) refl

  pub IsFlat-released : f.room ≤ rows.spare → f.room ≤ viewers.spare → IsFlat (record f { pool = pool; rows = rows; viewers = viewers })
  unfolding vmos_of
  IsFlat-released low high = record {
    good = subst IsGood (sym content-released) (IsGood-zeroed (flat_content f) v p (p + 1) flat.good);
    live = flat.live;
    linked = rw (values, seen) (linked-goes (values_of f.rows) (values_of f.viewers) (taken_frames f.pool) (taken_frames pool) v p tag flat.linked found (rw seen at goes));
    rows_room = low;
    viewers_room = high;
  }

-- a page that is zero already
pub zero_already : (f : Flat) (v p : ℕ) (o : Option Tag) → o ≡ values_of f.rows v p → is_some o ≡ false → flat_content f ≡ zeroed (flat_content f) v p (p + 1)
zero_already f v p o found none = sym (zeroed-none (flat_content f) v p (p + 1) (λ q low high.
    let same : p ≡ q = omega arith in
    ap (option_map (page_with_tag f.pool)) (ap (values_of f.rows v) (sym same) ∙ (sym found ∙ none_is o none))))

-- ---- a page that is written

module _ (f : Flat) (v p : ℕ) (tag : Tag) (pool : Pool) (at : ℕ) (bytes : List ℕ) (flat : IsFlat f) (alone : sole (flat_content f) v p ≡ true)
    (frame : frame_at (flat_content f) v p ≡ Some tag.0) where
  row_here : values_of f.rows v p ≡ Some tag
  row_here = frame_row f v p tag frame

  module _ (frames : pool.frames ≡ f.pool.frames) (taken : taken_frames pool ≡ with_key (taken_frames f.pool) tag.0 (replaced (frame_bytes f.pool tag.0) at bytes)) where
    overwrites : ChangesPage f (record f { pool = pool }) v p (Some tag)
    overwrites = record {
      rest = refl;
      frames = frames;
      rows = pair-same (values_of f.rows) v p (Some tag) row_here;
      bytes = λ w q u apart row.
          ap (λ (m : ℕ → Option (List ℕ)). m u.0) taken ∙ with_key-other (taken_frames f.pool) tag.0 (replaced (frame_bytes f.pool tag.0) at bytes) u.0 (λ same.
          let one = sole_alone (flat_content f) v p w q (page_with_tag f.pool tag) (page_with_tag f.pool u) flat.good alone (row_page f v p tag row_here) (row_page f w q u row) same in
          apart one.0 one.1);
    }

    bytes_now : frame_bytes pool tag.0 ≡ replaced (shown (flat_content f) v p) at bytes
    bytes_now =
        ap (λ (m : ℕ → Option (List ℕ)). unwrap_or (m tag.0) []) taken
        ∙ (ap (λ (o : Option (List ℕ)). unwrap_or o []) (with_key-same (taken_frames f.pool) tag.0 (replaced (frame_bytes f.pool tag.0) at bytes))
        ∙ ap (λ (bs : List ℕ). replaced bs at bytes) (sym (bytes_of-some ((flat_content f).page v p) (page_with_tag f.pool tag) (row_page f v p tag row_here))))

    pub content-overwritten : flat_content (record f { pool = pool }) ≡ hold (flat_content f) v p (record { tag = tag.0; bytes = replaced (shown (flat_content f) v p) at bytes })
    content-overwritten = content-hold f (record f { pool = pool }) v p (Some tag) overwrites tag refl
        ∙ ap (λ (bs : List ℕ). hold (flat_content f) v p (record { tag = tag.0; bytes = bs })) bytes_now

    -- as many frames are taken
    taken-same : (t : ℕ) → is_some (taken_frames pool t) ≡ is_some (taken_frames f.pool t)
    taken-same t = ap (λ (m : ℕ → Option (List ℕ)). is_some (m t)) taken ∙ elim (cases_eq t tag.0) [
      | inl same ↦
          ap is_some (with_key-here (taken_frames f.pool) tag.0 (replaced (frame_bytes f.pool tag.0) at bytes) t same)
          ∙ sym (ap (λ (u : ℕ). is_some (taken_frames f.pool u)) same ∙ frame_taken f flat v p tag row_here)
      | inr apart ↦ ap is_some (with_key-other (taken_frames f.pool) tag.0 (replaced (frame_bytes f.pool tag.0) at bytes) t apart)
    ]

    pub IsFlat-overwritten : at + length bytes ≤ PAGE → IsFlat (record f { pool = pool })
    unfolding vmos_of
    IsFlat-overwritten range =
        let long = length-shown (flat_content f) v p flat.good in
        record {
          good = subst IsGood (sym content-overwritten) (IsGood-hold_bytes (flat_content f) v p (page_with_tag f.pool tag)
              (record { tag = tag.0; bytes = replaced (shown (flat_content f) v p) at bytes }) flat.good alone (row_page f v p tag row_here) refl
              (length-replaced (shown (flat_content f) v p) at bytes (omega arith) ∙ long));
          live = flat.live;
          linked = record {
            there = flat.linked.there;
            back = flat.linked.back;
            taken = λ t w q e. taken-same t ∙ flat.linked.taken t w q e;
            shown = λ t e. flat.linked.shown t (sym (taken-same t) ∙ e);
          };
          rows_room = flat.rows_room;
          viewers_room = flat.viewers_room;
        }
