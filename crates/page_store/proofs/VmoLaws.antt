-- How the pages begin and get frames, and VMOs that come, leave, or get another count.
use Rattle.std.proofs.Common.{◌≡◌, ◌≢◌, ℕ, ◌+◌, ◌≤◌, not, ◌==◌, List, Option, None, Some, IsSome, refl, sym, ap, subst, ◌∙◌, arith}
use Rattle.std.specs.Prelude.{is_some, unwrap_or}
use Rattle.std.specs.Option.{option_map}
use Rattle.std.proofs.lemmas.Bool.Decides.{nat_tests}
use Rattle.vm_base.specs.declared.limits.TheConstants.{VMO_PAGES}
use Rattle.vm_base.specs.declared.names.Tag.{Tag}
use Rattle.vm_base.specs.Entries.{with_key}
use Rattle.vm_base.proofs.SearchLaws.{count_below_none}
use Rattle.vm_base.proofs.EntryLaws.{some_is}
use Rattle.frame_pool.specs.Pool.{Pool, taken_frames}
use Rattle.pair_map.specs.declared.pair_map.PairMap.{PairMap}
use Rattle.pair_map.specs.Maps.{values_of, with_pair, count_of}
use Rattle.vm_model.specs.Contents.Content.{Content, Page, nothing, pages_of, vmos_of, created, IsGood}
use Rattle.vm_model.specs.Contents.Sharing.{without, only}
use Rattle.vm_model.specs.Contents.Zeroing.{zeroed, resized}
use Rattle.vm_model.proofs.ContentLaws.{same_content, pages_of-at, count_from_page, IsGood-created, IsGood-nothing}
use Rattle.vm_model.proofs.CountLaws.{vmos_of-same, vmos_of-created, vmos_of-without}
use Rattle.vm_model.proofs.SharingLaws.{koid_some, IsGood-only}
use Rattle.vm_model.proofs.ZeroingLaws.{IsGood-resized}
use Rattle.page_store.specs.Flat.{Flat, flat_content, page_with_tag, ArePaired, IsFlat}
use Rattle.page_store.proofs.LinkLaws.{not_none}
use Rattle.page_store.proofs.RowLaws.{page_bare}

-- ---- no VMO

-- no rows
ArePaired-none : (rows : ℕ → ℕ → Option Tag) (viewers : ℕ → ℕ → Option ℕ) (taken : ℕ → Option (List ℕ))
    → ((v p : ℕ) → rows v p ≡ None) → ((t v : ℕ) → viewers t v ≡ None) → ((t : ℕ) → taken t ≡ None) → ArePaired rows viewers taken
ArePaired-none rows viewers taken bare unseen free = record {
  there = λ v p tag e. absurd (not_none (rows v p) tag (bare v p) e);
  back = λ t v p e. absurd (not_none (viewers t v) p (unseen t v) e);
  taken = λ t v p e. absurd (not_none (viewers t v) p (unseen t v) e);
  shown = λ t e. let none = free t in absurd cc;
}

vmos_of-none : (c : Content) → ((v : ℕ) → c.count v ≡ None) → vmos_of c ≡ 0
unfolding vmos_of
vmos_of-none c none = count_below_none c.next (λ v. is_some (c.count v)) (λ v h. ap is_some (none v))

IsFlat-nothing : (f : Flat) → flat_content f ≡ record nothing { frames = f.pool.frames } → count_of f.vmos ≡ 0
    → ArePaired (values_of f.rows) (values_of f.viewers) (taken_frames f.pool) → f.room ≤ f.rows.spare → f.room ≤ f.viewers.spare → IsFlat f
unfolding nothing
IsFlat-nothing f e few linked low high = record {
  good = subst IsGood (sym e) (IsGood-nothing f.pool.frames);
  live = few ∙ sym (vmos_of-none (flat_content f) (λ v. ap (λ (c : Content). c.count v) e));
  linked = linked;
  rows_room = low;
  viewers_room = high;
}

module _ (pool : Pool) (vmos : PairMap ℕ) (rows : PairMap Tag) (viewers : PairMap ℕ) (frames : pool.frames ≡ 0)
    (no_vmo : values_of vmos ≡ (λ a b. None)) (no_row : values_of rows ≡ (λ a b. None)) where
  pub content-new : flat_content (record { pool = pool; next = 1; vmos = vmos; rows = rows; viewers = viewers; room = 0 }) ≡ nothing
  unfolding nothing
  content-new = same_content _ _ frames refl (λ v. ap (λ (map : ℕ → ℕ → Option ℕ). map 0 v) no_vmo)
      (λ v p. ap (λ (map : ℕ → ℕ → Option Tag). option_map (page_with_tag pool) (map v p)) no_row)

  pub IsFlat-new : ((t : ℕ) → taken_frames pool t ≡ None) → values_of viewers ≡ (λ a b. None) → count_of vmos ≡ 0
      → IsFlat (record { pool = pool; next = 1; vmos = vmos; rows = rows; viewers = viewers; room = 0 })
  unfolding nothing
  IsFlat-new free no_viewer few = IsFlat-nothing _
      (content-new ∙ ap (λ (n : ℕ). record nothing { frames = n }) (sym frames)) few
      (ArePaired-none (values_of rows) (values_of viewers) (taken_frames pool) (λ v p. ap (λ (map : ℕ → ℕ → Option Tag). map v p) no_row)
      (λ t v. ap (λ (map : ℕ → ℕ → Option ℕ). map t v) no_viewer) free)
      (omega arith) (omega arith)

-- ---- frames come

module _ (f : Flat) (empty : flat_content f ≡ nothing) where
  -- it has no frames
  pub no_frames : f.pool.frames ≡ 0
  unfolding nothing
  no_frames = ap (λ (c : Content). c.frames) empty

  no_rows : (v p : ℕ) → values_of f.rows v p ≡ None
  unfolding nothing
  no_rows v p = page_bare f v p (ap (λ (c : Content). c.page v p) empty)

  pub content-filled : (pool : Pool) → flat_content (record f { pool = pool }) ≡ record (flat_content f) { frames = pool.frames }
  content-filled pool = same_content _ _ refl refl (λ v. refl) (λ v p.
      ap (option_map (page_with_tag pool)) (no_rows v p) ∙ sym (ap (option_map (page_with_tag f.pool)) (no_rows v p)))

  pub IsFlat-filled : (pool : Pool) → IsFlat f → ((t : ℕ) → taken_frames pool t ≡ None) → IsFlat (record f { pool = pool })
  unfolding nothing vmos_of
  IsFlat-filled pool flat free = IsFlat-nothing (record f { pool = pool })
      (content-filled pool ∙ ap (λ (c : Content). record c { frames = pool.frames }) empty)
      (flat.live ∙ vmos_of-none (flat_content f) (λ v. ap (λ (c : Content). c.count v) empty))
      (ArePaired-none (values_of f.rows) (values_of f.viewers) (taken_frames pool) no_rows unseen free)
      flat.rows_room flat.viewers_room
    where
      unseen : (t v : ℕ) → values_of f.viewers t v ≡ None
      unseen t v = go (values_of f.viewers t v) refl where
        go : (o : Option ℕ) → values_of f.viewers t v ≡ o → o ≡ None
        go None e = refl
        go (Some p) e = absurd (not_none (values_of f.rows v p) (record { 0 = t }) (no_rows v p) (flat.linked.back t v p e))

-- ---- the count of a VMO

pub count_is : (o : Option ℕ) (n : ℕ) → IsSome o → n ≡ unwrap_or o 0 → o ≡ Some n
count_is None n some is = absurd cc
count_is (Some m) n some is = ap (λ k. Some k) (sym is)

pub count_stays : (c d : Content) (v first end : ℕ) → d ≡ zeroed c v first end → IsSome (c.count v) → IsSome (d.count v)
unfolding zeroed
count_stays c d v first end zero some = ap (λ (s : Content). is_some (s.count v)) zero ∙ some

pub pages_low : (c : Content) (v : ℕ) → IsGood c → IsSome (c.count v) → pages_of c v ≤ VMO_PAGES
pages_low c v good some =
    let count = some_is (c.count v) some in omega (arith, pages_of-at c v count.0 count.1, good.counts v count.0 count.1)

-- the next koid is no VMO's
pub koid_apart : (c : Content) (v : ℕ) → IsGood c → IsSome (c.count v) → v ≢ c.next
koid_apart c v good some same = let low = koid_some c v good some in absurd (omega arith)

-- ---- a VMO comes, leaves, or gets another count

-- other VMOs, whose pages are the same
IsFlat-vmos : (f : Flat) (n : ℕ) (vmos : PairMap ℕ) (d : Content) → IsFlat f → flat_content (record f { next = n; vmos = vmos }) ≡ d → IsGood d → count_of vmos ≡ vmos_of d
    → IsFlat (record f { next = n; vmos = vmos })
IsFlat-vmos f n vmos d flat is good many = record {
  good = subst IsGood (sym is) good;
  live = many ∙ ap vmos_of (sym is);
  linked = flat.linked;
  rows_room = flat.rows_room;
  viewers_room = flat.viewers_room;
}

module _ (f : Flat) (vmos : PairMap ℕ) (n : ℕ) (values : values_of vmos ≡ with_pair (values_of f.vmos) 0 f.next (Some n)) where
  pub content-created : flat_content (record f { next = f.next + 1; vmos = vmos }) ≡ created (flat_content f) n
  unfolding created with_key with_pair
  content-created = same_content _ _ refl refl (λ v. ap (λ (map : ℕ → ℕ → Option ℕ). map 0 v) values ∙ grind (arith, nat_tests)) (λ v p. refl)

  pub IsFlat-created : IsFlat f → n ≤ VMO_PAGES → count_of vmos ≡ count_of f.vmos + 1 → IsFlat (record f { next = f.next + 1; vmos = vmos })
  IsFlat-created flat few many =
      IsFlat-vmos f (f.next + 1) vmos (created (flat_content f) n) flat content-created (IsGood-created (flat_content f) n flat.good few)
      (many ∙ (ap (λ k. k + 1) flat.live ∙ sym (vmos_of-created (flat_content f) n)))

-- f is c without the pages of the VMO past the new end
module _ (c : Content) (f : Flat) (vmos : PairMap ℕ) (v n m : ℕ) (zero : flat_content f ≡ zeroed c v n m) (was : c.count v ≡ Some m)
    (values : values_of vmos ≡ with_pair (values_of f.vmos) 0 v (Some n)) where
  pub content-resized : flat_content (record f { vmos = vmos }) ≡ resized c v n
  unfolding resized zeroed with_key with_pair pages_of
  content-resized = same_content _ _ (ap (λ (d : Content). d.frames) zero) (ap (λ (d : Content). d.next) zero)
      (λ w. ap (λ (map : ℕ → ℕ → Option ℕ). map 0 w) values ∙ (let before = ap (λ (d : Content). d.count w) zero in grind (arith, nat_tests)))
      (λ w p. ap (λ (d : Content). d.page w p) zero ∙ rw was refl)

  count-kept : (w : ℕ) → is_some ((resized c v n).count w) ≡ is_some ((flat_content f).count w)
  unfolding resized zeroed with_key
  count-kept w = let before = ap (λ (d : Content). d.count w) zero in grind (arith, nat_tests)

  next-kept : (resized c v n).next ≡ (flat_content f).next
  unfolding resized zeroed
  next-kept = sym (ap (λ (d : Content). d.next) zero)

  pub IsFlat-resized : IsGood c → IsFlat f → n ≤ VMO_PAGES → count_of vmos ≡ count_of f.vmos → IsFlat (record f { vmos = vmos })
  IsFlat-resized good flat few many =
      IsFlat-vmos f f.next vmos (resized c v n) flat content-resized (IsGood-resized c v n good (ap is_some was) few)
      (many ∙ (flat.live ∙ sym (vmos_of-same (flat_content f) (resized c v n) next-kept count-kept)))

-- no page is held past the greatest count
far_zero : (c : Content) (w p : ℕ) → IsGood c → VMO_PAGES ≤ p → c.page w p ≡ None
far_zero c w p good far = go (c.page w p) refl where
  go : (o : Option Page) → c.page w p ≡ o → o ≡ None
  go None e = refl
  go (Some held) e =
      let low = good.below w p held e in
      let few = good.counts w (pages_of c w) (count_from_page c w p low) in
      absurd (omega arith)

-- f is c where the pages of the VMO are zero
module _ (c : Content) (f : Flat) (vmos : PairMap ℕ) (v : ℕ) (zero : flat_content f ≡ zeroed c v 0 VMO_PAGES) (flat : IsFlat f)
    (values : values_of vmos ≡ with_pair (values_of f.vmos) 0 v None) where
  without-here : flat_content (record f { vmos = vmos }) ≡ without (flat_content f) v
  unfolding only with_pair zeroed
  without-here = same_content _ _ refl refl
      (λ w. ap (λ (map : ℕ → ℕ → Option ℕ). map 0 w) values ∙ grind (arith, nat_tests))
      (λ w p. let past = far_zero (flat_content f) w p flat.good in let low = ap (λ (d : Content). d.page w p) zero in grind (arith, nat_tests))

  pub content-dropped : flat_content (record f { vmos = vmos }) ≡ without c v
  unfolding only zeroed
  content-dropped = without-here ∙ (ap (λ (d : Content). without d v) zero ∙ same_content _ _ refl refl (λ w. refl) (λ w p. grind (arith, nat_tests)))

  pub IsFlat-dropped : IsSome (c.count v) → count_of vmos + 1 ≡ count_of f.vmos → IsFlat (record f { vmos = vmos })
  IsFlat-dropped some many =
      let there = count_stays c (flat_content f) v 0 VMO_PAGES zero some in
      IsFlat-vmos f f.next vmos (without (flat_content f) v) flat without-here (IsGood-only (flat_content f) (λ w. not (w == v)) flat.good)
      (let less = vmos_of-without (flat_content f) v flat.good there in omega (arith, less, flat.live, many))
