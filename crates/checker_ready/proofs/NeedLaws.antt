-- How many frames owning one page takes, or two pages one after another.
use Rattle.std.proofs.Common.{◌≡◌, ℕ, suc, ◌+◌, ◌<◌, ◌≤◌, Bool, true, false, not, cond, ◌&&◌, ◌==◌, [], ◌∷◌, Option, None, Some, refl, sym, ap, ◌∙◌, inl, inr, arith}
use Rattle.std.specs.Prelude.{is_some}
use Rattle.std.specs.Option.{option_map}
use Rattle.std.proofs.lemmas.Bool.{cases_Bool, cases_eq, and_from, both_ways, eq-eqb}
use Rattle.vm_base.proofs.SearchLaws.{any_below_at, eqb_is, eqb_apart}
use Rattle.vm_base.proofs.EntryLaws.{some_same}
use Rattle.vm_model.specs.Contents.Content.{Page, Content, shown, used, pages_of, views, seen_elsewhere, sole, hold, IsGood}
use Rattle.vm_model.specs.Contents.Owning.{VmoPage, need_from, need_each}
use Rattle.vm_model.specs.Space.Readiness.{frame_at, is_same_frame}
use Rattle.vm_model.proofs.ContentLaws.{page-hold_other, page-hold_cases, koid_below, views_at, sole-at, sole_from}
use Rattle.page_store.specs.Pages.{look_at}
use Rattle.page_store.specs.Needs.{have_one_frame, MayOwn}
use Rattle.page_store.proofs.NeedLaws.{need-one, need-same, need-apart}
use Rattle.page_store.specs.Flat.{IsSeenByThird}

-- ---- no page

pub need-none : (c : Content) → 0 ≡ need_each c []
unfolding need_from
need-none c = refl

-- ---- one page

pub need-sole : (c : Content) (v p : ℕ) → sole c v p ≡ true → 0 ≡ need_each c (record { koid = v; page = p } ∷ [])
unfolding need_from
need-sole c v p alone = rw alone refl

pub need-shared : (c : Content) (v p : ℕ) → sole c v p ≡ false → 1 ≡ need_each c (record { koid = v; page = p } ∷ [])
unfolding need_from
need-shared c v p shared = rw shared refl

-- where the frames are free that it needs, it may be owned
pub may_own : (c : Content) (v p : ℕ) → used c + need_each c (record { koid = v; page = p } ∷ []) ≤ c.frames → MayOwn c v p
may_own c v p free = elim (cases_Bool (sole c v p)) [
  | inl alone ↦ inl alone
  | inr shared ↦ inr (omega (arith, free, need-shared c v p shared))
]

-- ---- two pages

module _ (c : Content) (v p w q : ℕ) where
  -- the two pages
  abbrev first : VmoPage
  first = record { koid = v; page = p }

  abbrev second : VmoPage
  second = record { koid = w; page = q }

  -- the first as it is owned, where it is not sole
  abbrev fresh : Page
  fresh = record { tag = c.frames; bytes = shown c v p }

  -- the first is sole
  pub need-first_sole : sole c v p ≡ true → need_each c (second ∷ []) ≡ need_each c (first ∷ second ∷ [])
  unfolding need_from
  need-first_sole alone = rw alone refl

  -- it is not
  need-first_shared : sole c v p ≡ false → (alone : Bool) → sole (hold c v p fresh) w q ≡ alone → 1 + cond alone 0 1 ≡ need_each c (first ∷ second ∷ [])
  unfolding need_from
  need-first_shared shared alone is = rw (shared, is) (go alone) where
    go : (b : Bool) → ◌≡◌ {A = ℕ} (1 + cond b 0 1) (suc (cond b 0 1))
    go true = refl
    go false = refl

  -- both are held, with one frame
  abbrev are_one : Bool
  are_one = is_some (frame_at c v p) && is_same_frame (frame_at c v p) (frame_at c w q)

  module _ (good : IsGood c) (h : p < pages_of c v) (shared : sole c v p ≡ false) where
    -- both are one page
    pub after-same : ((v == w) && (p == q)) ≡ true → 1 ≡ need_each c (first ∷ second ∷ [])
    after-same same = need-shared c v p shared ∙ sym (need-one c v p) ∙ need-same c v p w q good h same

    module _ (two : ((v == w) && (p == q)) ≡ false) where
      -- they have not one frame
      pub after-apart : are_one ≡ false → 1 + need_each c (second ∷ []) ≡ need_each c (first ∷ second ∷ [])
      after-apart apart =
          let both = need-apart c v p w q good h two (sym (go (c.page v p) (c.page w q)) ∙ apart) in
          omega (arith, both, need-one c v p, need-one c w q, need-shared c v p shared)
        where
          go : (o u : Option Page)
              → (is_some (option_map (λ (held : Page). held.tag) o) && is_same_frame (option_map (λ (held : Page). held.tag) o) (option_map (λ (held : Page). held.tag) u))
              ≡ have_one_frame (look_at c v o) (look_at c w u)
          go None None = refl
          go None (Some y) = refl
          go (Some x) None = refl
          go (Some x) (Some y) = refl

      -- they have one frame
      module _ (one : are_one ≡ true) where
        -- the pages with it
        held_both : (mine : Page) × (its : Page) × (c.page v p ≡ Some mine) × (c.page w q ≡ Some its) × (mine.tag ≡ its.tag)
        held_both = go (c.page v p) (c.page w q) refl refl one where
          go : (o u : Option Page) → c.page v p ≡ o → c.page w q ≡ u
              → (is_some (option_map (λ (held : Page). held.tag) o) && is_same_frame (option_map (λ (held : Page). held.tag) o) (option_map (λ (held : Page). held.tag) u)) ≡ true
              → (mine : Page) × (its : Page) × (c.page v p ≡ Some mine) × (c.page w q ≡ Some its) × (mine.tag ≡ its.tag)
          go None u e f is = absurd cc
          go (Some x) None e f is = absurd cc
          go (Some x) (Some y) e f is = (x, y, e, f, eqb_is x.tag y.tag is)

        elsewhere : w ≡ v → q ≡ p → ⊥
        elsewhere vmo page = both_ways ((v == w) && (p == q)) two (and_from (v == w) (p == q) (eq-eqb v w (sym vmo)) (eq-eqb p q (sym page)))

        -- the second is there still, with its frame
        second-held : (other : Page) → c.page w q ≡ Some other → (hold c v p fresh).page w q ≡ Some other
        second-held other e = page-hold_other c v p fresh w q elsewhere ∙ e

        -- no third VMO shows it
        pub after-last : (IsSeenByThird c v p w → ⊥) → 1 ≡ need_each c (first ∷ second ∷ [])
        after-last none =
            let held = held_both in
            let low = good.tags w q held.1 held.3 in
            need-first_shared shared true (sole_from (hold c v p fresh) w q held.1 (second-held held.1 held.3) (λ x y seen foreign e same.
            elim (page-hold_cases c v p fresh x y seen e) [
              | inl new ↦ let tag : c.frames ≡ seen.tag = ap (λ (page : Page). page.tag) new.2 in omega (arith, low, same, tag)
              | inr old ↦ elim (cases_eq x v) [
                | inl vmo ↦
                    let there : c.page v y ≡ Some seen = ap (λ (u : ℕ). c.page u y) (sym vmo) ∙ old.1 in
                    old.0 vmo (good.apart v y p seen held.0 there held.2 (same ∙ sym held.4))
                | inr apart ↦ none (record {
                  held = held.0;
                  is = held.2;
                  u = x;
                  q = y;
                  seen = seen;
                  shows = old.1;
                  same = same ∙ sym held.4;
                  other = apart;
                  third = foreign;
                })
              ]
            ]))

        -- a third VMO does
        seen-third : (t : ℕ) → (third : IsSeenByThird c v p w) → third.seen.tag ≡ t → seen_elsewhere (hold c v p fresh) t w ≡ true
        unfolding seen_elsewhere hold pages_of
        seen-third t third same =
            let low = good.below third.u third.q third.seen third.shows in
            any_below_at c.next third.u (λ u. not (u == w) && views (hold c v p fresh) t u) (koid_below c third.u third.q good low)
            (and_from (not (third.u == w)) (views (hold c v p fresh) t third.u) (ap not (eqb_apart third.u w third.third))
            (views_at (hold c v p fresh) t third.u third.q third.seen low
            (page-hold_other c v p fresh third.u third.q (λ vmo page. third.other vmo) ∙ third.shows) same))

        pub after-third : IsSeenByThird c v p w → 2 ≡ need_each c (first ∷ second ∷ [])
        after-third third =
            let held = held_both in
            let is : third.held ≡ held.0 = some_same (sym third.is ∙ held.2) in
            let same : third.seen.tag ≡ held.1.tag = third.same ∙ (ap (λ (page : Page). page.tag) is ∙ held.4) in
            need-first_shared shared false (sole-at (hold c v p fresh) w q held.1 (second-held held.1 held.3) ∙ ap not (seen-third held.1.tag third same))
