-- How many VMOs show a frame, where a page more is held.
use Rattle.std.proofs.Common.{◌≡◌, ◌≢◌, ℕ, ◌+◌, ◌<◌, Bool, false, not, ◌&&◌, ◌==◌, cond, None, Some, refl, sym, ap, subst, ◌∙◌, inl, inr, arith}
use Rattle.std.specs.Prelude.{nat_lt}
use Rattle.std.specs.Cmp.{both_ways}
use Rattle.std.proofs.lemmas.Bool.{cases_eq, false_from_ne_true, and_left, eq-eqb, ne_eqb}
use Rattle.std.proofs.lemmas.Bool.Decides.{nat_tests}
use Rattle.vm_base.specs.Search.{count_below}
use Rattle.vm_base.proofs.SearchLaws.{any_below-count, count_below_change, count_below-bound, bit-true, bit-false, eqb_same, eqb_apart}
use Rattle.vm_model.specs.Contents.Content.{Page, Content, views, in_use, seen_elsewhere, is_sole_page, hold, IsGood}
use Rattle.vm_model.specs.Contents.Sharing.{viewers}
use Rattle.vm_model.specs.Contents.Zeroing.{zeroed}
use Rattle.vm_model.proofs.ContentLaws.{pages_of-same, zero_not_held, held_once, page-hold_here, page-hold_other, views_found, views_at, views-same}
use Rattle.vm_model.proofs.SharingLaws.{views_held, koid_held}
use Rattle.vm_model.proofs.ZeroingLaws.{page-zeroed_in}

-- a frame is in use where some VMO shows it
pub in_use-viewers : (c : Content) (t : ℕ) → in_use c t ≡ nat_lt 0 (viewers c t)
unfolding in_use viewers
in_use-viewers c t = any_below-count c.next (views c t)

-- a held page is sole where one VMO shows its frame
pub sole-viewers : (c : Content) (v p : ℕ) (held : Page) → IsGood c → c.page v p ≡ Some held → is_sole_page c v (Some held) ≡ (viewers c held.tag == 1)
unfolding is_sole_page seen_elsewhere viewers
sole-viewers c v p held good e =
    let other : ℕ → Bool = λ w. not (w == v) && views c held.tag w in
    let shows = views_held c held.tag v p held good e refl in
    let off : other v ≡ false = and_left (not (v == v)) (views c held.tag v) (ap not (eqb_same v)) in
    let change = count_below_change c.next v (views c held.tag) other (koid_held c v p held good e) (λ w h apart.
    ap (λ b. not b && views c held.tag w) (eqb_apart w v apart)) in
    let more : count_below c.next (views c held.tag) ≡ count_below c.next other + 1 =
    omega (arith, change, bit-true (views c held.tag v) shows, bit-false (other v) off) in
    rw (any_below-count c.next other) (grind (arith, nat_tests))

-- ---- a page more

-- d is c where page p of v is held too
pub record IsOneMore (c d : Content) (v p : ℕ) (held : Page) : Type 0 where
  pub next : d.next ≡ c.next
  pub count : (w : ℕ) → d.count w ≡ c.count w
  pub was : c.page v p ≡ None
  pub is : d.page v p ≡ Some held
  pub rest : (w q : ℕ) → (w ≡ v → q ≡ p → ⊥) → d.page w q ≡ c.page w q

pub IsOneMore-hold : (c : Content) (v p : ℕ) (held : Page) → c.page v p ≡ None → IsOneMore c (hold c v p held) v p held
unfolding hold
IsOneMore-hold c v p held zero = record {
  next = refl;
  count = λ w. refl;
  was = zero;
  is = page-hold_here c v p held;
  rest = page-hold_other c v p held;
}

pub IsOneMore-zeroed : (c : Content) (v p : ℕ) (held : Page) → c.page v p ≡ Some held → IsOneMore (zeroed c v p (p + 1)) c v p held
unfolding zeroed
IsOneMore-zeroed c v p held e = record {
  next = refl;
  count = λ w. refl;
  was = page-zeroed_in c v p (p + 1) v p refl (omega arith) (omega arith);
  is = e;
  rest = λ w q apart. grind (arith, nat_tests);
}

pub IsOneMore-moved : (c : Content) (v p : ℕ) (held : Page) → IsOneMore (zeroed c v p (p + 1)) (hold c v p held) v p held
unfolding zeroed hold
IsOneMore-moved c v p held = record {
  next = refl;
  count = λ w. refl;
  was = page-zeroed_in c v p (p + 1) v p refl (omega arith) (omega arith);
  is = page-hold_here c v p held;
  rest = λ w q apart. grind (arith, nat_tests);
}

module _ (c d : Content) (v p : ℕ) (held : Page) (good : IsGood d) (more : IsOneMore c d v p held) where
  -- v did not show the frame
  none-before : views c held.tag v ≡ false
  none-before = false_from_ne_true (views c held.tag v) (λ e.
      let found = views_found c held.tag v e in
      elim (cases_eq found.0 p) [
        | inl same ↦ zero_not_held (c.page v found.0) found.1 (ap (c.page v) same ∙ more.was) found.3
        | inr apart ↦ apart (good.apart v found.0 p found.1 held (more.rest v found.0 (λ _. apart) ∙ found.3) more.is found.4)
      ])

  -- and shows the other frames as before
  views-before : (u : ℕ) → u ≢ held.tag → views d u v ≡ views c u v
  views-before u other = both_ways (views d u v) (views c u v)
      (λ e.
      let found = views_found d u v e in
      elim (cases_eq found.0 p) [
        | inl same ↦ absurd (other (sym found.4 ∙ held_once (d.page v p) found.1 held (ap (d.page v) (sym same) ∙ found.3) more.is))
        | inr apart ↦ views_at c u v found.0 found.1 (subst (λ n. found.0 < n) (pages_of-same d c v (more.count v)) found.2)
            (sym (more.rest v found.0 (λ _. apart)) ∙ found.3) found.4
      ])
      (λ e.
      let found = views_found c u v e in
      elim (cases_eq found.0 p) [
        | inl same ↦ absurd (zero_not_held (c.page v found.0) found.1 (ap (c.page v) same ∙ more.was) found.3)
        | inr apart ↦ views_at d u v found.0 found.1 (subst (λ n. found.0 < n) (sym (pages_of-same d c v (more.count v))) found.2)
            (more.rest v found.0 (λ _. apart) ∙ found.3) found.4
      ])

  -- so one VMO more shows its frame
  pub viewers-more : (u : ℕ) → viewers d u ≡ viewers c u + cond (held.tag == u) 1 0
  unfolding viewers
  viewers-more u =
      let bound = count_below-bound d.next c.next (views d u) more.next in
      let change = count_below_change c.next v (views c u) (views d u) (subst (λ n. v < n) more.next (koid_held d v p held good more.is))
      (λ w h apart. views-same c d u w (more.count w) (λ q. more.rest w q (λ e. absurd (apart e)))) in
      elim (cases_eq u held.tag) [
        | inl same ↦
            let shows = views_held d u v p held good more.is (sym same) in
            let miss = bit-false (views c u v) (ap (λ t. views c t v) same ∙ none-before) in
            let here = bit-true (held.tag == u) (eq-eqb held.tag u (sym same)) in
            omega (arith, bound, change, bit-true (views d u v) shows, miss, here)
        | inr other ↦
            let same : ◌≡◌ {A = ℕ} (cond (views d u v) 1 0) (cond (views c u v) 1 0) = ap {B = ℕ} (λ b. cond b 1 0) (views-before u other) in
            let there = bit-false (held.tag == u) (ne_eqb held.tag u (λ e. other (sym e))) in
            omega (arith, bound, change, same, there)
      ]
