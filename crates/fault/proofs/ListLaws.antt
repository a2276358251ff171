-- The lists of links: the way from the first link of a list to each other, and the lists as a link comes or goes.
use Rattle.std.proofs.Common.{◌≡◌, ◌≢◌, ℕ, zero, suc, ◌+◌, ◌-◌, ◌<◌, ◌≤◌, ◌==◌, Bool, cond, Option, None, Some, IsSome, is_some, ◌⊎◌, refl, sym, ap, ◌∙◌, inl, inr, arith}
use Rattle.std.specs.Prelude.{nat_lt}
use Rattle.std.proofs.lemmas.Bool.{cases_eq, cases_lt, lt-ltb, le-ltb, cond-true, cond-false}
use Rattle.vm_base.specs.declared.names.Tag.{Tag}
use Rattle.vm_base.proofs.EntryLaws.{some_same}
use Rattle.vm_base.proofs.SearchLaws.{eqb_same, eqb_apart}
use Rattle.balanced_tree.specs.Pairs.{with_pair}
use Rattle.mapping_set.proofs.TableLaws.{with_pair-cases}
use Rattle.fault.specs.inside.Lists.{Shown, AreLists, ahead, steps_from}
use Rattle.fault.proofs.PairLaws.{missing, pair-other, pair-here, pair-cases}

-- a link leads somewhere, or it does not
pub leads : (o : Option ℕ) (x : ℕ) → (o ≡ Some x) ⊎ (o ≡ Some x → ⊥)
leads None x = inr (λ e. absurd cc)
leads (Some y) x = elim (cases_eq y x) [
  | inl same ↦ inl (ap {B = Option ℕ} (λ n. Some n) same)
  | inr apart ↦ inr (λ e. apart (some_same e))
]

-- one link more on the way
ahead-more : (next : ℕ → Option ℕ) (n : ℕ) (at : Option ℕ) (y x : ℕ) → ahead next n at ≡ Some y → next y ≡ Some x → ahead next (suc n) at ≡ Some x
ahead-more next zero None y x e f = absurd cc
ahead-more next zero (Some z) y x e f = ap next (some_same e) ∙ f
ahead-more next (suc n) None y x e f = absurd cc
ahead-more next (suc n) (Some z) y x e f = ahead-more next n (next z) y x e f

-- The link is in the list of the page that it shows, so many links behind its first.
pub record IsReached (shown : ℕ → Option Shown) (next : ℕ → Option ℕ) (lists : ℕ → ℕ → Option ℕ) (a : Shown) (x : ℕ) : Type 0 where
  pub first : ℕ
  pub is : lists a.0 a.1 ≡ Some first
  pub shows : shown first ≡ Some a
  pub steps : ℕ
  pub reach : ahead next steps (Some first) ≡ Some x

module _ (shown : ℕ → Option Shown) (previous next : ℕ → Option ℕ) (lists : ℕ → ℕ → Option ℕ) (count : ℕ) (h : AreLists shown previous next lists count) where
  reached-below : (m x : ℕ) (a : Shown) → h.order x < m → shown x ≡ Some a → IsReached shown next lists a x
  reached-below zero x a low is = absurd (omega arith)
  reached-below (suc m) x a low is = go (previous x) refl (reached-below m)
    where
      go : (o : Option ℕ) → previous x ≡ o → ((y : ℕ) (b : Shown) → h.order y < m → shown y ≡ Some b → IsReached shown next lists b y)
          → IsReached shown next lists a x
      go None e up = record { first = x; is = h.head a.0 a.1 x a.2 is e; shows = is; steps = zero; reach = refl }
      go (Some y) e up =
          let b = h.before x y e in
          let less = b.2 in
          let above = up y a (omega arith) (b.1 ∙ is) in
          record {
            first = above.first;
            is = above.is;
            shows = above.shows;
            steps = suc above.steps;
            reach = ahead-more next above.steps (Some above.first) y x above.reach b.0;
          }

  -- each link is in the list of the page that it shows
  pub reached : (x : ℕ) (a : Shown) → shown x ≡ Some a → IsReached shown next lists a x
  reached x a is = reached-below (suc (h.order x)) x a (omega arith) is

  -- what a link leads to shows what it shows
  pub behind-shown : (x y : ℕ) → next x ≡ Some y → shown y ≡ shown x
  behind-shown x y e = sym (h.before y x (h.behind x y e)).1

  -- ---- how many links are ahead

  steps-enough : (n : ℕ) (at : Option ℕ) → ((x : ℕ) → at ≡ Some x → IsSome (shown x) × (count ≤ h.order x + n)) → steps_from next (suc n) at ≡ steps_from next n at
  steps-enough zero None few = refl
  steps-enough zero (Some x) few = let here = few x refl in let low = h.below x here.0 in let high = here.1 in absurd (omega arith)
  steps-enough (suc n) None few = refl
  steps-enough (suc n) (Some x) few = ap {B = ℕ} (λ m. suc m) (steps-enough n (next x) (λ y e.
      let back = h.behind x y e in
      let less = (h.before y x back).2 in
      let high = (few x refl).1 in
      (h.there y x back, omega arith)))

  -- behind a link there is one less
  pub steps-less : (n x : ℕ) → n ≡ count → IsSome (shown x) → steps_from next n (next x) < steps_from next n (Some x)
  steps-less zero x all some = let low = h.below x some in absurd (omega arith)
  steps-less (suc n) x all some =
      let enough = steps-enough n (next x) (λ y e.
      let back = h.behind x y e in
      let less = (h.before y x back).2 in
      (h.there y x back, omega arith)) in
      omega (arith, enough)

  -- ---- a link that is alone in its list shows its page with another frame

  module _ (x : ℕ) (a b : Shown) (is_here : shown x ≡ Some a) (koid : a.0 ≡ b.0) (page : a.1 ≡ b.1) (first_of : previous x ≡ None) (last_of : next x ≡ None)
      (other_frame : ℕ → Option Shown) (shows_now : other_frame x ≡ Some b) (shows_same : (z : ℕ) → z ≢ x → other_frame z ≡ shown z) where
    was-there_alone : (z : ℕ) → IsSome (other_frame z) → IsSome (shown z)
    was-there_alone z some = elim (cases_eq z x) [
      | inl same ↦ ap {B = Bool} is_some (ap shown same ∙ is_here)
      | inr apart ↦ ap {B = Bool} is_some (sym (shows_same z apart)) ∙ some
    ]

    behind-alone : (z y : ℕ) → previous z ≡ Some y → (z ≢ x) × (y ≢ x)
    behind-alone z y e = (
      λ same. missing (sym (ap previous same) ∙ e) first_of,
      λ same. missing (sym (ap next same) ∙ (h.before z y e).0) last_of,
    )

    pub AreLists-alone : AreLists other_frame previous next lists count
    AreLists-alone = record {
      order = h.order;
      first = λ v p z is.
          let old = h.first v p z is in
          elim (cases_eq z x) [
            | inl same ↦
                let was : a ≡ (v, p, old.0) = some_same (sym is_here ∙ (ap shown (sym same) ∙ old.1)) in
                let v_is = sym koid ∙ ap (λ (c : Shown). c.0) was in
                let p_is = sym page ∙ ap (λ (c : Shown). c.1) was in
                (b.2, ap other_frame same ∙ (shows_now ∙ (λ i. Some (v_is i, p_is i, b.2))), old.2)
            | inr apart ↦ (old.0, shows_same z apart ∙ old.1, old.2)
          ];
      head = λ v p z frame is none. elim (cases_eq z x) [
        | inl same ↦
            let now : b ≡ (v, p, frame) = some_same (sym shows_now ∙ (ap other_frame (sym same) ∙ is)) in
            let v_is : v ≡ a.0 = sym (koid ∙ ap (λ (c : Shown). c.0) now) in
            let p_is : p ≡ a.1 = sym (page ∙ ap (λ (c : Shown). c.1) now) in
            ap (λ n. lists n p) v_is ∙ (ap (lists a.0) p_is ∙ (h.head a.0 a.1 x a.2 is_here first_of ∙ ap {B = Option ℕ} (λ n. Some n) (sym same)))
        | inr apart ↦ h.head v p z frame (sym (shows_same z apart) ∙ is) none
      ];
      before = λ z y e.
          let old = h.before z y e in
          let out = behind-alone z y e in
          (old.0, shows_same y out.1 ∙ (old.1 ∙ sym (shows_same z out.0)), old.2);
      behind = h.behind;
      there = λ z y e. ap {B = Bool} is_some (shows_same z (behind-alone z y e).0) ∙ h.there z y e;
      below = λ z some. h.below z (was-there_alone z some);
      apart = λ z y some also same. h.apart z y (was-there_alone z some) (was-there_alone y also) same;
    }

    -- it is the only one that shows the page
    pub alone-in_list : (z : ℕ) (c : Shown) → shown z ≡ Some c → c.0 ≡ a.0 → c.1 ≡ a.1 → z ≡ x
    alone-in_list z c is koid_is page_is =
        let way = reached z c is in
        let begin : way.first ≡ x = some_same (sym way.is ∙ (ap (λ n. lists n c.1) koid_is ∙ (ap (lists a.0) page_is ∙ h.head a.0 a.1 x a.2 is_here first_of))) in
        at way.steps (ap (λ f. ahead next way.steps (Some f)) (sym begin) ∙ way.reach)
      where
        at : (n : ℕ) → ahead next n (Some x) ≡ Some z → z ≡ x
        at zero e = sym (some_same e)
        at (suc n) e = past n (next x) last_of e
          where
            past : (n : ℕ) (o : Option ℕ) → o ≡ None → ahead next n o ≡ Some z → z ≡ x
            past zero o none e = absurd (missing e none)
            past (suc n) None none e = absurd cc
            past (suc n) (Some y) none e = absurd cc

  -- ---- a link comes

  module _ (x : ℕ) (a : Shown) (free : shown x ≡ None) (more : ℕ → Option Shown) (back on : ℕ → Option ℕ)
      (shown_here : more x ≡ Some a) (shown_other : (z : ℕ) → z ≢ x → more z ≡ shown z) where
    -- a link that was there is another
    was-there : (z : ℕ) → IsSome (shown z) → z ≢ x
    was-there z some same = absurd (let no = sym some ∙ ap {B = Bool} (λ n. is_some (shown n)) same ∙ ap {B = Bool} is_some free in cc)

    shown-there : (z : ℕ) (b : Shown) → shown z ≡ Some b → z ≢ x
    shown-there z b is = was-there z (ap {B = Bool} is_some is)

    before-there : (z y : ℕ) → previous z ≡ Some y → y ≢ x
    before-there z y e = was-there y (ap {B = Bool} is_some (h.before z y e).1 ∙ h.there z y e)

    -- it is the only one of its list
    module _ (none : lists a.0 a.1 ≡ None) (back_here : back x ≡ None) (back_other : (z : ℕ) → z ≢ x → back z ≡ previous z)
        (on_here : on x ≡ None) (on_other : (z : ℕ) → z ≢ x → on z ≡ next z)
        (now : ℕ → ℕ → Option ℕ) (now_is : now ≡ with_pair lists a.0 a.1 (Some x)) where
      rank : ℕ → ℕ
      rank z = cond (z == x) count (h.order z)

      rank-here : (z : ℕ) → z ≡ x → rank z ≡ count
      unfolding rank
      rank-here z same = cond-true (z == x) count (h.order z) (ap {B = Bool} (λ n. n == x) same ∙ eqb_same x)

      rank-other : (z : ℕ) → z ≢ x → rank z ≡ h.order z
      unfolding rank
      rank-other z apart = cond-false (z == x) count (h.order z) (eqb_apart z x apart)

      first-now : (v p z : ℕ) → now v p ≡ Some z → (frame : Option Tag) × (more z ≡ Some (v, p, frame)) × (back z ≡ None)
      first-now v p z is = elim (pair-cases lists now a.0 a.1 x now_is v p z is) [
        | inl here ↦ (
          a.2,
          ap more (sym here.2) ∙ (shown_here ∙ (λ i. Some (sym here.0 i, sym here.1 i, a.2))),
          ap back (sym here.2) ∙ back_here,
        )
        | inr there ↦
            let old = h.first v p z there.1 in
            let apart = shown-there z _ old.1 in
            (old.0, shown_other z apart ∙ old.1, back_other z apart ∙ old.2)
      ]

      pub AreLists-first : AreLists more back on now (count + 1)
      AreLists-first = record {
        order = rank;
        first = first-now;
        head = λ v p z frame is none_before. elim (cases_eq z x) [
          | inl same ↦
              let page : a ≡ (v, p, frame) = some_same (sym shown_here ∙ (ap more (sym same) ∙ is)) in
              pair-here lists now a.0 a.1 (Some x) now_is v p (ap (λ (b : Shown). b.0) (sym page)) (ap (λ (b : Shown). b.1) (sym page))
              ∙ ap {B = Option ℕ} (λ n. Some n) (sym same)
          | inr apart ↦
              let old = h.head v p z frame (sym (shown_other z apart) ∙ is) (sym (back_other z apart) ∙ none_before) in
              pair-other lists now a.0 a.1 (Some x) now_is v p (λ one two. missing old (ap (λ n. lists n p) one ∙ (ap (lists a.0) two ∙ none))) ∙ old
        ];
        before = λ z y e. elim (cases_eq z x) [
          | inl same ↦ absurd (missing (sym (ap back same) ∙ e) back_here)
          | inr apart ↦
              let was = sym (back_other z apart) ∙ e in
              let old = h.before z y was in
              let less = old.2 in
              let other = before-there z y was in (
                on_other y other ∙ old.0,
                shown_other y other ∙ (old.1 ∙ sym (shown_other z apart)),
                omega (arith, rank-other y other, rank-other z apart),
              )
        ];
        behind = λ z y e. elim (cases_eq z x) [
          | inl same ↦ absurd (missing (sym (ap on same) ∙ e) on_here)
          | inr apart ↦
              let old = h.behind z y (sym (on_other z apart) ∙ e) in
              back_other y (was-there y (h.there y z old)) ∙ old
        ];
        there = λ z y e. elim (cases_eq z x) [
          | inl same ↦ absurd (missing (sym (ap back same) ∙ e) back_here)
          | inr apart ↦ ap {B = Bool} is_some (shown_other z apart) ∙ h.there z y (sym (back_other z apart) ∙ e)
        ];
        below = λ z some. elim (cases_eq z x) [
          | inl same ↦ omega (arith, rank-here z same)
          | inr apart ↦ let low = h.below z (ap {B = Bool} is_some (sym (shown_other z apart)) ∙ some) in omega (arith, rank-other z apart)
        ];
        apart = λ z y some also same_rank. elim (cases_eq z x) [
          | inl here ↦ elim (cases_eq y x) [
            | inl there ↦ here ∙ sym there
            | inr other ↦
                let low = h.below y (ap {B = Bool} is_some (sym (shown_other y other)) ∙ also) in
                absurd (omega (arith, rank-here z here, rank-other y other, same_rank))
          ]
          | inr one ↦ elim (cases_eq y x) [
            | inl there ↦
                let low = h.below z (ap {B = Bool} is_some (sym (shown_other z one)) ∙ some) in
                absurd (omega (arith, rank-here y there, rank-other z one, same_rank))
            | inr other ↦
                h.apart z y (ap {B = Bool} is_some (sym (shown_other z one)) ∙ some) (ap {B = Bool} is_some (sym (shown_other y other)) ∙ also)
                (omega (arith, rank-other z one, rank-other y other, same_rank))
          ]
        ];
      }

    -- it stands behind the first of its list
    module _ (f : ℕ) (shows : shown f ≡ Some a) (back_here : back x ≡ Some f) (back_behind : (z : ℕ) → next f ≡ Some z → back z ≡ Some x)
        (back_other : (z : ℕ) → z ≢ x → (next f ≡ Some z → ⊥) → back z ≡ previous z)
        (on_here : on x ≡ next f) (on_first : on f ≡ Some x) (on_other : (z : ℕ) → z ≢ x → z ≢ f → on z ≡ next z) where
      rank-in : ℕ → ℕ
      rank-in z = cond (z == x) (h.order f + 1) (cond (nat_lt (h.order f) (h.order z)) (h.order z + 1) (h.order z))

      rank-new : (z : ℕ) → z ≡ x → rank-in z ≡ h.order f + 1
      unfolding rank-in
      rank-new z same = cond-true (z == x) (h.order f + 1) _ (ap {B = Bool} (λ n. n == x) same ∙ eqb_same x)

      rank-old : (z : ℕ) → z ≢ x → ((h.order f < h.order z) × (rank-in z ≡ h.order z + 1)) ⊎ ((h.order z ≤ h.order f) × (rank-in z ≡ h.order z))
      unfolding rank-in
      rank-old z apart = elim (cases_lt (h.order f) (h.order z)) [
        | inl less ↦ inl (
          less,
          cond-false (z == x) (h.order f + 1) _ (eqb_apart z x apart)
              ∙ cond-true (nat_lt (h.order f) (h.order z)) (h.order z + 1) (h.order z) (lt-ltb (h.order f) (h.order z) less),
        )
        | inr more ↦ inr (
          more,
          cond-false (z == x) (h.order f + 1) _ (eqb_apart z x apart)
              ∙ cond-false (nat_lt (h.order f) (h.order z)) (h.order z + 1) (h.order z) (le-ltb (h.order f) (h.order z) more),
        )
      ]

      rank-less : (y z : ℕ) → y ≢ x → z ≢ x → h.order y < h.order z → rank-in y < rank-in z
      rank-less y z one two less = elim (rank-old y one) [
        | inl here ↦ elim (rank-old z two) [
          | inl there ↦ omega (arith, here.1, there.1)
          | inr there ↦ absurd (omega (arith, here.0, there.0))
        ]
        | inr here ↦ elim (rank-old z two) [
          | inl there ↦ omega (arith, here.1, there.1)
          | inr there ↦ omega (arith, here.1, there.1)
        ]
      ]

      first-apart : f ≢ x
      first-apart = shown-there f a shows

      was-shown : (z : ℕ) → z ≢ x → IsSome (more z) → IsSome (shown z)
      was-shown z apart some = ap {B = Bool} is_some (sym (shown_other z apart)) ∙ some

      before-now : (z y : ℕ) → back z ≡ Some y → (on y ≡ Some z) × (more y ≡ more z) × (rank-in y < rank-in z)
      before-now z y e = elim (cases_eq z x) [
        | inl same ↦
            let is_first : f ≡ y = some_same (sym back_here ∙ (sym (ap back same) ∙ e)) in (
              ap on (sym is_first) ∙ (on_first ∙ ap {B = Option ℕ} (λ n. Some n) (sym same)),
              ap more (sym is_first) ∙ (shown_other f first-apart ∙ (shows ∙ (sym shown_here ∙ ap more (sym same)))),
              elim (rank-old f first-apart) [
                | inl less ↦ let no = less.0 in absurd (omega arith)
                | inr old ↦ omega (arith, ap rank-in is_first, old.1, rank-new z same)
              ],
            )
        | inr apart ↦ elim (leads (next f) z) [
          | inl follows ↦
              let is_new : x ≡ y = some_same (sym (back_behind z follows) ∙ e) in
              let old = h.before z f (h.behind f z follows) in
              let less = old.2 in (
                ap on (sym is_new) ∙ (on_here ∙ follows),
                ap more (sym is_new) ∙ (shown_here ∙ (sym shows ∙ (old.1 ∙ sym (shown_other z apart)))),
                elim (rank-old z apart) [
                  | inl up ↦ omega (arith, ap rank-in is_new, rank-new x refl, up.1)
                  | inr under ↦ let le = under.0 in absurd (omega arith)
                ],
              )
          | inr other ↦
              let was = sym (back_other z apart other) ∙ e in
              let old = h.before z y was in
              let out = before-there z y was in (
                on_other y out (λ same. other (ap next (sym same) ∙ old.0)) ∙ old.0,
                shown_other y out ∙ (old.1 ∙ sym (shown_other z apart)),
                rank-less y z out apart old.2,
              )
        ]
      ]

      behind-now : (z y : ℕ) → on z ≡ Some y → back y ≡ Some z
      behind-now z y e = elim (cases_eq z x) [
        | inl same ↦ back_behind y (sym on_here ∙ (sym (ap on same) ∙ e)) ∙ ap {B = Option ℕ} (λ n. Some n) (sym same)
        | inr apart ↦ elim (cases_eq z f) [
          | inl same ↦
              let is_new : x ≡ y = some_same (sym on_first ∙ (sym (ap on same) ∙ e)) in
              ap back (sym is_new) ∙ (back_here ∙ ap {B = Option ℕ} (λ n. Some n) (sym same))
          | inr other ↦
              let old = h.behind z y (sym (on_other z apart other) ∙ e) in
              back_other y (was-there y (h.there y z old)) (λ follows. other (some_same (sym old ∙ h.behind f y follows))) ∙ old
        ]
      ]

      pub AreLists-behind : AreLists more back on lists (count + 1)
      AreLists-behind = record {
        order = rank-in;
        first = λ v p z is.
            let old = h.first v p z is in
            let out = shown-there z _ old.1 in
            (old.0, shown_other z out ∙ old.1, back_other z out (λ follows. missing (h.behind f z follows) old.2) ∙ old.2);
        head = λ v p z frame is none_before. elim (cases_eq z x) [
          | inl same ↦ absurd (missing back_here (sym (ap back same) ∙ none_before))
          | inr out ↦ elim (leads (next f) z) [
            | inl follows ↦ absurd (missing (back_behind z follows) none_before)
            | inr other ↦ h.head v p z frame (sym (shown_other z out) ∙ is) (sym (back_other z out other) ∙ none_before)
          ]
        ];
        before = before-now;
        behind = behind-now;
        there = λ z y e. elim (cases_eq z x) [
          | inl same ↦ ap {B = Bool} is_some (ap more same ∙ shown_here)
          | inr out ↦ ap {B = Bool} is_some (shown_other z out) ∙ elim (leads (next f) z) [
            | inl follows ↦ h.there z f (h.behind f z follows)
            | inr other ↦ h.there z y (sym (back_other z out other) ∙ e)
          ]
        ];
        below = λ z some. elim (cases_eq z x) [
          | inl same ↦ let low = h.below f (ap {B = Bool} is_some shows) in omega (arith, rank-new z same)
          | inr out ↦
              let low = h.below z (was-shown z out some) in
              elim (rank-old z out) [ inl up ↦ omega (arith, up.1) | inr old ↦ omega (arith, old.1) ]
        ];
        apart = λ z y some also same_rank. elim (cases_eq z x) [
          | inl here ↦ elim (cases_eq y x) [
            | inl there ↦ here ∙ sym there
            | inr out ↦ elim (rank-old y out) [
              | inl up ↦ let less = up.0 in absurd (omega (arith, rank-new z here, up.1, same_rank))
              | inr old ↦ let le = old.0 in absurd (omega (arith, rank-new z here, old.1, same_rank))
            ]
          ]
          | inr one ↦ elim (cases_eq y x) [
            | inl there ↦ elim (rank-old z one) [
              | inl up ↦ let less = up.0 in absurd (omega (arith, rank-new y there, up.1, same_rank))
              | inr old ↦ let le = old.0 in absurd (omega (arith, rank-new y there, old.1, same_rank))
            ]
            | inr two ↦ h.apart z y (was-shown z one some) (was-shown y two also) (elim (rank-old z one) [
              | inl up ↦ elim (rank-old y two) [
                | inl high ↦ omega (arith, up.1, high.1, same_rank)
                | inr low ↦ absurd (omega (arith, up.0, up.1, low.0, low.1, same_rank))
              ]
              | inr old ↦ elim (rank-old y two) [
                | inl high ↦ absurd (omega (arith, old.0, old.1, high.0, high.1, same_rank))
                | inr low ↦ omega (arith, old.1, low.1, same_rank)
              ]
            ])
          ]
        ];
      }

  -- ---- a link goes

  module _ (x : ℕ) (a : Shown) (is_here : shown x ≡ Some a) (less : ℕ → Option Shown) (back on : ℕ → Option ℕ) (now : ℕ → ℕ → Option ℕ) (fewer : ℕ)
      (one_less : fewer + 1 ≡ count)
      (shown_here : less x ≡ None) (shown_other : (z : ℕ) → z ≢ x → less z ≡ shown z)
      (back_here : back x ≡ None) (back_behind : (z : ℕ) → z ≢ x → next x ≡ Some z → back z ≡ previous x)
      (back_other : (z : ℕ) → z ≢ x → (next x ≡ Some z → ⊥) → back z ≡ previous z)
      (on_here : on x ≡ None) (on_before : (z : ℕ) → z ≢ x → previous x ≡ Some z → on z ≡ next x)
      (on_other : (z : ℕ) → z ≢ x → (previous x ≡ Some z → ⊥) → on z ≡ next z)
      (now_first : previous x ≡ None → now ≡ with_pair lists a.0 a.1 (next x)) (now_other : (y : ℕ) → previous x ≡ Some y → now ≡ lists) where
    some-here : IsSome (shown x)
    some-here = ap {B = Bool} is_some is_here

    left : (z : ℕ) → IsSome (less z) → z ≢ x
    left z some same = absurd (let no = sym some ∙ ap {B = Bool} (λ n. is_some (less n)) same ∙ ap {B = Bool} is_some shown_here in cc)

    was-some : (z : ℕ) → z ≢ x → IsSome (less z) → IsSome (shown z)
    was-some z out some = ap {B = Bool} is_some (sym (shown_other z out)) ∙ some

    -- what was before a link is not that link
    before-apart : (z y : ℕ) → previous z ≡ Some y → y ≢ z
    before-apart z y e same = let low = (h.before z y e).2 in absurd (omega (arith, ap h.order same))

    rank-out : ℕ → ℕ
    rank-out z = cond (nat_lt (h.order x) (h.order z)) (h.order z - 1) (h.order z)

    rank-is : (z : ℕ) → IsSome (less z) → ((h.order x < h.order z) × (rank-out z ≡ h.order z - 1)) ⊎ ((h.order z < h.order x) × (rank-out z ≡ h.order z))
    unfolding rank-out
    rank-is z some = elim (cases_lt (h.order x) (h.order z)) [
      | inl up ↦ inl (up, cond-true (nat_lt (h.order x) (h.order z)) (h.order z - 1) (h.order z) (lt-ltb (h.order x) (h.order z) up))
      | inr low ↦ elim (cases_eq (h.order z) (h.order x)) [
        | inl same ↦ let out = left z some in absurd (out (h.apart z x (was-some z out some) some-here same))
        | inr other ↦ inr (omega (arith, low, other), cond-false (nat_lt (h.order x) (h.order z)) (h.order z - 1) (h.order z) (le-ltb (h.order x) (h.order z) low))
      ]
    ]

    rank-keeps : (y z : ℕ) → IsSome (less y) → IsSome (less z) → h.order y < h.order z → rank-out y < rank-out z
    rank-keeps y z one two under = elim (rank-is y one) [
      | inl here ↦ elim (rank-is z two) [
        | inl there ↦ omega (arith, here.0, here.1, there.0, there.1)
        | inr there ↦ absurd (omega (arith, here.0, there.0))
      ]
      | inr here ↦ elim (rank-is z two) [
        | inl there ↦ omega (arith, here.0, here.1, there.0, there.1)
        | inr there ↦ omega (arith, here.1, there.1)
      ]
    ]

    still : (z : ℕ) → z ≢ x → IsSome (shown z) → IsSome (less z)
    still z out some = ap {B = Bool} is_some (shown_other z out) ∙ some

    out-of : (z y : ℕ) → back z ≡ Some y → z ≢ x
    out-of z y e same = missing (sym (ap back same) ∙ e) back_here

    there-now : (z y : ℕ) → back z ≡ Some y → IsSome (less z)
    there-now z y e =
        let out = out-of z y e in
        still z out (elim (leads (next x) z) [
          | inl follows ↦ h.there z x (h.behind x z follows)
          | inr other ↦ h.there z y (sym (back_other z out other) ∙ e)
        ])

    before-left : (z y : ℕ) → back z ≡ Some y → (on y ≡ Some z) × (less y ≡ less z) × (rank-out y < rank-out z)
    before-left z y e =
        let out = out-of z y e in
        let here = there-now z y e in
        elim (leads (next x) z) [
          | inl follows ↦
              let was = sym (back_behind z out follows) ∙ e in
              let up = h.before x y was in
              let down = h.before z x (h.behind x z follows) in
              let apart = before-apart x y was in
              let same : less y ≡ less z = shown_other y apart ∙ (up.1 ∙ (down.1 ∙ sym (shown_other z out))) in
              let low = up.2 in
              let high = down.2 in
              (on_before y apart was ∙ follows, same, rank-keeps y z (ap {B = Bool} is_some same ∙ here) here (omega arith))
          | inr other ↦
              let was = sym (back_other z out other) ∙ e in
              let old = h.before z y was in
              let apart : y ≢ x = λ is. other (ap next (sym is) ∙ old.0) in
              let same : less y ≡ less z = shown_other y apart ∙ (old.1 ∙ sym (shown_other z out)) in (
                on_other y apart (λ is. out (some_same (sym old.0 ∙ (h.before x y is).0))) ∙ old.0,
                same,
                rank-keeps y z (ap {B = Bool} is_some same ∙ here) here old.2,
              )
        ]

    behind-left : (z y : ℕ) → on z ≡ Some y → back y ≡ Some z
    behind-left z y e = elim (cases_eq z x) [
      | inl same ↦ absurd (missing (sym (ap on same) ∙ e) on_here)
      | inr out ↦ elim (leads (previous x) z) [
        | inl before ↦
            let follows = sym (on_before z out before) ∙ e in
            back_behind y (λ same. before-apart y x (h.behind x y follows) (sym same)) follows ∙ before
        | inr other ↦
            let old = h.behind z y (sym (on_other z out other) ∙ e) in
            back_other y (λ same. other (ap previous (sym same) ∙ old)) (λ follows. out (some_same (sym old ∙ h.behind x y follows))) ∙ old
      ]
    ]

    -- a link that the one that goes has no part in
    apart-left : (v p z : ℕ) → lists v p ≡ Some z → z ≢ x → (frame : Option Tag) × (less z ≡ Some (v, p, frame)) × (back z ≡ None)
    apart-left v p z was out =
        let old = h.first v p z was in
        (old.0, shown_other z out ∙ old.1, back_other z out (λ follows. missing (h.behind x z follows) old.2) ∙ old.2)

    first-left : (v p z : ℕ) → now v p ≡ Some z → (frame : Option Tag) × (less z ≡ Some (v, p, frame)) × (back z ≡ None)
    first-left v p z is = go (previous x) refl
      where
        go : (o : Option ℕ) → previous x ≡ o → (frame : Option Tag) × (less z ≡ Some (v, p, frame)) × (back z ≡ None)
        go (Some y) e =
            let was : lists v p ≡ Some z = sym (ap (λ (m : ℕ → ℕ → Option ℕ). m v p) (now_other y e)) ∙ is in
            apart-left v p z was (λ same. missing (ap previous same ∙ e) (h.first v p z was).2)
        go None e = elim (with_pair-cases lists a.0 a.1 (next x) v p) [
          | inl here ↦
              let follows : next x ≡ Some z = sym here.2 ∙ (sym (ap (λ (m : ℕ → ℕ → Option ℕ). m v p) (now_first e)) ∙ is) in
              let was = h.behind x z follows in
              let out : z ≢ x = λ same. before-apart z x was (sym same) in (
                a.2,
                shown_other z out ∙ (sym (h.before z x was).1 ∙ (is_here ∙ (λ i. Some (sym here.0 i, sym here.1 i, a.2)))),
                back_behind z out follows ∙ e,
              )
          | inr there ↦
              let was : lists v p ≡ Some z = sym there.1 ∙ (sym (ap (λ (m : ℕ → ℕ → Option ℕ). m v p) (now_first e)) ∙ is) in
              let old = h.first v p z was in
              apart-left v p z was (λ same.
              let page : (v, p, old.0) ≡ a = some_same (sym old.1 ∙ (ap shown same ∙ is_here)) in
              there.0 (ap (λ (b : Shown). b.0) page) (ap (λ (b : Shown). b.1) page))
        ]

    head-left : (v p z : ℕ) (frame : Option Tag) → less z ≡ Some (v, p, frame) → back z ≡ None → now v p ≡ Some z
    head-left v p z frame shows none_before = elim (leads (next x) z) [
      | inl follows ↦
          let is_first : previous x ≡ None = sym (back_behind z out follows) ∙ none_before in
          let page : a ≡ (v, p, frame) = some_same (sym is_here ∙ ((h.before z x (h.behind x z follows)).1 ∙ was_shown)) in
          pair-here lists now a.0 a.1 (next x) (now_first is_first) v p (ap (λ (b : Shown). b.0) (sym page)) (ap (λ (b : Shown). b.1) (sym page)) ∙ follows
      | inr other ↦ go (previous x) refl (h.head v p z frame was_shown (sym (back_other z out other) ∙ none_before))
    ]
      where
        out : z ≢ x
        out = left z (ap {B = Bool} is_some shows)

        was_shown : shown z ≡ Some (v, p, frame)
        was_shown = sym (shown_other z out) ∙ shows

        go : (o : Option ℕ) → previous x ≡ o → lists v p ≡ Some z → now v p ≡ Some z
        go (Some y) e old = ap (λ (m : ℕ → ℕ → Option ℕ). m v p) (now_other y e) ∙ old
        go None e old = pair-other lists now a.0 a.1 (next x) (now_first e) v p (λ one two.
            let also = h.head a.0 a.1 x a.2 is_here e in
            out (some_same (sym old ∙ (ap (λ n. lists n p) one ∙ (ap (lists a.0) two ∙ also)))))
            ∙ old

    -- the lists are right, without the link
    pub AreLists-left : AreLists less back on now fewer
    AreLists-left = record {
      order = rank-out;
      first = first-left;
      head = head-left;
      before = before-left;
      behind = behind-left;
      there = there-now;
      below = λ z some.
          let low = h.below z (was-some z (left z some) some) in
          let high = h.below x some-here in
          elim (rank-is z some) [ inl up ↦ omega (arith, up.0, up.1) | inr under ↦ omega (arith, under.0, under.1) ];
      apart = λ z y some also same_rank. h.apart z y (was-some z (left z some) some) (was-some y (left y also) also) (elim (rank-is z some) [
        | inl up ↦ elim (rank-is y also) [
          | inl high ↦ omega (arith, up.0, up.1, high.0, high.1, same_rank)
          | inr low ↦ absurd (omega (arith, up.0, up.1, low.0, low.1, same_rank))
        ]
        | inr under ↦ elim (rank-is y also) [
          | inl high ↦ absurd (omega (arith, under.0, under.1, high.0, high.1, same_rank))
          | inr low ↦ omega (arith, under.1, low.1, same_rank)
        ]
      ]);
    }
