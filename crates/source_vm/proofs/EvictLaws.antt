-- Laws of pages that are evicted.
use Rattle.std.proofs.Common.{◌≡◌, ◌≢◌, ℕ, ◌+◌, ◌<◌, ◌≤◌, ◌⊎◌, inl, inr, ◌&&◌, ◌==◌, Bool, true, false, cond, Option, None, Some, refl, sym, ap, ◌∙◌, arith}
use Rattle.std.proofs.lemmas.Bool.{cases_eq, cases_lt}
use Rattle.vm_base.specs.Search.{HasNone, IsFirst}
use Rattle.vm_base.proofs.SearchLaws.{eqb_same, eqb_apart}
use Rattle.vm_base.proofs.EntryLaws.{none_is}
use Rattle.vm_model.specs.Contents.Content.{Content, Page, is_held, IsGood, pages_of}
use Rattle.vm_model.specs.Contents.Zeroing.{is_within, zeroed}
use Rattle.vm_model.proofs.ContentLaws.{IsGood-part, own_pages}
use Rattle.vm_model.proofs.ZeroingLaws.{is_within-true, is_within-false, page-zeroed_in, page-zeroed_out}
use Rattle.source_model.specs.declared.backing.Backing.{Backing}
use Rattle.source_vm.specs.Pages.{is_clean_page, is_clean_at, cleared}
use Rattle.source_vm.proofs.FillingLaws.{clean-zero}

module _ (b : Backing) (c : Content) (v first end : ℕ) where
  at_v : (q : ℕ) → (cleared b c v first end).page v q ≡ cond (is_within first end q && is_clean_at b c v q) None (c.page v q)
  unfolding cleared
  at_v q = ap (λ (t : Bool). cond (t && (is_within first end q && is_clean_at b c v q)) None (c.page v q)) (eqb_same v)

  pub page-cleared_vmo : (w q : ℕ) → w ≢ v → (cleared b c v first end).page w q ≡ c.page w q
  unfolding cleared
  page-cleared_vmo w q apart = ap (λ (t : Bool). cond (t && (is_within first end q && is_clean_at b c v q)) None (c.page w q)) (eqb_apart w v apart)

  pub page-cleared_in : (q : ℕ) → first ≤ q → q < end → (cleared b c v first end).page v q ≡ cond (is_clean_at b c v q) None (c.page v q)
  page-cleared_in q low less = at_v q ∙ ap (λ (t : Bool). cond (t && is_clean_at b c v q) None (c.page v q)) (is_within-true first end q low less)

  pub page-cleared_out : (q : ℕ) → (q < first) ⊎ (end ≤ q) → (cleared b c v first end).page v q ≡ c.page v q
  page-cleared_out q out = at_v q ∙ ap (λ (t : Bool). cond (t && is_clean_at b c v q) None (c.page v q)) (is_within-false first end q out)

  -- a page that is held now was held
  pub page-cleared_some : (w q : ℕ) (held : Page) → (cleared b c v first end).page w q ≡ Some held → c.page w q ≡ Some held
  unfolding cleared
  page-cleared_some w q held e = go ((w == v) && (is_within first end q && is_clean_at b c v q)) e where
    go : (bit : Bool) → cond bit None (c.page w q) ≡ Some held → c.page w q ≡ Some held
    go true f = absurd cc
    go false f = f

  pub IsGood-cleared : IsGood c → IsGood (cleared b c v first end)
  unfolding cleared pages_of
  IsGood-cleared good = IsGood-part c (cleared b c v first end) good (record {
    frames = refl;
    first_koid = good.first_koid;
    counts = λ w n e. ((good.koids w n e).0, (good.koids w n e).1, good.counts w n e);
    below = λ w q held e. good.below w q held (page-cleared_some w q held e);
    pages = own_pages c (cleared b c v first end) page-cleared_some;
  })

  pub pages_of-cleared : (w : ℕ) → pages_of (cleared b c v first end) w ≡ pages_of c w
  unfolding cleared pages_of
  pages_of-cleared w = refl

-- contents of which only pages differ
same_but : (b : Backing) (c d : Content) (v first end : ℕ) → d.frames ≡ c.frames → d.next ≡ c.next → d.count ≡ c.count
    → ((w q : ℕ) → d.page w q ≡ (cleared b c v first end).page w q) → d ≡ cleared b c v first end
unfolding cleared
same_but b c d v first end frames next count page = λ i. record { frames = frames i; next = next i; count = count i; page = λ w q. page w q i }

module _ (b : Backing) (c : Content) (v first end : ℕ) where
  by_page : (d : Content) → d.frames ≡ c.frames → d.next ≡ c.next → d.count ≡ c.count → ((q : ℕ) → d.page v q ≡ (cleared b c v first end).page v q)
      → ((w q : ℕ) → w ≢ v → d.page w q ≡ c.page w q) → d ≡ cleared b c v first end
  by_page d frames next count here other = same_but b c d v first end frames next count
      (λ w q. elim (cases_eq w v) [ inl e ↦ rw e (here q) | inr apart ↦ other w q apart ∙ sym (page-cleared_vmo b c v first end w q apart) ])

-- no page of the range is clean
pub cleared-none : (b : Backing) (c : Content) (v first end : ℕ) → HasNone (is_clean_at b c v) first end → c ≡ cleared b c v first end
cleared-none b c v first end none = by_page b c v first end c refl refl refl (λ q. elim (cases_lt q first) [
  | inl before ↦ sym (page-cleared_out b c v first end q (inl before))
  | inr low ↦ elim (cases_lt q end) [
    | inl less ↦ sym (page-cleared_in b c v first end q low less ∙ ap (λ (t : Bool). cond t None (c.page v q)) (none q low less))
    | inr past ↦ sym (page-cleared_out b c v first end q (inr past))
  ]
]) (λ w q apart. refl)

-- one page, which is clean, or is not
pub cleared-one : (b : Backing) (c : Content) (v p : ℕ) → is_clean_at b c v p ≡ true → zeroed c v p (p + 1) ≡ cleared b c v p (p + 1)
unfolding zeroed
cleared-one b c v p clean = by_page b c v p (p + 1) (zeroed c v p (p + 1)) refl refl refl (λ q. elim (cases_lt q p) [
  | inl before ↦ page-zeroed_out c v p (p + 1) v q (λ e. inl before) ∙ sym (page-cleared_out b c v p (p + 1) q (inl before))
  | inr low ↦ elim (cases_lt q (p + 1)) [
    | inl less ↦ let here : q ≡ p = omega (arith, low, less) in
        page-zeroed_in c v p (p + 1) v q refl low less ∙ sym (page-cleared_in b c v p (p + 1) q low less
        ∙ ap (λ (t : Bool). cond t None (c.page v q)) (ap (is_clean_at b c v) here ∙ clean))
    | inr past ↦ page-zeroed_out c v p (p + 1) v q (λ e. inr past) ∙ sym (page-cleared_out b c v p (p + 1) q (inr past))
  ]
]) (λ w q apart. page-zeroed_out c v p (p + 1) w q (λ e. absurd (apart e)))

pub cleared-not : (b : Backing) (c : Content) (v p : ℕ) → is_clean_at b c v p ≡ false → c ≡ cleared b c v p (p + 1)
cleared-not b c v p not_clean = cleared-none b c v p (p + 1) (λ q low less. let here : q ≡ p = omega (arith, low, less) in ap (is_clean_at b c v) here ∙ not_clean)

-- the pages before `from` were cleared, those from there to `page` are not held, and then the page was cleared
module _ (b : Backing) (old now : Content) (v first from page : ℕ) (is : now ≡ cleared b old v first from) (order : first ≤ from) (low : from ≤ page)
    (gap : HasNone (is_held now v) from page) where
  now_out : (q : ℕ) → (q < first) ⊎ (from ≤ q) → now.page v q ≡ old.page v q
  now_out q out = ap (λ (c : Content). c.page v q) is ∙ page-cleared_out b old v first from q out

  now_in : (q : ℕ) → first ≤ q → q < from → now.page v q ≡ cond (is_clean_at b old v q) None (old.page v q)
  now_in q l h = ap (λ (c : Content). c.page v q) is ∙ page-cleared_in b old v first from q l h

  nothing_left : (q : ℕ) (bit : Bool) → old.page v q ≡ None → cond bit None (old.page v q) ≡ None
  nothing_left q true e = refl
  nothing_left q false e = e

  same_at : (q : ℕ) → (cleared b now v page (page + 1)).page v q ≡ (cleared b old v first (page + 1)).page v q
  same_at q = elim (cases_lt q first) [
    | inl before ↦ page-cleared_out b now v page (page + 1) q (inl (omega (arith, before, order, low))) ∙ (now_out q (inl before) ∙ sym (page-cleared_out b old v first (page + 1) q (inl before)))
    | inr above ↦ elim (cases_lt q from) [
      | inl done ↦ page-cleared_out b now v page (page + 1) q (inl (omega (arith, done, low))) ∙ (now_in q above done ∙ sym (page-cleared_in b old v first (page + 1) q above (omega (arith, done, low))))
      | inr later ↦ elim (cases_lt q page) [
        | inl between ↦
            let bare = none_is (now.page v q) (gap q later between) in
            let none : old.page v q ≡ None = sym (now_out q (inr later)) ∙ bare in
            page-cleared_out b now v page (page + 1) q (inl between) ∙ (bare
            ∙ sym (page-cleared_in b old v first (page + 1) q above (omega (arith, between)) ∙ nothing_left q (is_clean_at b old v q) none))
        | inr at ↦ elim (cases_lt q (page + 1)) [
          | inl less ↦ page-cleared_in b now v page (page + 1) q at less ∙ (ap (λ (o : Option Page). cond (is_clean_page b o q) None o) (now_out q (inr later))
              ∙ sym (page-cleared_in b old v first (page + 1) q above less))
          | inr past ↦ page-cleared_out b now v page (page + 1) q (inr past) ∙ (now_out q (inr later) ∙ sym (page-cleared_out b old v first (page + 1) q (inr past)))
        ]
      ]
    ]
  ]

  pub cleared-step : cleared b now v page (page + 1) ≡ cleared b old v first (page + 1)
  unfolding cleared
  cleared-step = by_page b old v first (page + 1) (cleared b now v page (page + 1))
      (ap (λ (c : Content). c.frames) is) (ap (λ (c : Content). c.next) is) (ap (λ (c : Content). c.count) is) same_at
      (λ w q apart. page-cleared_vmo b now v page (page + 1) w q apart ∙ (ap (λ (c : Content). c.page w q) is ∙ page-cleared_vmo b old v first from w q apart))

-- the pages that are left of the range are not held
pub cleared-end : (b : Backing) (old now : Content) (v first from end : ℕ) → now ≡ cleared b old v first from → first ≤ from
    → HasNone (is_held now v) from end → from ≤ end → now ≡ cleared b old v first end
unfolding cleared
cleared-end b old now v first from end is order gap h = by_page b old v first end now
    (ap (λ (c : Content). c.frames) is) (ap (λ (c : Content). c.next) is) (ap (λ (c : Content). c.count) is)
    (λ q. elim (cases_lt q first) [
      | inl before ↦ ap (λ (c : Content). c.page v q) is ∙ (page-cleared_out b old v first from q (inl before) ∙ sym (page-cleared_out b old v first end q (inl before)))
      | inr above ↦ elim (cases_lt q from) [
        | inl done ↦ ap (λ (c : Content). c.page v q) is ∙ (page-cleared_in b old v first from q above done ∙ sym (page-cleared_in b old v first end q above (omega (arith, done, h))))
        | inr later ↦ elim (cases_lt q end) [
          | inl left ↦
              let out = ap (λ (c : Content). c.page v q) is ∙ page-cleared_out b old v first from q (inr later) in
              let bare = none_is (now.page v q) (gap q later left) in
              let none : old.page v q ≡ None = sym out ∙ bare in
              bare ∙ sym (page-cleared_in b old v first end q above left ∙ either (is_clean_at b old v q) (old.page v q) none)
          | inr past ↦ ap (λ (c : Content). c.page v q) is ∙ (page-cleared_out b old v first from q (inr later) ∙ sym (page-cleared_out b old v first end q (inr past)))
        ]
      ]
    ])
    (λ w q apart. ap (λ (c : Content). c.page w q) is ∙ page-cleared_vmo b old v first from w q apart) where
      either : (bit : Bool) (o : Option Page) → o ≡ None → cond bit None o ≡ None
      either true o e = refl
      either false o e = e

-- the pages of a range were cleared, and then those of the next one
module _ (b : Backing) (old mid : Content) (v first from end : ℕ) (is : mid ≡ cleared b old v first from) (order : first ≤ from) (high : from ≤ end) where
  mid_out : (q : ℕ) → (q < first) ⊎ (from ≤ q) → mid.page v q ≡ old.page v q
  mid_out q out = ap (λ (c : Content). c.page v q) is ∙ page-cleared_out b old v first from q out

  both_at : (q : ℕ) → (cleared b mid v from end).page v q ≡ (cleared b old v first end).page v q
  both_at q = elim (cases_lt q first) [
    | inl before ↦ page-cleared_out b mid v from end q (inl (omega (arith, before, order)))
        ∙ (mid_out q (inl before) ∙ sym (page-cleared_out b old v first end q (inl before)))
    | inr above ↦ elim (cases_lt q from) [
      | inl done ↦ page-cleared_out b mid v from end q (inl done)
          ∙ (ap (λ (c : Content). c.page v q) is ∙ (page-cleared_in b old v first from q above done ∙ sym (page-cleared_in b old v first end q above (omega (arith, done, high)))))
      | inr later ↦ elim (cases_lt q end) [
        | inl left ↦ page-cleared_in b mid v from end q later left
            ∙ (ap (λ (o : Option Page). cond (is_clean_page b o q) None o) (mid_out q (inr later)) ∙ sym (page-cleared_in b old v first end q above left))
        | inr past ↦ page-cleared_out b mid v from end q (inr past) ∙ (mid_out q (inr later) ∙ sym (page-cleared_out b old v first end q (inr past)))
      ]
    ]
  ]

  pub cleared-append : cleared b mid v from end ≡ cleared b old v first end
  unfolding cleared
  cleared-append = by_page b old v first end (cleared b mid v from end)
      (ap (λ (c : Content). c.frames) is) (ap (λ (c : Content). c.next) is) (ap (λ (c : Content). c.count) is) both_at
      (λ w q apart. page-cleared_vmo b mid v from end w q apart ∙ (ap (λ (c : Content). c.page w q) is ∙ page-cleared_vmo b old v first from w q apart))

-- the first clean page of a range was made zero
pub cleared-first : (b : Backing) (old mid : Content) (v first end page : ℕ) → IsFirst (is_clean_at b old v) first end page
    → mid ≡ zeroed old v page (page + 1) → mid ≡ cleared b old v first (page + 1)
cleared-first b old mid v first end page next is =
    is ∙ (cleared-one b old v page next.hit ∙ cleared-append b old old v first page (page + 1) (cleared-none b old v first page next.gap) next.order (omega arith))

-- nothing is cleared yet
pub cleared-nothing : (b : Backing) (c : Content) (v first : ℕ) → c ≡ cleared b c v first first
cleared-nothing b c v first = cleared-none b c v first first (λ q low less. absurd (omega (arith, low, less)))

-- ---- loops over the held pages of a range

clean-unheld : (b : Backing) (c : Content) (v p : ℕ) → c.page v p ≡ None → is_clean_at b c v p ≡ false
clean-unheld b c v p e = clean-zero b (c.page v p) p e

-- the pages before a held one are not clean
pub none_clean-to : (b : Backing) (c : Content) (v first from page : ℕ) → HasNone (is_clean_at b c v) first from
    → HasNone (is_held c v) from page → HasNone (is_clean_at b c v) first page
none_clean-to b c v first from page before gap p low less = elim (cases_lt p from) [
  | inl done ↦ before p low done
  | inr later ↦ clean-unheld b c v p (none_is _ (gap p later less))
]

-- the pages up to one are not clean
pub none_clean-more : (b : Backing) (c : Content) (v first from page : ℕ) → HasNone (is_clean_at b c v) first from
    → HasNone (is_held c v) from page → is_clean_at b c v page ≡ false → HasNone (is_clean_at b c v) first (page + 1)
none_clean-more b c v first from page before gap here p low less = elim (cases_lt p page) [
  | inl inside ↦ none_clean-to b c v first from page before gap p low inside
  | inr at ↦ let same : p ≡ page = omega (arith, at, less) in ap (is_clean_at b c v) same ∙ here
]

-- what is left where some pages were cleared
pub count-cleared : (b : Backing) (old now : Content) (v first end : ℕ) → now ≡ cleared b old v first end → now.count ≡ old.count
unfolding cleared
count-cleared b old now v first end is = ap (λ (c : Content). c.count) is
