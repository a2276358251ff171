-- The translations while the pages of a range are changed one after another.
use Rattle.std.proofs.Common.{◌≡◌, ◌≢◌, ℕ, ◌+◌, ◌<◌, ◌≤◌, Bool, true, false, ◌&&◌, ◌==◌, Option, sym, ap, ◌∙◌, inl, inr, arith}
use Rattle.std.proofs.lemmas.Bool.{cases_eq}
use Rattle.std.proofs.lemmas.Bool.Decides.{nat_tests}
use Rattle.vm_base.specs.Search.{HasNone, IsFirst}
use Rattle.vm_base.proofs.EntryLaws.{none_is}
use Rattle.vm_model.specs.Contents.Zeroing.{is_within}
use Rattle.vm_model.specs.Space.Readiness.{shows_in}
use Rattle.fault.specs.declared.translation.Translation.{Translation}
use Rattle.fault.specs.Table.{Places}
use Rattle.fault.specs.inside.Walks.{changed_where, is_place, is_translated, HasNoList, IsNextList}
use Rattle.fault.proofs.PairLaws.{missing}
use Rattle.fault.proofs.PlaceLaws.{IsOnce, changed-none, changed-then, changed-rest}

-- ---- the next page with translations, in a range of one page or none

-- an empty range has no page
pub no_list_empty : (places : Places) (v from end : ℕ) → end ≤ from → HasNoList places v from end
no_list_empty places v from end le root p x found of = let low = of.order in let high = of.below in absurd (omega arith)

-- a page without translations is all of its range
pub no_list_one : (places : Places) (v from end : ℕ) → end ≤ from + 1 → HasNoList places v from (from + 1) → HasNoList places v from end
no_list_one places v from end le none root p x found of =
    let high = of.below in none root p x found (record { koid = of.koid; order = of.order; below = omega arith })

-- a page with translations is the first of its range
pub next_list_one : (places : Places) (v from end : ℕ) → from < end → IsNextList places v from end from
next_list_one places v from end lt =
    record { order = omega arith; below = lt; least = no_list_empty places v from from (omega arith) }

-- ---- the pages of a VMO, one after another

-- it is of a page of the VMO from `first` to below `from`, and passes
abbrev pub page_below : (v first from : ℕ) → (Translation → Bool) → ℕ → ℕ → Translation → Bool
page_below v first from goes r p k = shows_in v first from k.entry && goes k

-- what passes in a range passes in a longer one
within-more : (w v first from to page : ℕ) (goes : Bool) → from ≤ to → (((w == v) && is_within first from page) && goes) ≡ true
    → (((w == v) && is_within first to page) && goes) ≡ true
within-more w v first from to page goes le e = grind (arith, nat_tests)

-- the translations of a page are what passes up to the page, and did not before
within-next : (w v first from page found : ℕ) (now goes : Bool) → first ≤ from → from ≤ found
    → (w ≡ v → from ≤ page → page < found → ⊥) → (page ≡ found → now ≡ goes)
    → (((w == v) && is_within first from page) && goes) ≡ false
    → (((w == v) && is_within found (found + 1) page) && now) ≡ (((w == v) && is_within first (found + 1) page) && goes)
within-next w v first from page found now goes low order gap agree e = elim (cases_eq page found) [
  | inl here ↦ ap (λ t. ((w == v) && is_within found (found + 1) page) && t) (agree here) ∙ there w v first from page found goes low order gap e
  | inr apart ↦ none w v first from page found now goes low order gap apart e
]
  where
    there : (w v first from page found : ℕ) (goes : Bool) → first ≤ from → from ≤ found → (w ≡ v → from ≤ page → page < found → ⊥)
        → (((w == v) && is_within first from page) && goes) ≡ false
        → (((w == v) && is_within found (found + 1) page) && goes) ≡ (((w == v) && is_within first (found + 1) page) && goes)
    there w v first from page found goes low order gap e = grind (arith, nat_tests)

    none : (w v first from page found : ℕ) (now goes : Bool) → first ≤ from → from ≤ found → (w ≡ v → from ≤ page → page < found → ⊥) → page ≢ found
        → (((w == v) && is_within first from page) && goes) ≡ false
        → (((w == v) && is_within found (found + 1) page) && now) ≡ (((w == v) && is_within first (found + 1) page) && goes)
    none w v first from page found now goes low order gap apart e = grind (arith, nat_tests)

-- where no page is left, what did not pass does not pass in the whole range
within-end : (w v first from end page : ℕ) (goes : Bool) → (w ≡ v → from ≤ page → page < end → ⊥)
    → (((w == v) && is_within first from page) && goes) ≡ false → (((w == v) && is_within first end page) && goes) ≡ false
within-end w v first from end page goes none e = grind (arith, nat_tests)

module _ (change : Translation → Option Translation) (once : IsOnce change) (v first : ℕ) (goes : Translation → Bool) where
  -- no page is in an empty range
  pub pages-start : (places : Places) → places ≡ changed_where change (page_below v first first goes) places
  pages-start places = changed-none change places (page_below v first first goes) (λ r p k h. empty k.entry.koid.0 k.entry.page (goes k))
    where
      empty : (w page : ℕ) (g : Bool) → (((w == v) && is_within first first page) && g) ≡ false
      empty w page g = grind (arith, nat_tests)

  module _ (old mid : Places) (from end : ℕ) (is : mid ≡ changed_where change (page_below v first from goes) old) where
    -- the translations of the next page are changed, where they pass
    pub pages-next : (page : ℕ) (now : Translation → Bool) (new : Places) → first ≤ from → IsNextList mid v from end page
        → ((k : Translation) → k.entry.page ≡ page → now k ≡ goes k)
        → new ≡ changed_where change (λ r p k. shows_in v page (page + 1) k.entry && now k) mid → new ≡ changed_where change (page_below v first (page + 1) goes) old
    pages-next page now new low next agree e = changed-then change once old mid (page_below v first from goes) is new _ (page_below v first (page + 1) goes) e
        (λ r p k h. let order = next.order in within-more k.entry.koid.0 v first from (page + 1) k.entry.page (goes k) (omega arith) h)
        (λ r p k at h. within-next k.entry.koid.0 v first from k.entry.page page (now k) (goes k) low next.order
        (λ koid lower upper. next.least r p k at (record { koid = koid; order = lower; below = upper }))
        (agree k) h)

    -- where no page is left, all of the range are changed that pass
    pub pages-end : from ≤ end → HasNoList mid v from end → mid ≡ changed_where change (page_below v first end goes) old
    pages-end le none = changed-rest change once old mid (page_below v first from goes) is (page_below v first end goes)
        (λ r p k h. within-more k.entry.koid.0 v first from end k.entry.page (goes k) le h)
        (λ r p k at h. within-end k.entry.koid.0 v first from end k.entry.page (goes k)
        (λ koid lower upper. none r p k at (record { koid = koid; order = lower; below = upper })) h)

-- ---- the pages of an address space, one after another

-- it is of a page of the address space from `first` to below `from`
abbrev pub place_below : (root first from : ℕ) → ℕ → ℕ → Translation → Bool
place_below root first from r p k = (r == root) && is_within first from p

module _ (change : Translation → Option Translation) (once : IsOnce change) (root first : ℕ) where
  -- no page is in an empty range
  pub places-start : (places : Places) → places ≡ changed_where change (place_below root first first) places
  places-start places = changed-none change places (place_below root first first) (λ r p k h. empty r p)
    where
      empty : (r p : ℕ) → ((r == root) && is_within first first p) ≡ false
      empty r p = grind (arith, nat_tests)

  module _ (old mid : Places) (from end : ℕ) (is : mid ≡ changed_where change (place_below root first from) old) where
    -- the next page is changed
    pub places-next : (page : ℕ) (new : Places) → first ≤ from → IsFirst (is_translated mid root) from end page
        → new ≡ changed_where change (λ r p k. is_place root page r p) mid → new ≡ changed_where change (place_below root first (page + 1)) old
    places-next page new low next e = changed-then change once old mid (place_below root first from) is new _ (place_below root first (page + 1)) e
        (λ r p k h. let order = next.order in more r p (omega arith) h)
        (λ r p k at h. step r p low next.order (λ one lower upper. missing (ap (λ n. mid n p) (sym one) ∙ at) (none_is _ (next.gap p lower upper))) h)
      where
        more : (r p : ℕ) → from ≤ page + 1 → ((r == root) && is_within first from p) ≡ true → ((r == root) && is_within first (page + 1) p) ≡ true
        more r p le e = grind (arith, nat_tests)

        step : (r p : ℕ) → first ≤ from → from ≤ page → (r ≡ root → from ≤ p → p < page → ⊥) → ((r == root) && is_within first from p) ≡ false
            → ((r == root) && (p == page)) ≡ ((r == root) && is_within first (page + 1) p)
        step r p low order gap e = grind (arith, nat_tests)

    -- where no page is left, all of the range are changed
    pub places-end : from ≤ end → HasNone (is_translated mid root) from end → mid ≡ changed_where change (place_below root first end) old
    places-end le none = changed-rest change once old mid (place_below root first from) is (place_below root first end)
        (λ r p k h. more r p h)
        (λ r p k at h. rest r p (λ one lower upper. missing (ap (λ n. mid n p) (sym one) ∙ at) (none_is _ (none p lower upper))) h)
      where
        more : (r p : ℕ) → ((r == root) && is_within first from p) ≡ true → ((r == root) && is_within first end p) ≡ true
        more r p e = grind (arith, nat_tests)

        rest : (r p : ℕ) → (r ≡ root → from ≤ p → p < end → ⊥) → ((r == root) && is_within first from p) ≡ false → ((r == root) && is_within first end p) ≡ false
        rest r p none e = grind (arith, nat_tests)
