-- Laws of zeroing a range, whole pages in a row and page by page: what it takes, and what it leads to.
use Rattle.std.proofs.Common.{min, [], ◌≡◌, ◌≢◌, ℕ, zero, suc, ◌+◌, ◌-◌, ◌*◌, ◌/◌, ◌<◌, ◌≤◌, Bool, true, false, not, cond, ◌&&◌, List, ◌∷◌, length, replicate, Option, None, Some, ◌⊎◌, inl, inr, refl, sym, ap, subst, ◌∙◌, arith}
use Rattle.std.specs.Prelude.{IsSome, is_some}
use Rattle.std.specs.List.{range_with_len, list_any, filter}
use Rattle.std.proofs.lemmas.Bool.{cases_Bool, both_ways, and_left, or_left, or_right}
use Rattle.std.proofs.lemmas.Bool.Decides.{nat_tests}
use Rattle.std.proofs.lemmas.List.FromFn.{length-range_with_len}
use Rattle.std.proofs.Math.Nat.{le-max_left}
use Rattle.vm_base.specs.declared.limits.TheConstants.{PAGE}
use Rattle.vm_base.proofs.SearchLaws.{bit-true}
use Rattle.vm_model.specs.Contents.Content.{Content, is_held, pages_of, used, sole, IsGood}
use Rattle.vm_model.specs.Contents.Owning.{need}
use Rattle.vm_model.specs.Contents.Writing.{touched, WritesPiece}
use Rattle.vm_model.specs.Contents.Zeroing.{zeroed, is_cleared, ZeroesPage, Zeroes, owned_by_zero}
use Rattle.vm_model.specs.Naming.Pins.{Pin, is_pinned, any_pinned}
use Rattle.vm_model.specs.declared.names.Target.{Target}
use Rattle.vm_model.specs.Machine.State.{State, koid_of}
use Rattle.vm_model.specs.Machine.Step.{touches_any}
use Rattle.vm_model.proofs.NamesLaws.{target_of-at}
use Rattle.vm_model.proofs.ContentLaws.{IsOfHeld}
use Rattle.vm_model.proofs.OwningLaws.{count_from, count_from-same, count_from_le}
use Rattle.vm_model.proofs.PinLaws.{any_pinned_at, none_pinned}
use Rattle.vm_model.proofs.ZeroingLaws.{page-zeroed_out}
use Rattle.vm_model.proofs.ZeroesLaws.{ZeroedPage, ZeroedPage-from_ZeroesPage}
use Rattle.vmo_ops.proofs.ModelLaws.{count_from-next, count_from-split, zeroed-empty, zeroed-more, Zeroes-none, need-zero}
use Rattle.page_store.specs.Held.{held_from}
use Rattle.page_store.proofs.HeldLaws.{held-count}
use Rattle.vmo_ops.specs.declared.owning.TheConstants.{UNSEEN_PAGES}
use Rattle.vmo_ops.specs.Costs.{held_touched, AsksToZero}
use Rattle.vm_model.specs.Contents.Writing.{part_at}
use Rattle.vmo_ops.proofs.PartLaws.{part_bytes-replicate}
use Rattle.vmo_ops.proofs.RowLaws.{Run, Takes, IsUnderWay, IsUnderWay-start, IsUnderWay-step}

-- ---- a page that is cleared

-- the one page from p on is pinned exactly where p is
pub any_pinned_one : (pins : ℕ → Option Pin) (v p : ℕ) → any_pinned pins v p (p + 1) ≡ is_pinned pins v p
any_pinned_one = grind (arith, cases_Bool, any_pinned_at, none_pinned)

-- a held page that is cut or pinned is zeroed by a write of its part, by its place in the page and its length
pub ZeroesPage-part : (old new : Content) (v : ℕ) (pinned : ℕ → Bool) (offset len p at from count : ℕ)
    → is_cleared pinned offset len p ≡ false → IsSome (old.page v p) → at ≡ part_at offset p
    → from ≡ PAGE * p - offset → from + count ≡ min (PAGE * (p + 1) - offset) len
    → WritesPiece old (record { koid = v; page = p; at = at; bytes = replicate count 0 }) new
    → ZeroesPage old v pinned offset len p new
ZeroesPage-part = grind (arith, both_ways, part_bytes-replicate)

-- zeroing the range takes a frame for the page
abbrev pub takes_frame : ℕ → (ℕ → Bool) → ℕ → ℕ → Takes
takes_frame v pinned offset len c p = (is_held c v p && not (is_cleared pinned offset len p)) && not (sole c v p)

pub IsOfHeld-takes : (c : Content) (v : ℕ) (pinned : ℕ → Bool) (offset len : ℕ)
    → IsOfHeld c v (takes_frame v pinned offset len c)
IsOfHeld-takes = grind (arith, and_left)

-- for a held page, the first part of the test is passed
pub takes_frame-held : (c : Content) (v : ℕ) (pinned : ℕ → Bool) (offset len p : ℕ) → IsSome (c.page v p)
    → takes_frame v pinned offset len c p ≡ (not (is_cleared pinned offset len p) && not (sole c v p))
takes_frame-held = grind (arith)

-- ---- counting what it takes

-- the pages in a row that pass
pub length-passing : (test : ℕ → Bool) (first n : ℕ) → length (filter test (range_with_len first n)) ≡
    count_from test first n
unfolding count_from
length-passing test first zero = refl
length-passing test first (suc n) = grind (arith, length-passing test (first + 1) n)

-- the held pages of a range, counted page by page
pub held_touched-count : (c : Content) (v offset len first end : ℕ)
    → touched offset len ≡ range_with_len first (end - first)
    → held_touched c v offset len ≡ count_from (is_held c v) first (end - first)
held_touched-count = grind (arith, length-passing)

-- zeroing a row of pages takes a row of the store and a frame for each at most
pub held_touched-most : (c : Content) (v offset len first end : ℕ)
    → touched offset len ≡ range_with_len first (end - first) → held_touched c v offset len ≤ end - first
held_touched-most c v offset len first end pages =
    omega (arith, held_touched-count c v offset len first end pages, count_from_le (is_held c v) first (end - first))

-- a short range asks for a row for each of its pages
pub asks_for_all : (c : Content) (v offset len first end : ℕ) → touched offset len ≡ range_with_len first (end - first)
    → end - first ≤ UNSEEN_PAGES → AsksToZero c v offset len (end - first)
asks_for_all c v offset len first end pages few =
    let size = ap (λ (ps : List ℕ). length ps) pages ∙ length-range_with_len first (end - first) in (
      held_touched-most c v offset len first end pages,
      rw size (omega arith),
    )

-- and any range may ask for one for each that is held
pub asks_for_held : (c : Content) (v offset len : ℕ) → AsksToZero c v offset len (held_touched c v offset len)
asks_for_held c v offset len = (omega arith, le-max_left _ _)

pub need-zero-most : (c : Content) (v : ℕ) (pinned : ℕ → Bool) (offset len first end : ℕ)
    → touched offset len ≡ range_with_len first (end - first)
    → need c v (owned_by_zero c v pinned offset len) ≤ end - first
need-zero-most c v pinned offset len first end pages = omega (
  arith,
  need-zero c v pinned offset len first end pages,
  count_from_le (takes_frame v pinned offset len c) first (end - first),
)

-- a page in the list passes where some are counted
filter_any : (test : ℕ → Bool) (ps : List ℕ) → 0 < length (filter test ps) → list_any test ps ≡ true
filter_any test [] h = absurd (omega arith)
filter_any test (p ∷ ps) h = grind (arith, filter_any test ps, or_left, or_right)

-- the range touches a held page where one is counted
pub held_touched_any : (c : Content) (v offset len : ℕ) → 0 < held_touched c v offset len
    → list_any (is_held c v) (touched offset len) ≡ true
held_touched_any = grind (arith, filter_any)

-- so the command by a name may want memory there
pub wants_held : (s : State) (name offset len : ℕ) (target : Target) (at : ℕ) → s.names name ≡ Some target
    → at ≡ target.first * PAGE + offset → 0 < held_touched s.content target.koid.0 at len
    → touches_any s name offset len (is_held s.content (koid_of s name)) ≡ true
wants_held s name offset len target at named place some =
    let here = subst (λ (n : ℕ). list_any (is_held s.content target.koid.0) (touched n len) ≡ true) place
    (held_touched_any s.content target.koid.0 at len some) in
    subst (λ (t : Target). list_any (is_held s.content t.koid.0) (touched (t.first * PAGE + offset) len) ≡ true)
    (sym (target_of-at s name target named)) here

-- up to there the pages lie in the range's, which end at `end`
stop-bound : (offset len first end from stop : ℕ) → first ≡ offset / PAGE → first ≤ end → len ≤ end * PAGE - offset → from ≤ end
    → (stop ≡ from) ⊎ (stop * PAGE ≤ offset + len) → stop ≤ end
stop-bound offset len first end from stop is order all low (inl same) = omega (arith, same, low)
stop-bound offset len first end from stop is order all low (inr whole) = omega (arith, is, order, all, whole)

-- ---- zeroing page by page

-- zeroing what of a range falls into pages of v, from one content to another
abbrev pub zeroing : ℕ → (ℕ → Bool) → ℕ → ℕ → Run
zeroing v pinned offset len c ps new = Zeroes c v pinned offset len ps new

-- The pages of v before `from` are zeroed, and those from there to below `end` are left. The frames and the rows that
-- these take are there.
pub record IsZeroing (v : ℕ) (pinned : ℕ → Bool) (offset len : ℕ) (old now : Content) (from end spare : ℕ)
    : Type 0 where
  pub way : IsUnderWay (zeroing v pinned offset len) (takes_frame v pinned offset len) v old
      (touched offset len) now from end
  pub vmo : IsSome (now.count v)
  pub start : offset / PAGE ≤ from
  pub inside : offset + len ≤ pages_of now v * PAGE
  pub rows : count_from (is_held now v) from (end - from) ≤ spare

module _ (v : ℕ) (pinned : ℕ → Bool) (offset len : ℕ) (old : Content) where
  -- no page is zeroed yet
  pub IsZeroing-start : (first end spare : ℕ) → IsGood old → IsSome (old.count v) → offset + len ≤ pages_of old v * PAGE
      → first ≡ offset / PAGE → first ≤ end → end * PAGE < offset + len + PAGE
      → touched offset len ≡ range_with_len first (end - first) → held_touched old v offset len ≤ spare
      → used old + need old v (owned_by_zero old v pinned offset len) ≤ old.frames
      → IsZeroing v pinned offset len old old first end spare
  IsZeroing-start = grind (arith, IsUnderWay-start, need-zero, held_touched-count)

  module _ (now : Content) (from end spare : ℕ) (way : IsZeroing v pinned offset len old now from end spare) where
    -- no page that is left is held
    pub IsZeroing-end : ((p : ℕ) → from ≤ p → p < end → now.page v p ≡ None)
        → Zeroes old v pinned offset len (touched offset len) now
    IsZeroing-end = grind (arith, Zeroes-none)

    -- there is a row for the page, where it is held
    pub IsZeroing-row : from < end → is_held now v from ≡ true → 1 ≤ spare
    IsZeroing-row less held =
        let first = count_from-next (is_held now v) from end less in
        omega (arith, first, bit-true (is_held now v from) held, way.rows)

    -- there is a frame for it, where it does not become zero as a whole
    pub IsZeroing-frame : from < end → is_cleared pinned offset len from ≡ false → is_held now v from ≡ true
        → (sole now v from ≡ true) ⊎ (used now < now.frames)
    IsZeroing-frame less part held =
        let first = count_from-next (takes_frame v pinned offset len now) from end less in
        grind (arith, first, cases_Bool)

    -- the page is zeroed
    pub IsZeroing-step : (mid : Content) (left : ℕ) → from < end → ZeroesPage now v pinned offset len from mid
        → spare ≤ left + cond (is_held now v from) 1 0 → IsZeroing v pinned offset len old mid (from + 1) end left
    IsZeroing-step mid left less zeroes cost =
        let zeroed : ZeroedPage now v pinned offset len from mid =
        ZeroedPage-from_ZeroesPage now v pinned offset len from mid way.way.good (omega (arith, way.way.inside)) way.start zeroes in
        let held : (q : ℕ) → q ≢ from → is_held mid v q ≡ is_held now v q =
        λ q apart. ap is_some (zeroed.other_page q apart) in
        let rest : count_from (is_held mid v) (from + 1) (end - (from + 1)) ≡ count_from (is_held now v) (from + 1)
        (end - (from + 1)) =
        count_from-same (is_held mid v) (is_held now v) (from + 1) (end - (from + 1))
        (λ q low less. let apart : q ≢ from = omega arith in held q apart) in
        record {
          way =
              IsUnderWay-step (zeroing v pinned offset len) (takes_frame v pinned offset len) v old
              (touched offset len) now mid from end way.way less (record {
                kept = zeroed.kept;
                others = λ q apart. grind (arith, held q apart, zeroed.other_sole q apart);
                used = zeroed.used;
                onward = λ ps last w. (mid, zeroes, w);
              });
          vmo = rw zeroed.kept.count way.vmo;
          start = omega (arith, way.start);
          inside = omega (arith, way.inside, zeroed.kept.pages v);
          rows = omega (arith, rest, count_from-next (is_held now v) from end less, way.rows, cost);
        }

  -- pages in a row become zero as wholes
  pub IsZeroing-run : (n : ℕ) (now mid : Content) (from end spare left : ℕ) → IsZeroing v pinned offset len old now from end spare
      → from + n ≤ end → ((p : ℕ) → from ≤ p → p < from + n → is_cleared pinned offset len p ≡ true)
      → mid ≡ zeroed now v from (from + n) → spare ≤ left + count_from (is_held now v) from n
      → IsZeroing v pinned offset len old mid (from + n) end left
  unfolding count_from
  IsZeroing-run zero now mid from end spare left way high cleared is cost =
      let place : from ≡ from + 0 = omega arith in
      let same : now ≡ mid = sym (is ∙ (ap (zeroed now v from) (sym place) ∙ zeroed-empty now v from)) in
      subst (λ (c : Content). IsZeroing v pinned offset len old c (from + 0) end left) same
      (subst (λ (p : ℕ). IsZeroing v pinned offset len old now p end left) place
      (record { way = way.way; vmo = way.vmo; start = way.start; inside = way.inside; rows = omega (arith, way.rows, cost) }))
  IsZeroing-run (suc n) now mid from end spare left way high cleared is cost =
      let whole = cleared from (omega arith) (omega arith) in
      let next = zeroed now v from (from + 1) in
      let page : ZeroesPage now v pinned offset len from next = record {
        cleared = λ e. refl;
        held = λ part. absurd (both_ways (is_cleared pinned offset len from) part whole);
        zero = λ part. absurd (both_ways (is_cleared pinned offset len from) part whole);
      } in
      let rest : count_from (is_held next v) (from + 1) n ≡ count_from (is_held now v) (from + 1) n =
      count_from-same (is_held next v) (is_held now v) (from + 1) n
      (λ q low less. ap is_some (page-zeroed_out now v from (from + 1) v q (λ same. inr low))) in
      let place : (from + 1) + n ≡ from + suc n = omega arith in
      let more : mid ≡ zeroed next v (from + 1) ((from + 1) + n) =
      is ∙ (ap (zeroed now v from) (sym place) ∙ sym (zeroed-more now v from (from + 1) ((from + 1) + n) (omega arith) (omega arith))) in
      let step = IsZeroing-step now from end spare way next (spare - cond (is_held now v from) 1 0) (omega arith) page (omega arith) in
      subst (λ (p : ℕ). IsZeroing v pinned offset len old mid p end left) place
      (IsZeroing-run n next mid (from + 1) end (spare - cond (is_held now v from) 1 0) left step (omega arith)
      (λ p low less. cleared p (omega arith) (omega arith)) more (omega (arith, rest, cost)))

  -- pages in a row up to `stop`
  module _ (now : Content) (first from stop end spare : ℕ) (is : first ≡ offset / PAGE) (order : first ≤ end) (all : len ≤ end * PAGE - offset)
      (way : IsZeroing v pinned offset len old now from end spare) (low : from ≤ stop) (high : (stop ≡ from) ⊎ (stop * PAGE ≤ offset + len)) where
    bound : stop ≤ end
    bound = stop-bound offset len first end from stop is order all way.way.bound high

    -- there are rows for them
    pub IsZeroing-rows : held_from now v from (stop - from) ≤ spare
    IsZeroing-rows = omega (arith, way.rows, count_from-split (is_held now v) from stop end low bound, held-count now v from (stop - from))

    -- they become zero
    pub IsZeroing-turn : (mid : Content) (left : ℕ) → ((p : ℕ) → from ≤ p → p < stop → is_cleared pinned offset len p ≡ true)
        → mid ≡ zeroed now v from stop → spare ≤ left + held_from now v from (stop - from)
        → IsZeroing v pinned offset len old mid stop end left
    IsZeroing-turn mid left cleared made cost =
        let place : from + (stop - from) ≡ stop = omega arith in
        let few : from + (stop - from) ≤ end = omega (arith, bound) in
        subst (λ (p : ℕ). IsZeroing v pinned offset len old mid p end left) place
        (IsZeroing-run (stop - from) now mid from end spare left way few (λ p above less. cleared p above (omega arith))
        (made ∙ ap (zeroed now v from) (sym place)) (omega (arith, cost, held-count now v from (stop - from))))

-- ---- pages that become zero as wholes

-- a page that the range holds wholly, and that is not pinned, does
pub is_cleared-whole : (pinned : ℕ → Bool) (offset len p : ℕ) → offset ≤ PAGE * p → PAGE * (p + 1) ≤ offset + len → pinned p ≡ false
    → is_cleared pinned offset len p ≡ true
is_cleared-whole = grind (arith, nat_tests)
