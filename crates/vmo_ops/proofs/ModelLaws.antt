-- Laws of the definitions of the machine that operations alone use.
use Rattle.std.proofs.Common.{ap, [], ◌∷◌, Bool, List, None, Option, arith, cond, drop, false, length, min, not, refl, suc, take, true, zero, ℕ, ◌%◌, ◌&&◌, ◌++◌, ◌+◌, ◌-◌, ◌/◌, ◌<◌, ◌≡◌, ◌≤◌}
use Rattle.std.proofs.lemmas.Bool.{both_ways, cases_Bool, cases_lt, or_left, or_right}
use Rattle.std.proofs.lemmas.Grind.{same_number_lists}
use Rattle.std.proofs.lemmas.List.{get_or-drop, get_or-take, length-drop, length-take, map-append, take_all}
use Rattle.std.proofs.lemmas.List.FromFn.{get_or-map-range_with_len, length-map-range_with_len}
use Rattle.std.specs.List.{list_any, range_with_len}
use Rattle.std.specs.Prelude.{slice_range}
use Rattle.vm_base.proofs.SearchLaws.{bit-false, count_below_le}
use Rattle.vm_base.specs.declared.limits.TheConstants.{PAGE}
use Rattle.vm_model.proofs.OwningLaws.{count_from, length-shown, need-filter, need-row, unowned}
use Rattle.vm_model.proofs.PinLaws.{any_pinned_at, none_pinned}
use Rattle.vm_model.proofs.ZeroingLaws.{cases_zeroed, page-zeroed_in, page-zeroed_out, zeroed-none}
use Rattle.vm_model.specs.Contents.Content.{Content, IsGood, is_held, shown, sole, used}
use Rattle.vm_model.specs.Contents.Owning.{need}
use Rattle.vm_model.specs.Contents.Writing.{bytes_in, touched}
use Rattle.vm_model.specs.Contents.Zeroing.{Zeroes, ZeroesPage, is_cleared, owned_by_zero, zeroed}
use Rattle.vm_model.specs.Naming.Pins.{Pin, any_pinned, is_pinned}

-- ---- frames that are used

pub used_le : (c : Content) → used c ≤ c.frames
unfolding used
used_le = grind (arith, count_below_le)

-- ---- counting pages in a row

-- the first page counted, and the rest
pub count_from-next : (test : ℕ → Bool) (p end : ℕ) → p < end → count_from test p (end - p) ≡ cond (test p) 1 0 + count_from test (p + 1) (end - (p + 1))
unfolding count_from
count_from-next = grind (arith, count_from)

-- where no page passes, none counts
pub count_from-none : (test : ℕ → Bool) (first n : ℕ) → ((p : ℕ) → first ≤ p → p < first + n → test p ≡ false) → count_from test first n ≡ 0
unfolding count_from
count_from-none test first zero none = refl
count_from-none test first (suc n) none =
    omega (arith, bit-false (test first) (none first (omega arith) (omega arith)), count_from-none test (first + 1) n (λ p h less. none p (omega arith) (omega arith)))

-- two rows, one behind the other
pub count_from-append : (test : ℕ → Bool) (first n m : ℕ) → count_from test first (n + m) ≡ count_from test first n + count_from test (first + n) m
unfolding count_from
count_from-append test first zero m = grind arith
count_from-append test first (suc n) m =
    let e : suc n + m ≡ suc (n + m) = omega arith in
    let f : first + suc n ≡ (first + 1) + n = omega arith in
    rw (e, f) (grind (arith, count_from-append test (first + 1) n m))

-- a row cut in two
pub count_from-split : (test : ℕ → Bool) (first mid end : ℕ) → first ≤ mid → mid ≤ end → count_from test first (end - first) ≡ count_from test first (mid - first) + count_from test mid (end - mid)
count_from-split test first mid end h less = grind (arith, count_from-append test first (mid - first) (end - mid))

-- where one counts, some page passes
pub count_from-any : (test : ℕ → Bool) (first n : ℕ) → 0 < count_from test first n → list_any test (range_with_len first n) ≡ true
unfolding count_from
count_from-any test first zero h = absurd (omega arith)
count_from-any test first (suc n) h = grind (arith, count_from-any test (first + 1) n, or_left, or_right)

-- the pages that pass and those that do not
pub count_from-not : (test : ℕ → Bool) (first n : ℕ) → count_from (λ p. not (test p)) first n + count_from test first n ≡ n
unfolding count_from
count_from-not test first zero = refl
count_from-not test first (suc n) = grind (arith, count_from-not test (first + 1) n)

-- ---- ranges of bytes

-- a range that ends behind the list ends with it
pub slice_range-min : (bytes : List ℕ) (i j : ℕ) → slice_range bytes i j ≡ slice_range bytes i (min j (length bytes))
slice_range-min = grind (arith, cases_lt, take_all, length-drop)

-- a row of numbers in two parts
pub range_with_len-append : (a n m : ℕ) → range_with_len a (n + m) ≡ range_with_len a n ++ range_with_len (a + n) m
range_with_len-append a zero m = grind arith
range_with_len-append a (suc n) m =
    let e : suc n + m ≡ suc (n + m) = omega arith in
    let f : a + suc n ≡ (a + 1) + n = omega arith in
    rw (e, f) (ap (λ (xs : List ℕ). a ∷ xs) (range_with_len-append (a + 1) n m))

-- two ranges, one behind the other
pub bytes_in-append : (c : Content) (v offset n m : ℕ) → bytes_in c v offset (n + m) ≡ bytes_in c v offset n ++ bytes_in c v (offset + n) m
unfolding bytes_in
bytes_in-append = grind (arith, range_with_len-append, map-append)

-- a range inside one page
pub bytes_in-page : (c : Content) (v offset n : ℕ) → length (shown c v (offset / PAGE)) ≡ PAGE → offset % PAGE + n ≤ PAGE → bytes_in c v offset n ≡ take n (drop (offset % PAGE) (shown c v (offset / PAGE)))
unfolding bytes_in
bytes_in-page = grind (arith, same_number_lists, length-map-range_with_len, length-take, length-drop, get_or-map-range_with_len, get_or-take, get_or-drop)

-- some page of a row is not sole where the need is not 0
pub need_any : (c : Content) (v first n : ℕ) → 0 < need c v (range_with_len first n) → list_any (λ p. not (sole c v p)) (range_with_len first n) ≡ true
unfolding unowned
need_any = grind (arith, need-row, count_from-any)

-- what was read so far, and more of the page where it stands
pub bytes_in-more : (c : Content) (v offset done n : ℕ) → IsGood c → (offset + done) % PAGE + n ≤ PAGE
    → bytes_in c v offset (done + n) ≡ bytes_in c v offset done ++ take n (drop ((offset + done) % PAGE) (shown c v ((offset + done) / PAGE)))
bytes_in-more = grind (arith, bytes_in-append, bytes_in-page, length-shown)

pub bytes_in-nil : (c : Content) (v offset : ℕ) → bytes_in c v offset 0 ≡ []
unfolding bytes_in
bytes_in-nil = grind (arith)

-- ---- one range of zeros after another

-- an empty range changes nothing
pub zeroed-empty : (c : Content) (v p : ℕ) → zeroed c v p p ≡ c
zeroed-empty = grind (arith, zeroed-none)

-- a range and the one behind it together
pub zeroed-more : (c : Content) (v first mid end : ℕ) → first ≤ mid → mid ≤ end → zeroed (zeroed c v first mid) v mid end ≡ zeroed c v first end
unfolding zeroed
zeroed-more = grind (arith, cases_zeroed, cases_lt, page-zeroed_out, page-zeroed_in)

-- ---- zeroing a range

-- a page that is zero stays so
pub ZeroesPage-none : (c : Content) (v : ℕ) (pinned : ℕ → Bool) (offset len p : ℕ) → c.page v p ≡ None → ZeroesPage c v pinned offset len p c
ZeroesPage-none = grind (arith, zeroed-none, both_ways)

-- where the pages in a row are zero, nothing changes
pub Zeroes-none : (c : Content) (v : ℕ) (pinned : ℕ → Bool) (offset len first n : ℕ) → ((p : ℕ) → first ≤ p → p < first + n → c.page v p ≡ None) → Zeroes c v pinned offset len (range_with_len first n) c
Zeroes-none c v pinned offset len first zero none = refl
Zeroes-none c v pinned offset len first (suc n) none =
    (c, ZeroesPage-none c v pinned offset len first (none first (omega arith) (omega arith)), Zeroes-none c v pinned offset len (first + 1) n (λ p h less. none p (omega arith) (omega arith)))

-- the pages that zeroing a range owns, counted page by page
pub need-zero : (c : Content) (v : ℕ) (pinned : ℕ → Bool) (offset len first end : ℕ) → touched offset len ≡ range_with_len first (end - first)
    → need c v (owned_by_zero c v pinned offset len) ≡ count_from (λ p. (is_held c v p && not (is_cleared pinned offset len p)) && not (sole c v p)) first (end - first)
need-zero = grind (arith, need-filter)

-- ---- pins

-- no page among them is pinned
pub any_pinned_none : (pins : ℕ → Option Pin) (v first end p : ℕ) → any_pinned pins v first end ≡ false → first ≤ p → p < end → is_pinned pins v p ≡ false
any_pinned_none = grind (arith, cases_Bool, any_pinned_at)

-- no pages, none pinned
pub any_pinned-empty : (pins : ℕ → Option Pin) (v first end : ℕ) → end ≤ first → any_pinned pins v first end ≡ false
any_pinned-empty = grind (arith, none_pinned)
