-- Laws of counting the absent pages of a range by those that are held.
use Rattle.std.proofs.Common.{◌≡◌, ℕ, ◌+◌, ◌-◌, ◌<◌, ◌≤◌, ◌++◌, ◌∷◌, [], not, ◌&&◌, Bool, true, false, cond, zero, suc, List, length, map, Some, refl, sym, ap, subst, ◌∙◌, append-nil, arith, inl, inr}
use Rattle.std.specs.Prelude.{IsSome, is_some}
use Rattle.vm_base.specs.Entries.{passes}
use Rattle.std.specs.List.{filter, range_with_len}
use Rattle.std.proofs.lemmas.Bool.{cases_lt, lt-ltb, le-ltb}
use Rattle.std.proofs.lemmas.List.Elements.{filter-append}
use Rattle.vm_base.specs.Search.{HasNone, IsFirst}
use Rattle.vm_base.proofs.EntryLaws.{some_is, none_is}
use Rattle.vm_model.specs.Contents.Content.{Content, is_held}
use Rattle.vm_model.specs.Contents.Writing.{touched}
use Rattle.vm_model.proofs.OwningLaws.{count_from}
use Rattle.vmo_ops.proofs.ModelLaws.{count_from-none, count_from-not, count_from-split, range_with_len-append}
use Rattle.source_model.specs.declared.backing.Backing.{Backing}
use Rattle.source_model.specs.State.{is_absent}
use Rattle.source_model.proofs.FillingLaws.{absent-zero, absent-held}
use Rattle.source_vm.specs.Pages.{Backings, LooseLinks, FillsPages, IsSupplied, absent_ends, absent_touched, end_piece, is_end_absent}
use Rattle.source_vm.proofs.SupplyLaws.{filter_count}

-- where all pass, all are counted
count_all : (test : ℕ → Bool) (first n : ℕ) → ((p : ℕ) → first ≤ p → p < first + n → test p ≡ true) → count_from test first n ≡ n
count_all test first n each =
    let none = count_from-none (λ p. not (test p)) first n (λ p low less. ap not (each p low less)) in
    omega (arith, none, count_from-not test first n)

module _ (c : Content) (b : Backing) (v first end : ℕ) (seen : (p : ℕ) → first ≤ p → p < end → p < b.seen) where
  abbrev test : ℕ → Bool
  test = is_absent c (Some b) v

  -- pages that are not held
  gap_count : (from page : ℕ) → first ≤ from → from ≤ page → page ≤ end → HasNone (is_held c v) from page
      → count_from test from (page - from) ≡ page - from
  gap_count from page low order high gap = count_all test from (page - from) (λ p l h.
      let less : p < page = omega (arith, order, h) in
      absent-zero c b v p (none_is _ (gap p l less)) ∙ lt-ltb p b.seen (seen p (omega (arith, low, l)) (omega (arith, less, high))))

  -- a page that is held
  held_count : (page : ℕ) → IsSome (c.page v page) → count_from test page (page + 1 - page) ≡ 0
  held_count page h = count_from-none test page (page + 1 - page) (λ p l less.
      let here : p ≡ page = omega (arith, l, less) in
      let held = some_is (c.page v page) h in
      ap test here ∙ absent-held c (Some b) v page held.0 held.1)

  -- one held page more was found
  pub absent_next : (from page n : ℕ) → first ≤ from → IsFirst (is_held c v) from end page
      → n ≡ length (filter test (range_with_len first (from - first))) + (end - from)
      → (1 ≤ n) × (n - 1 ≡ length (filter test (range_with_len first (page + 1 - first))) + (end - (page + 1)))
  absent_next from page n low next counted =
      let before = filter_count test first (from - first) in
      let after = filter_count test first (page + 1 - first) in
      let all = count_from-split test first from (page + 1) low (omega (arith, next.order)) in
      let parts = count_from-split test from page (page + 1) next.order (omega arith) in
      let gap_is = gap_count from page low next.order (omega (arith, next.below)) next.gap in
      let held_is = held_count page next.hit in
      (omega (arith, counted, next.order, next.below), omega (arith, counted, before, after, all, parts, gap_is, held_is, next.order, next.below))

  pub absent_last : (from n : ℕ) → first ≤ from → from ≤ end → HasNone (is_held c v) from end
      → n ≡ length (filter test (range_with_len first (from - first))) + (end - from) → n ≡ length (filter test (range_with_len first (end - first)))
  absent_last from n low order gap counted =
      let before = filter_count test first (from - first) in
      let after = filter_count test first (end - first) in
      let all = count_from-split test first from end low order in
      let gap_is = gap_count from end low order (omega arith) gap in
      omega (arith, counted, before, after, all, gap_is)

pub absent_first : (test : ℕ → Bool) (first end : ℕ) → first ≤ end → end - first ≡ length (filter test (range_with_len first (first - first))) + (end - first)
absent_first test first end h =
    let none : first - first ≡ 0 = omega arith in
    let zero_length : length (filter test (range_with_len first (first - first))) ≡ 0 = ap (λ (n : ℕ). length (filter test (range_with_len first n))) none in
    omega (arith, zero_length)

-- ---- pages that no source has

none_absent : (bit : Bool) → (bit && false) ≡ false
none_absent true = refl
none_absent false = refl

pub absent-behind : (c : Content) (b : Backing) (v p : ℕ) → b.seen ≤ p → is_absent c (Some b) v p ≡ false
unfolding is_absent passes
absent-behind c b v p h = ap (λ (t : Bool). not (is_some (c.page v p)) && t) (le-ltb p b.seen h) ∙ none_absent (not (is_some (c.page v p)))

none_pass : (test : ℕ → Bool) (first n : ℕ) → HasNone test first (first + n) → filter test (range_with_len first n) ≡ []
none_pass test first zero each = refl
none_pass test first (suc n) each =
    ap (λ (t : Bool). cond t (first ∷ filter test (range_with_len (first + 1) n)) (filter test (range_with_len (first + 1) n))) (each first (omega arith) (omega arith))
    ∙ none_pass test (first + 1) n (λ p low less. each p (omega (arith, low)) (omega (arith, less)))

-- what passes in a range is what passes in its front
pub filter_front : (test : ℕ → Bool) (first last end : ℕ) → first ≤ last → last ≤ end → HasNone test last end
    → filter test (range_with_len first (last - first)) ≡ filter test (range_with_len first (end - first))
filter_front test first last end low high behind =
    let size : end - first ≡ (last - first) + (end - last) = omega (arith, low, high) in
    let at : first + (last - first) ≡ last = omega (arith, low) in
    let none : filter test (range_with_len (first + (last - first)) (end - last)) ≡ [] =
    none_pass test (first + (last - first)) (end - last) (λ p l less. behind p (omega (arith, at, l)) (omega (arith, at, high, less))) in
    sym (ap (λ (n : ℕ). filter test (range_with_len first n)) size
    ∙ (ap (filter test) (range_with_len-append first (last - first) (end - last))
    ∙ (filter-append test (range_with_len first (last - first)) (range_with_len (first + (last - first)) (end - last))
    ∙ (ap (λ (xs : List ℕ). filter test (range_with_len first (last - first)) ++ xs) none ∙ append-nil (filter test (range_with_len first (last - first)))))))

pub IsSupplied-front : (bs : Backings) (ls : LooseLinks) (v : ℕ) (old new : Content) (first last end : ℕ) → first ≤ last → last ≤ end
    → ((c : Content) → HasNone (is_end_absent bs ls c v) last end) → IsSupplied bs ls v old first last new → IsSupplied bs ls v old first end new
IsSupplied-front bs ls v old new first last end low high behind s = record {
  fills = subst (λ (ps : List ℕ). FillsPages bs ls old (map (end_piece ls old v) ps) new)
      (filter_front (is_end_absent bs ls old v) first last end low high (behind old)) s.fills;
  none = λ p l less. elim (cases_lt p last) [ inl inside ↦ s.none p l inside | inr past ↦ behind new p past less ];
  readable = s.readable;
  pages = s.pages;
}

-- ---- what a range touches

module _ (bs : Backings) (ls : LooseLinks) (c : Content) (v offset len : ℕ) where
  module _ (first end : ℕ) (pages : touched offset len ≡ range_with_len first (end - first)) where
    -- the pages that it touches are those of a range
    pub touched-ends : absent_touched bs ls c v offset len ≡ absent_ends bs ls c v first end
    touched-ends = ap (filter (is_end_absent bs ls c v)) pages

    -- none is absent where they were supplied
    pub touched-supplied : HasNone (is_end_absent bs ls c v) first end → absent_touched bs ls c v offset len ≡ []
    touched-supplied none = touched-ends ∙ none_pass (is_end_absent bs ls c v) first (end - first) (λ p low less. none p low (omega (arith, less)))
