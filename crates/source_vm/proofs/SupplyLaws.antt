-- Laws of a loop that supplies the absent pages at which look-ups end.
use Rattle.std.proofs.Common.{◌≡◌, ◌≢◌, ℕ, zero, suc, ◌+◌, ◌-◌, ◌<◌, ◌≤◌, ◌⊎◌, inl, inr, Bool, true, false, cond, List, [], ◌∷◌, length, map, refl, sym, ap, subst, ◌∙◌, arith}
use Rattle.std.specs.List.{filter, range_with_len}
use Rattle.std.proofs.lemmas.Bool.{cases_Bool, cases_lt}
use Rattle.vm_base.specs.Search.{HasNone}
use Rattle.vm_model.specs.Contents.Content.{Content, pages_of, used, sole}
use Rattle.vm_model.specs.Contents.Writing.{Piece}
use Rattle.vm_model.proofs.ContentLaws.{sole_held}
use Rattle.vm_model.proofs.OwningLaws.{count_from, count_from-same}
use Rattle.vm_model.proofs.WritingLaws.{IsKept-same, Written-other}
use Rattle.vmo_ops.proofs.ModelLaws.{count_from-next, count_from-split}
use Rattle.vmo_ops.proofs.RowLaws.{Run, Takes, IsUnderWay, IsUnderWay-start, IsUnderWay-step}
use Rattle.vm_model.specs.Contents.Owning.{VmoPage}
use Rattle.source_model.specs.State.{state_over, is_absent, supply_of}
use Rattle.source_model.proofs.FillingLaws.{absent-held}
use Rattle.source_vm.specs.Pages.{Backings, LooseLinks, IsReadable, FillsPage, FillsPages, IsSupplied, lookup_end, end_piece, is_end_absent, absent_ends}
use Rattle.source_vm.proofs.FillingLaws.{Written-from_fills, IsReadable-kept}
use Rattle.source_vm.proofs.EndLaws.{end-stays, absent-stays}

-- ---- counting

pub filter_count : (test : ℕ → Bool) (first n : ℕ) → length (filter test (range_with_len first n)) ≡ count_from test first n
unfolding count_from
filter_count test first zero = refl
filter_count test first (suc n) = go (test first) (filter_count test (first + 1) n) where
  go : (bit : Bool) → length (filter test (range_with_len (first + 1) n)) ≡ count_from test (first + 1) n
      → length (cond bit (first ∷ filter test (range_with_len (first + 1) n)) (filter test (range_with_len (first + 1) n))) ≡ cond bit 1 0 + count_from test (first + 1) n
  go true e = omega (arith, e)
  go false e = omega (arith, e)

-- one page more
module _ (test : ℕ → Bool) (first page n : ℕ) (order : first ≤ page) (counted : n ≡ length (filter test (range_with_len first (page - first)))) where
  one_more : length (filter test (range_with_len first (page + 1 - first))) ≡ n + cond (test page) 1 0
  unfolding count_from
  one_more =
      let none : page + 1 - (page + 1) ≡ 0 = omega arith in
      let last : count_from test (page + 1) (page + 1 - (page + 1)) ≡ 0 = ap (count_from test (page + 1)) none in
      omega (
        arith,
        counted,
        last,
        filter_count test first (page - first),
        filter_count test first (page + 1 - first),
        count_from-split test first page (page + 1) order (omega arith),
        count_from-next test page (page + 1) (omega arith),
      )

  pub counted_true : test page ≡ true → n + 1 ≡ length (filter test (range_with_len first (page + 1 - first)))
  counted_true e = let one : ◌≡◌ {A = ℕ} (cond (test page) 1 0) 1 = ap (λ (t : Bool). cond t 1 0) e in omega (arith, one, one_more)

  pub counted_false : test page ≡ false → n ≡ length (filter test (range_with_len first (page + 1 - first)))
  counted_false e = let none : ◌≡◌ {A = ℕ} (cond (test page) 1 0) 0 = ap (λ (t : Bool). cond t 1 0) e in omega (arith, none, one_more)

-- ---- pages that are filled

module _ (bs : Backings) (ls : LooseLinks) where
  pub FillsPages-more : (old mid new : Content) (part : Piece) (parts : List Piece) → FillsPage bs ls old part mid → FillsPages bs ls mid parts new → FillsPages bs ls old (part ∷ parts) new
  FillsPages-more old mid new part parts first rest = record {
    each = λ names. (state_over mid names bs ls, first.each names, rest.each names);
  }

  pub FillsPages-none : (c : Content) → FillsPages bs ls c [] c
  FillsPages-none c = record { each = λ names. refl }

-- ---- absent pages in a row

used_more : (now mid : Content) (alone bit : Bool) → used mid ≡ cond alone (used now) (used now + 1) → bit ≡ true → used mid ≤ used now + cond bit 1 0
used_more now mid true bit e f = omega (arith, e)
used_more now mid false bit e f = let one : ◌≡◌ {A = ℕ} (cond bit 1 0) 1 = ap (λ (t : Bool). cond t 1 0) f in omega (arith, e, one)

cases_below : (q from : ℕ) → q < from + 1 → (q < from) ⊎ (q ≡ from)
cases_below q from h = elim (cases_lt q from) [ inl less ↦ inl less | inr past ↦ inr (omega (arith, h, past)) ]

module _ (bs : Backings) (ls : LooseLinks) (v : ℕ) (start : Content) where
  abbrev began : ℕ → Bool
  began = is_end_absent bs ls start v

  filter_true : (p : ℕ) (ps : List ℕ) → began p ≡ true → filter began (p ∷ ps) ≡ p ∷ filter began ps
  filter_true p ps e = ap (λ (t : Bool). cond t (p ∷ filter began ps) (filter began ps)) e

  filter_false : (p : ℕ) (ps : List ℕ) → began p ≡ false → filter began (p ∷ ps) ≡ filter began ps
  filter_false p ps e = ap (λ (t : Bool). cond t (p ∷ filter began ps) (filter began ps)) e

  -- supplying the ends that were absent at the start
  abbrev pub supplying : Run
  supplying c ps new = FillsPages bs ls c (map (end_piece ls start v) (filter began ps)) new

  abbrev pub takes : Takes
  takes c p = is_end_absent bs ls c v p

  -- The ends of the pages of v before `from` are supplied, and those from there to below `end` are left. The rows and the frames that
  -- these take are there.
  pub record IsSupplying (now : Content) (first from end spare : ℕ) : Type 0 where
    pub way : IsUnderWay supplying takes v start (range_with_len first (end - first)) now from end
    pub readable : IsReadable now bs ls
    pub ends : (w q : ℕ) → lookup_end ls now w q ≡ lookup_end ls start w q
    pub same : (q : ℕ) → from ≤ q → is_end_absent bs ls now v q ≡ began q
    pub none : HasNone (is_end_absent bs ls now v) first from
    pub rows : count_from (takes now) from (end - from) ≤ spare
    pub pages : (w : ℕ) → pages_of now w ≡ pages_of start w

  pub IsSupplying-start : (first end spare : ℕ) → IsReadable start bs ls → end ≤ pages_of start v → first ≤ end
      → length (absent_ends bs ls start v first end) ≤ spare → used start + length (absent_ends bs ls start v first end) ≤ start.frames
      → IsSupplying start first first end spare
  IsSupplying-start first end spare readable inside order rows free =
      let count = filter_count (takes start) first (end - first) in
      record {
        way = IsUnderWay-start supplying takes v start (range_with_len first (end - first)) first end readable.good inside order
            (omega (arith, count, free)) refl;
        readable = readable;
        ends = λ w q. refl;
        same = λ q h. refl;
        none = λ q low less. absurd (omega (arith, low, less));
        rows = omega (arith, count, rows);
        pages = λ w. refl;
      }

  module _ (now mid : Content) (first from end spare left : ℕ) (s : IsSupplying now first from end spare) (h : from < end)
      (absent : is_end_absent bs ls now v from ≡ true → FillsPage bs ls now (end_piece ls now v from) mid × (spare ≤ left + 1))
      (inside : (lookup_end ls now v from).page < pages_of now (lookup_end ls now v from).koid)
      (other : is_end_absent bs ls now v from ≡ false → (mid ≡ now) × (left ≡ spare)) where
    next : count_from (takes now) from (end - from) ≡ cond (takes now from) 1 0 + count_from (takes now) (from + 1) (end - (from + 1))
    next = count_from-next (takes now) from end h

    step_absent : is_end_absent bs ls now v from ≡ true → IsSupplying mid first (from + 1) end left
    unfolding is_end_absent
    step_absent e =
        let fills = (absent e).0 in
        let cost = (absent e).1 in
        let k = (lookup_end ls now v from).koid in
        let r = (lookup_end ls now v from).page in
        let written = Written-from_fills bs ls now mid k r 0 [] s.readable inside (omega arith) fills in
        let beside : (w q : ℕ) → (w ≡ k → q ≡ r → ⊥) → mid.page w q ≡ now.page w q = λ w q apart. Written-other now mid k r written w q apart in
        let others : (q : ℕ) → q ≢ from → is_end_absent bs ls mid v q ≡ is_end_absent bs ls now v q
        = λ q apart. absent-stays bs ls now mid s.readable v from e beside q apart in
        let stays : (w q : ℕ) → lookup_end ls mid w q ≡ lookup_end ls now w q = λ w q. end-stays bs ls now mid s.readable v from e beside w q in
        let one : ◌≡◌ {A = ℕ} (cond (takes now from) 1 0) 1 = ap (λ (t : Bool). cond t 1 0) e in
        let rest : count_from (takes mid) (from + 1) (end - (from + 1)) ≡ count_from (takes now) (from + 1) (end - (from + 1)) =
        count_from-same (takes mid) (takes now) (from + 1) (end - (from + 1)) (λ q low less. let apart : q ≢ from = omega arith in others q apart) in
        let gone : is_end_absent bs ls mid v from ≡ false =
        let held = sole_held mid k r written.alone in
        ap (λ (u : VmoPage). is_absent mid (bs u.koid) u.koid u.page) (stays v from) ∙ absent-held mid (bs k) k r held.0 held.1 in
        let first_absent : began from ≡ true = sym (s.same from (omega arith)) ∙ e in
        let part : end_piece ls start v from ≡ end_piece ls now v from = ap (λ (u : VmoPage). supply_of u.koid u.page) (sym (s.ends v from)) in
        record {
          way = IsUnderWay-step supplying takes v start (range_with_len first (end - first)) now mid from end s.way h (record {
            kept = written.kept;
            others = others;
            used = used_more now mid (sole now k r) (takes now from) written.used e;
            onward = λ ps last w. subst (λ (xs : List ℕ). FillsPages bs ls now (map (end_piece ls start v) xs) last)
                (sym (filter_true from ps first_absent))
                (FillsPages-more bs ls now mid last (end_piece ls start v from) _ (subst (λ (x : Piece). FillsPage bs ls now x mid) (sym part) fills) w);
          });
          readable = IsReadable-kept bs ls now mid s.readable written.kept.good written.kept.pages;
          ends = λ w q. stays w q ∙ s.ends w q;
          same = λ q low. others q (λ at. omega (arith, low, at)) ∙ s.same q (omega (arith, low));
          none = λ q low less. elim (cases_below q from less) [ inl before ↦ others q (λ at. omega (arith, before, at)) ∙ s.none q low before | inr at ↦ rw at gone ];
          rows = omega (arith, s.rows, next, one, rest, cost);
          pages = λ w. written.kept.pages w ∙ s.pages w;
        }

    step_other : is_end_absent bs ls now v from ≡ false → IsSupplying mid first (from + 1) end left
    step_other e =
        let same_content = (other e).0 in
        let same_spare = (other e).1 in
        let none : ◌≡◌ {A = ℕ} (cond (takes now from) 1 0) 0 = ap (λ (t : Bool). cond t 1 0) e in
        let not_absent : began from ≡ false = sym (s.same from (omega arith)) ∙ e in
        subst (λ (c : Content). IsSupplying c first (from + 1) end left) (sym same_content) (record {
          way = IsUnderWay-step supplying takes v start (range_with_len first (end - first)) now now from end s.way h (record {
            kept = IsKept-same now now s.way.good refl;
            others = λ q apart. refl;
            used = omega arith;
            onward = λ ps last w. subst (λ (xs : List ℕ). FillsPages bs ls now (map (end_piece ls start v) xs) last) (sym (filter_false from ps not_absent)) w;
          });
          readable = s.readable;
          ends = s.ends;
          same = λ q low. s.same q (omega (arith, low));
          none = λ q low less. elim (cases_below q from less) [ inl before ↦ s.none q low before | inr at ↦ rw at e ];
          rows = omega (arith, s.rows, next, none, same_spare);
          pages = s.pages;
        })

    pub IsSupplying-step : IsSupplying mid first (from + 1) end left
    IsSupplying-step = elim (cases_Bool (is_end_absent bs ls now v from)) [ inl e ↦ step_absent e | inr e ↦ step_other e ]

  pub IsSupplying-room : (now : Content) (first from end spare : ℕ) → IsSupplying now first from end spare → from < end
      → is_end_absent bs ls now v from ≡ true → (1 ≤ spare) × (used now < now.frames)
  IsSupplying-room now first from end spare s h e =
      let next = count_from-next (takes now) from end h in
      let one : ◌≡◌ {A = ℕ} (cond (takes now from) 1 0) 1 = ap (λ (t : Bool). cond t 1 0) e in
      (omega (arith, s.rows, next, one), omega (arith, s.way.free, next, one))

  pub IsSupplying-end : (now : Content) (first from end spare : ℕ) → IsSupplying now first from end spare → end ≤ from
      → IsSupplied bs ls v start first end now
  IsSupplying-end now first from end spare s h =
      let zero_left : end - from ≡ 0 = omega (arith, h) in
      record {
        fills = s.way.onward now (subst (λ (n : ℕ). supplying now (range_with_len from n) now) (sym zero_left) (FillsPages-none bs ls now));
        none = λ p low less. s.none p low (omega (arith, h, less));
        readable = s.readable;
        pages = s.pages;
      }
