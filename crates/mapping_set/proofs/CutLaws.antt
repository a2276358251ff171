-- What a set shows where a piece is taken out, or a part of one.
use Rattle.std.proofs.Common.{◌≡◌, ℕ, ◌+◌, ◌-◌, ◌<◌, ◌≤◌, max, Option, None, inl, inr, sym, ap, ◌∙◌, arith}
use Rattle.std.proofs.lemmas.Bool.{cases_lt, cases_eq, cond-true, cond-false, both_ways, eq-eqb}
use Rattle.vm_base.specs.Entries.{passes}
use Rattle.vm_base.proofs.EntryLaws.{passes-none, passes-some}
use Rattle.vm_base.proofs.SearchLaws.{eqb_same, eqb_apart, count_below_one_more, count_below_less}
use Rattle.vm_model.specs.Space.Table.{is_in, with_pages}
use Rattle.std.proofs.Common.{Bool, true, false, cond, ◌==◌, ◌⊎◌}
use Rattle.vm_base.specs.declared.limits.TheConstants.{PAGES_END}
use Rattle.vm_model.specs.declared.space.Entry.{Entry}
use Rattle.mapping_set.specs.declared.piece.Piece.{Piece}
use Rattle.mapping_set.specs.Pieces.{table_in}
use Rattle.mapping_set.specs.Tables.{without_piece, IsBare, IsFull, IsPieceIn, entries_in}
use Rattle.vm_model.proofs.TableLaws.{with_pages-in}
use Rattle.mapping_set.proofs.ChangeLaws.{with_pages-beside}
use Rattle.mapping_set.proofs.TableLaws.{table_in-below}

-- a range with an entry on each page ends where page numbers do, or is empty
pub full-end : (pieces : ℕ → ℕ → Option Piece) (root first count : ℕ) → IsFull (table_in pieces root) first (first + count) → first + count ≤ max first PAGES_END
full-end pieces root first count full = elim (cases_lt 0 count) [
  | inl some ↦
      let last = table_in-below pieces root (first + count - 1) (full (first + count - 1) (omega arith) (omega arith)) in
      omega arith
  | inr none ↦ omega arith
]

-- where pages are bare up to those that go, they are bare up to their end
pub bare-until : (table t1 : ℕ → ℕ → Option Entry) (root from end : ℕ) → t1 ≡ with_pages table root from end (λ p. None)
    → (first to : ℕ) → to ≤ end → IsBare (table root) first from → IsBare (t1 root) first to
bare-until table t1 root from end gone first to high bare p low below =
    ap (λ (t : ℕ → ℕ → Option Entry). t root p) gone
    ∙ elim (cases_lt p from) [
      | inl before ↦ with_pages-beside table root from end (λ q. None) p (inl before) ∙ bare p low before
      | inr behind ↦ with_pages-in table root from end (λ q. None) p behind (omega arith)
    ]

-- all pages of a piece, as a range
pub whole-range : (table : ℕ → ℕ → Option Entry) (root : ℕ) (x : Piece) (from last : ℕ) → x.first ≡ from → x.first + x.count ≡ last + 1
    → without_piece table root x ≡ with_pages table root from (last + 1) (λ p. None)
whole-range table root x from last begins ends =
    ap (λ k. with_pages table root k (x.first + x.count) (λ p. None)) begins ∙ ap (λ k. with_pages table root from k (λ p. None)) ends

-- where a piece of a region goes, fewer pages have entries of the region
module _ (table t1 : ℕ → ℕ → Option Entry) (root region : ℕ) (x : Piece) (there : IsPieceIn (table root) region x) (taken : t1 ≡ without_piece table root x) where
  abbrev was : ℕ → Bool
  was k = passes (is_in region) (table root k)

  abbrev now : ℕ → Bool
  now k = passes (is_in region) (t1 root k)

  -- the first page of the piece is one less
  abbrev rest : ℕ → Bool
  rest k = cond (k == x.first) false (was k)

  first_below : x.first < x.first + x.count
  first_below = let some = there.is.some in omega arith

  at_first : t1 root x.first ≡ None
  at_first = ap (λ (t : ℕ → ℕ → Option Entry). t root x.first) taken ∙ with_pages-in table root x.first (x.first + x.count) (λ q. None) x.first (omega arith) first_below

  kept : (k : ℕ) → now k ≡ true → was k ≡ true
  kept k hit = elim (cases_lt k x.first) [
    | inl before ↦ same (inl before)
    | inr low ↦ elim (cases_lt k (x.first + x.count)) [
      | inl high ↦ absurd (both_ways (now k) (passes-none (is_in region) (t1 root k) (ap (λ (t : ℕ → ℕ → Option Entry). t root k) taken
          ∙ with_pages-in table root x.first (x.first + x.count) (λ q. None) k low high)) hit)
      | inr behind ↦ same (inr behind)
    ]
  ]
    where
      same : (k < x.first) ⊎ (x.first + x.count ≤ k) → was k ≡ true
      same out = sym (ap (passes (is_in region)) (ap (λ (t : ℕ → ℕ → Option Entry). t root k) taken
          ∙ with_pages-beside table root x.first (x.first + x.count) (λ q. None) k out)) ∙ hit

  rest-hit : (k : ℕ) → now k ≡ true → rest k ≡ true
  rest-hit k hit = elim (cases_eq k x.first) [
    | inl same ↦ absurd (both_ways (now x.first) (passes-none (is_in region) (t1 root x.first) at_first) (ap now (sym same) ∙ hit))
    | inr apart ↦ cond-false _ _ _ (eqb_apart k x.first apart) ∙ kept k hit
  ]

  pub fewer_entries : entries_in t1 root region < entries_in table root region
  fewer_entries =
      let end = there.is.end in
      let below = first_below in
      let shown = there.is.entries x.first (omega arith) below in
      let more = count_below_one_more PAGES_END x.first rest was (omega arith) (cond-true _ _ _ (eqb_same x.first))
      (passes-some (is_in region) (table root x.first) _ shown ∙ eq-eqb x.entry.region.0 region there.region_is)
      (λ k apart. sym (cond-false _ _ _ (eqb_apart k x.first apart))) in
      omega (arith, more, count_below_less PAGES_END now rest (λ k h hit. rest-hit k hit))

module _ (table t1 : ℕ → ℕ → Option Entry) (root : ℕ) (x : Piece) (taken : t1 ≡ without_piece table root x) where
  -- its pages are bare then
  pub taken-bare : (first end : ℕ) → x.first ≤ first → end ≤ x.first + x.count → IsBare (t1 root) first end
  taken-bare first end low high p from below =
      ap (λ (t : ℕ → ℕ → Option Entry). t root p) taken
      ∙ with_pages-in table root x.first (x.first + x.count) (λ q. None) p (omega arith) (omega arith)
