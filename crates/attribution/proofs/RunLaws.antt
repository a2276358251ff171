-- How runs of mappings are put together from pieces.
use Rattle.std.proofs.Common.{◌≡◌, ℕ, zero, suc, ◌+◌, ◌-◌, ◌*◌, ◌<◌, ◌≤◌, true, List, [], ◌∷◌, ◌++◌, Option, None, Some, refl, sym, ap, ◌∙◌, arith}
use Rattle.std.specs.Prelude.{is_some, IsSome, Result, Ok, Err, MatchResult}
use Rattle.std.proofs.lemmas.Bool.Decides.{nat_tests}
use Rattle.std.proofs.lemmas.Grind.{common_steps}
use Rattle.vm_base.specs.declared.limits.TheConstants.{PAGE}
use Rattle.vm_base.specs.declared.refusal.HostMemory.{HostMemory}
use Rattle.vm_base.proofs.SearchLaws.{any_from_at}
use Rattle.vm_model.specs.declared.runs.Run.{Run}
use Rattle.vm_model.specs.declared.space.Entry.{Entry}
use Rattle.vm_model.specs.Space.Table.{entry_behind, mapping_from}
use Rattle.vm_model.specs.Space.Mappings.{is_mapped_in, page_run, goes_on, run_before, runs_of}
use Rattle.mapping_set.specs.declared.piece.Piece.{Piece}
use Rattle.mapping_set.specs.Tables.{IsBare, IsFirstPiece}
use Rattle.attribution.specs.inside.BegunRuns.{begun_before, run_of}

-- ---- a run before runs

-- the run x, with y at its end
abbrev pub joined : Run → Run → Run
joined x y = record x { len = x.len + y.len }

-- where y goes on, both are one run before runs
run_before-joined : (x y : Run) (rest : List Run) → goes_on x y ≡ true → run_before x (run_before y rest) ≡ run_before (joined x y) rest
run_before-joined x y [] on = grind (arith, common_steps, nat_tests)
run_before-joined x y (z ∷ rest) on = grind (arith, common_steps, nat_tests)

-- ---- the runs of pages

-- the run of `count` pages, whose first is the page p and has this entry
abbrev run_from : ℕ → Entry → ℕ → Run
run_from p entry count = record (page_run p entry) { len = count * PAGE }

module _ (entries : ℕ → Option Entry) where
  runs_of-zero : (p : ℕ) → runs_of entries 0 p ≡ []
  unfolding runs_of
  runs_of-zero p = refl

  -- pages without entries change nothing
  runs_of-bare : (k n p : ℕ) → IsBare entries p (p + k) → runs_of entries (k + n) p ≡ runs_of entries n (p + k)
  unfolding runs_of
  runs_of-bare zero n p bare = grind arith
  runs_of-bare (suc k) n p bare =
      let more : suc k + n ≡ suc (k + n) = omega arith in
      let here : entries p ≡ None = bare p (omega arith) (omega arith) in
      rw (more, here) (grind (arith, runs_of-bare k n (p + 1) (λ q low high. bare q (omega (arith, low)) (omega (arith, high)))))

  -- pages that show rising pages of one VMO are one run before the runs of the pages behind them
  runs_of-rising : (first : ℕ) (entry : Entry) (k n p : ℕ) → first ≤ p → ((q : ℕ) → p ≤ q → q < p + suc k → entries q ≡ mapping_from first entry q)
      → runs_of entries (suc k + n) p ≡ run_before (run_from p (entry_behind entry (p - first)) (suc k)) (runs_of entries n (p + suc k))
  unfolding runs_of
  runs_of-rising first entry zero n p low each =
      let more : suc zero + n ≡ suc n = omega arith in
      rw (more, each p (omega arith) (omega arith)) refl
  runs_of-rising first entry (suc k) n p low each =
      let more : suc (suc k) + n ≡ suc (suc k + n) = omega arith in
      let end : p + 1 + suc k ≡ p + suc (suc k) = omega arith in
      let len : PAGE + suc k * PAGE ≡ suc (suc k) * PAGE = omega arith in
      let here = entry_behind entry (p - first) in
      let next = run_from (p + 1) (entry_behind entry (p + 1 - first)) (suc k) in
      let on : goes_on (page_run p here) next ≡ true = grind (arith, nat_tests) in
      let rest = runs_of-rising first entry k n (p + 1) (omega (arith, low)) (λ q from to. each q (omega (arith, from)) (omega (arith, to))) in
      rw (more, each p (omega arith) (omega arith), rest, run_before-joined (page_run p here) next (runs_of entries n (p + 1 + suc k)) on)
      (λ i. run_before (record (page_run p here) { len = len i }) (runs_of entries n (end i)))

  module _ (from end : ℕ) (piece : Piece) (is : IsFirstPiece entries from end piece) where
    -- the pages of a piece are one run before the runs of the pages behind them
    pub runs_of-piece : runs_of entries (end - from) from
        ≡ run_before (run_of piece) (runs_of entries (end - (piece.first + piece.count)) (piece.first + piece.count))
    runs_of-piece =
        let gap = piece.first - from in
        let behind = end - (piece.first + piece.count) in
        let some = is.next.is.some in
        let low = is.next.not_before in
        let high = is.not_past in
        let count : suc (piece.count - 1) ≡ piece.count = omega (arith, some) in
        let all : end - from ≡ gap + (piece.count + behind) = omega (arith, low, high) in
        let start : from + gap ≡ piece.first = omega (arith, low) in
        let page : piece.entry.page + (piece.first - piece.first) ≡ piece.entry.page = omega arith in
        ap (λ (n : ℕ). runs_of entries n from) all
        ∙ (runs_of-bare gap (piece.count + behind) from (λ q a b. is.next.bare q a (omega (arith, b, start)))
        ∙ ((λ i. runs_of entries (sym count i + behind) (start i))
        ∙ (runs_of-rising piece.first piece.entry (piece.count - 1) behind piece.first (omega arith)
        (λ q a b. is.next.is.entries q a (omega (arith, b, count)))
        ∙ λ i. run_before (run_from piece.first (record (piece.entry) { page = page i }) (count i)) (runs_of entries behind (piece.first + count i)))))

    -- some page of a range that the piece lies in is mapped
    pub is_mapped_in-piece : (first : ℕ) → first ≤ from → is_mapped_in entries first end ≡ true
    unfolding is_mapped_in
    is_mapped_in-piece first low =
        let some = is.next.is.some in
        let before = is.next.not_before in
        let high = is.not_past in
        any_from_at _ first end piece.first (omega (arith, low, before)) (omega (arith, some, high))
        (ap is_some (is.next.is.entries piece.first (omega arith) (omega (arith, some))))

  -- ---- the runs of a range, as far as they are put together

  -- The runs of the pages before `at`, the last of which was begun, stand before those of the pages from `at` on.
  pub record AreBegun (first count at : ℕ) (runs : List Run) (begun : Option Run) : Type 0 where
    pub start : first ≤ at
    pub bound : at ≤ first + count
    pub whole : runs_of entries count first ≡ runs ++ begun_before begun (runs_of entries (first + count - at) at)
    pub mapped : IsSome begun → is_mapped_in entries first (first + count) ≡ true

  pub AreBegun-none : (first count : ℕ) (runs : List Run) → runs ≡ [] → AreBegun first count first runs None
  AreBegun-none first count runs none = record {
    start = omega arith;
    bound = omega arith;
    whole = let all : count ≡ first + count - first = omega arith in
        (λ i. sym none i ++ runs_of entries (all i) first);
    mapped = λ some. absurd cc;
  }

  module _ (first count at : ℕ) (runs : List Run) (begun : Option Run) (are : AreBegun first count at runs begun) where
    -- one piece more
    pub AreBegun-piece : (piece : Piece) (next : Run) (new : List Run) (run : Run) → IsFirstPiece entries at (first + count) piece → next ≡ run_of piece
        → ((rest : List Run) → runs ++ begun_before begun (run_before next rest) ≡ new ++ run_before run rest)
        → AreBegun first count (piece.first + piece.count) new (Some run)
    AreBegun-piece piece next new run is run_is more =
        let behind = piece.first + piece.count in
        let rest = runs_of entries (first + count - behind) behind in
        record {
          start = omega (arith, are.start, is.next.not_before);
          bound = is.not_past;
          whole = are.whole
              ∙ (ap (λ (all : List Run). runs ++ begun_before begun all) (runs_of-piece at (first + count) piece is)
              ∙ (ap (λ (y : Run). runs ++ begun_before begun (run_before y rest)) (sym run_is) ∙ more rest));
          mapped = λ some. is_mapped_in-piece at (first + count) piece is first are.start;
        }

    -- none more
    pub AreBegun-end : IsBare entries at (first + count) → (answer : Result (List Run) HostMemory)
        → MatchResult answer (λ all. all ≡ runs ++ begun_before begun []) (λ lack. IsSome begun)
        → MatchResult answer (λ all. all ≡ runs_of entries count first) (λ lack. is_mapped_in entries first (first + count) ≡ true)
    AreBegun-end bare (Err lack) is = are.mapped is
    AreBegun-end bare (Ok all) is =
        let bound = are.bound in
        let left = first + count - at in
        let more : left ≡ left + 0 = omega arith in
        let none : runs_of entries left at ≡ runs_of entries 0 (at + left) =
        ap (λ (n : ℕ). runs_of entries n at) more ∙ runs_of-bare left 0 at (λ q a b. bare q a (omega (arith, b, bound))) in
        is ∙ sym (are.whole ∙ ap (λ (rest : List Run). runs ++ begun_before begun rest) (none ∙ runs_of-zero (at + left)))
