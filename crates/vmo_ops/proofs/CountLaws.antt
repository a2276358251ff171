-- Counting the pages in a row that pass a test, from one held page to the next, where no zero page passes.
use Rattle.std.proofs.Common.{◌≡◌, ℕ, ◌+◌, ◌-◌, ◌≤◌, Bool, cond, arith}
use Rattle.vm_base.specs.Search.{HasNone, IsFirst}
use Rattle.vm_base.proofs.EntryLaws.{none_is}
use Rattle.vm_model.specs.Contents.Content.{Content, is_held}
use Rattle.vm_model.proofs.ContentLaws.{IsOfHeld}
use Rattle.vm_model.proofs.OwningLaws.{count_from}
use Rattle.vmo_ops.proofs.ModelLaws.{count_from-split, count_from-none, count_from-next}

module _ (c : Content) (v : ℕ) (test : ℕ → Bool) (of : IsOfHeld c v test) (from end : ℕ) where
  -- the next held page counts first
  pub count_from-held : (page : ℕ) → IsFirst (is_held c v) from end page
      → count_from test from (end - from) ≡ cond (test page) 1 0 + count_from test (page + 1) (end - (page + 1))
  count_from-held page next =
      let skipped =
      count_from-none test from (page - from) (λ p low less. of.zero_fails p (none_is _ (next.gap p low (omega arith)))) in
      grind (arith, skipped, count_from-split test from page end next.order, count_from-next)

  -- and none counts where no page is held
  pub count_from-zero : HasNone (is_held c v) from end → count_from test from (end - from) ≡ 0
  count_from-zero = grind (arith, count_from-none, none_is)

-- Of the pages from `first` to below `end` that pass, those before `from` are counted.
pub record AreCounted (test : ℕ → Bool) (first from end n : ℕ) : Type 0 where
  pub few : n + first ≤ from
  pub high : from ≤ end
  pub counted : n + count_from test from (end - from) ≡ count_from test first (end - first)

module _ {c : Content} {v : ℕ} {test : ℕ → Bool} (of : IsOfHeld c v test) {first from end n : ℕ}
    (so_far : AreCounted test first from end n) where
  -- one held page more
  pub AreCounted-step : {page m : ℕ} → IsFirst (is_held c v) from end page → m ≡ n + cond (test page) 1 0
      → AreCounted test first (page + 1) end m
  AreCounted-step = grind (arith, count_from-held)

  -- no page behind is held
  pub AreCounted-end : HasNone (is_held c v) from end → n ≡ count_from test first (end - first)
  AreCounted-end = grind (arith, count_from-zero)
