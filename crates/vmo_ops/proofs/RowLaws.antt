-- Laws of a loop that does something to pages of a VMO in a row, one page after another: that the frames which the rest
-- takes are there, and what the loop leads to.
use Rattle.std.proofs.Common.{◌≡◌, ◌≢◌, ℕ, suc, ◌+◌, ◌-◌, ◌<◌, ◌≤◌, Bool, cond, List, ◌∷◌, subst, arith}
use Rattle.std.specs.List.{range_with_len}
use Rattle.vm_model.specs.Contents.Content.{Content, pages_of, used, IsGood}
use Rattle.vm_model.proofs.OwningLaws.{count_from, count_from-same}
use Rattle.vm_model.proofs.WritingLaws.{IsKept}
use Rattle.vmo_ops.proofs.ModelLaws.{count_from-next}

-- what doing something to pages may lead to, from one content to another
abbrev pub Run : Type 1
Run = Content → List ℕ → Content → Type 0

-- A test of a page: whether doing something to it takes a frame.
abbrev pub Takes : Type 0
Takes = Content → ℕ → Bool

-- The pages of v before `from` are done, and those from there to below `end` are left. The frames that these take are
-- free, and whatever doing these leads to, doing all pages from the old content on leads to.
pub record IsUnderWay (run : Run) (takes : Takes) (v : ℕ) (old : Content) (all : List ℕ) (now : Content) (from end : ℕ)
    : Type 0 where
  pub good : IsGood now
  pub inside : end ≤ pages_of now v
  pub bound : from ≤ end
  pub free : used now + count_from (takes now) from (end - from) ≤ now.frames
  pub onward : (last : Content) → run now (range_with_len from (end - from)) last → run old all last

-- Page p is done: from now to mid no more frames are used than it takes, and what the other pages take is as before.
pub record IsDone (run : Run) (takes : Takes) (now : Content) (p : ℕ) (mid : Content) : Type 0 where
  pub kept : IsKept now mid
  pub others : (q : ℕ) → q ≢ p → takes mid q ≡ takes now q
  pub used : used mid ≤ used now + cond (takes now p) 1 0
  pub onward : (ps : List ℕ) (last : Content) → run mid ps last → run now (p ∷ ps) last

module _ (run : Run) (takes : Takes) (v : ℕ) (old : Content) (all : List ℕ) where
  -- no page is done yet
  pub IsUnderWay-start : (first end : ℕ) → IsGood old → end ≤ pages_of old v → first ≤ end
      → used old + count_from (takes old) first (end - first) ≤ old.frames
      → all ≡ range_with_len first (end - first) → IsUnderWay run takes v old all old first end
  IsUnderWay-start = grind (arith)

  -- the next page is done
  pub IsUnderWay-step : (now mid : Content) (from end : ℕ) → IsUnderWay run takes v old all now from end → from < end
      → IsDone run takes now from mid → IsUnderWay run takes v old all mid (from + 1) end
  IsUnderWay-step now mid from end way h done =
      let rest : count_from (takes mid) (from + 1) (end - (from + 1)) ≡ count_from (takes now) (from + 1)
      (end - (from + 1)) =
      count_from-same (takes mid) (takes now) (from + 1) (end - (from + 1))
      (λ q low less. let apart : q ≢ from = omega arith in done.others q apart) in
      let e : suc (end - (from + 1)) ≡ end - from = omega arith in
      record {
        good = done.kept.good;
        inside = omega (arith, done.kept.pages v, way.inside);
        bound = omega arith;
        free = omega (arith, way.free, count_from-next (takes now) from end h, rest, done.used, done.kept.frames);
        onward = λ last w. way.onward last (subst (λ (n : ℕ). run now (range_with_len from n) last) e
            (done.onward (range_with_len (from + 1) (end - (from + 1))) last w));
      }
