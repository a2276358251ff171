-- Laws of a loop that owns pages of a VMO in a row, whatever else it does to each.
use Rattle.std.proofs.Common.{[], ◌≡◌, ◌≢◌, ℕ, ◌+◌, ◌-◌, ◌*◌, ◌<◌, ◌≤◌, true, not, List, ◌∷◌, ◌⊎◌, ap, arith}
use Rattle.std.specs.List.{range_with_len}
use Rattle.std.proofs.lemmas.Bool.{cases_Bool}
use Rattle.std.proofs.lemmas.List.FromFn.{length-range_with_len}
use Rattle.vm_base.proofs.SearchLaws.{bit-true}
use Rattle.vm_model.specs.Contents.Content.{Content, pages_of, used, sole, IsGood}
use Rattle.vm_model.specs.Contents.Owning.{Owns, OwnsAll, need}
use Rattle.vm_model.proofs.OwningLaws.{Owned-from_Owns, count_from, count_from-same, unowned, need-row}
use Rattle.vm_model.proofs.WritingLaws.{Written}
use Rattle.vmo_ops.proofs.ModelLaws.{count_from-next}
use Rattle.vm_base.specs.declared.limits.TheConstants.{PAGE}
use Rattle.vm_model.specs.Contents.Writing.{touched}
use Rattle.vmo_ops.specs.Costs.{HasRows}
use Rattle.vmo_ops.proofs.RowLaws.{Run, Takes, IsUnderWay, IsUnderWay-start, IsUnderWay-step}

-- owning a page takes a frame where it is not sole
abbrev pub is_unowned : ℕ → Takes
is_unowned v c p = not (sole c v p)

-- such pages in a row are the need of the row
pub need-count : (c : Content) (v first n : ℕ) → need c v (range_with_len first n) ≡ count_from (is_unowned v c) first n
unfolding unowned
need-count = grind (arith, need-row)

-- The pages of v before `from` are owned, and those from there to below `end` are left. The frames and the rows that
-- these take are there.
pub record IsOwning (run : Run) (v : ℕ) (old : Content) (all : List ℕ) (now : Content) (from end spare : ℕ)
    : Type 0 where
  pub way : IsUnderWay run (is_unowned v) v old all now from end
  pub rows : (count_from (is_unowned v now) from (end - from) ≡ 0) ⊎ (end - from ≤ spare)

-- no page that a range touches is owned yet
pub IsOwning-start : (run : Run) (v : ℕ) (old : Content) (offset len first end spare : ℕ) → IsGood old
    → offset + len ≤ pages_of old v * PAGE → end * PAGE < offset + len + PAGE → first ≤ end
    → touched offset len ≡ range_with_len first (end - first) → HasRows old v (touched offset len) spare
    → used old + need old v (touched offset len) ≤ old.frames
    → IsOwning run v old (touched offset len) old first end spare
IsOwning-start = grind (arith, IsUnderWay-start, need-count, length-range_with_len)

-- no page of a row is owned yet
pub IsOwning-row : (run : Run) (v : ℕ) (old : Content) (first end spare : ℕ) → IsGood old → end ≤ pages_of old v → first ≤ end
    → HasRows old v (range_with_len first (end - first)) spare → used old + need old v (range_with_len first (end - first)) ≤ old.frames
    → IsOwning run v old (range_with_len first (end - first)) old first end spare
IsOwning-row = grind (arith, IsUnderWay-start, need-count, length-range_with_len)

module _ {run : Run} {v : ℕ} {old : Content} {all : List ℕ} {now : Content} {from end spare : ℕ}
    (owning : IsOwning run v old all now from end spare) where
  -- no page is left
  pub IsOwning-end : end ≤ from → run now [] now → run old all now
  IsOwning-end = grind (arith)

  module _ (h : from < end) where
    -- the next page is sole, or there are a row and a frame for it
    pub IsOwning-room : (sole now v from ≡ true) ⊎ ((1 ≤ spare) × (used now < now.frames))
    IsOwning-room = grind (arith, cases_Bool, count_from-next, bit-true)

    -- it is owned, and more may be done to it
    pub IsOwning-step : {mid : Content} {left : ℕ} → Written now v from mid → spare ≤ left + 1
        → ((ps : List ℕ) (last : Content) → run mid ps last → run now (from ∷ ps) last)
        → IsOwning run v old all mid (from + 1) end left
    IsOwning-step {mid} {left} written cost onward =
        let rest : count_from (is_unowned v mid) (from + 1) (end - (from + 1)) ≡ count_from (is_unowned v now)
        (from + 1) (end - (from + 1)) =
        count_from-same (is_unowned v mid) (is_unowned v now) (from + 1) (end - (from + 1))
        (λ q low less. let apart : q ≢ from = omega arith in ap not (written.other_sole q apart)) in
        record {
          way = IsUnderWay-step run (is_unowned v) v old all now mid from end owning.way h (record {
            kept = written.kept;
            others = λ q apart. ap not (written.other_sole q apart);
            used = grind (arith, written.used);
            onward = onward;
          });
          rows = grind (arith, count_from-next, rest);
        }

-- a page that was owned is one that was written, for all that a loop asks
pub Written-from_Owns : (old new : Content) (v p tag : ℕ) → IsGood old → p < pages_of old v → Owns old new v p tag
    → Written old v p new
Written-from_Owns = grind (arith, Owned-from_Owns)

-- owning pages of v, from one content to another
abbrev pub owning_pages : ℕ → Run
owning_pages v c ps new = OwnsAll c v ps new

-- the next page is owned
pub IsOwning-owned : {v : ℕ} {old : Content} {all : List ℕ} {now mid : Content} {from end spare left tag : ℕ}
    → IsOwning (owning_pages v) v old all now from end spare → from < end → Owns now mid v from tag → spare ≤ left + 1
    → IsOwning (owning_pages v) v old all mid (from + 1) end left
IsOwning-owned {now = now} {mid = mid} {tag = tag} owning h owns cost =
    IsOwning-step owning h (Written-from_Owns now mid _ _ tag owning.way.good (omega (arith, owning.way.inside)) owns)
    cost (λ ps last w. (mid, tag, owns, w))
