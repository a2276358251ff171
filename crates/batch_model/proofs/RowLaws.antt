-- Laws of pages in a row: a row and the one behind it, how many of them pass a test, and which pages a range of whole pages touches.
use Rattle.std.proofs.Common.{◌≡◌, ℕ, zero, suc, ◌+◌, ◌-◌, ◌*◌, ◌/◌, ◌<◌, ◌≤◌, Bool, false, not, List, [], ◌∷◌, refl, sym, ap, subst, ◌∙◌, ◌⊎◌, arith}
use Rattle.std.specs.List.{range_with_len}
use Rattle.vm_base.specs.declared.limits.TheConstants.{PAGE}
use Rattle.vm_base.proofs.SearchLaws.{bit-false}
use Rattle.vm_model.specs.Contents.Content.{Content, sole}
use Rattle.vm_model.specs.Contents.Writing.{touched, touched_end}
use Rattle.vm_model.proofs.OwningLaws.{count_from, count_from-same, unowned}
use Rattle.vm_model.proofs.RangeLaws.{touched-row, touched_end-is}
use Rattle.vm_model.proofs.WritingLaws.{IsKept}

-- ---- numbers of pages

-- whole pages touch as many pages
pub touched-pages : (place len p n : ℕ) → place ≡ p * PAGE → len ≡ n * PAGE → 0 < n → touched place len ≡ range_with_len p n
touched-pages place len p n at is some =
    let first : place / PAGE ≡ p = omega arith in
    let count : touched_end place len - place / PAGE ≡ n = omega (arith, touched_end-is place len) in
    touched-row place len (omega arith) ∙ (λ i. range_with_len (first i) (count i))

-- the pages that pass in a row and in the one behind it
pub count_from-both : (test : ℕ → Bool) (first n m : ℕ) → count_from test first (n + m) ≡ count_from test first n + count_from test (first + n) m
unfolding count_from
count_from-both test first zero m = grind arith
count_from-both test first (suc n) m =
    let e : suc n + m ≡ suc (n + m) = omega arith in
    let f : first + suc n ≡ (first + 1) + n = omega arith in
    rw (e, f) (grind (arith, count_from-both test (first + 1) n m))

-- where no page passes, none counts
pub count_from-nothing : (test : ℕ → Bool) (first n : ℕ) → ((p : ℕ) → first ≤ p → p < first + n → test p ≡ false) → count_from test first n ≡ 0
unfolding count_from
count_from-nothing test first zero none = refl
count_from-nothing test first (suc n) none =
    omega (arith, bit-false (test first) (none first (omega arith) (omega arith)), count_from-nothing test (first + 1) n (λ p h less. none p (omega arith) (omega arith)))

-- the pages that are not sole, in a row and in the one behind it
pub unowned-both : (c : Content) (v first n m : ℕ) → unowned c v first (n + m) ≡ unowned c v first n + unowned c v (first + n) m
unfolding unowned
unowned-both c v first n m = count_from-both (λ p. not (sole c v p)) first n m

-- they are as many where each page is as sole as it was
pub unowned-same : (c d : Content) (v first n : ℕ) → ((p : ℕ) → first ≤ p → p < first + n → sole d v p ≡ sole c v p) → unowned d v first n ≡ unowned c v first n
unfolding unowned
unowned-same c d v first n same = count_from-same (λ p. not (sole d v p)) (λ p. not (sole c v p)) first n (λ p low high. ap not (same p low high))

-- ---- changes of pages in a row

module _ (Change : Content → ℕ → Content → Type 0) (Changes : Content → List ℕ → Content → Type 0)
    (none : (old new : Content) → Changes old [] new → new ≡ old) (nothing : (c : Content) → Changes c [] c)
    (more : (old new : Content) (p : ℕ) (ps : List ℕ) → Changes old (p ∷ ps) new → (mid : Content) × Change old p mid × Changes mid ps new)
    (join : (old mid new : Content) (p : ℕ) (ps : List ℕ) → Change old p mid → Changes mid ps new → Changes old (p ∷ ps) new) where
  -- a row and the one behind it
  pub row_both : (first n m : ℕ) (old mid new : Content) → Changes old (range_with_len first n) mid → Changes mid (range_with_len (first + n) m) new
      → Changes old (range_with_len first (n + m)) new
  row_both first zero m old mid new these those =
      let e : first + zero ≡ first = omega arith in
      let f : zero + m ≡ m = omega arith in
      subst (λ (k : ℕ). Changes old (range_with_len first k) new) (sym f)
      (subst (λ (c : Content). Changes c (range_with_len first m) new) (none old mid these)
      (subst (λ (a : ℕ). Changes mid (range_with_len a m) new) e those))
  row_both first (suc n) m old mid new these those =
      let e : suc n + m ≡ suc (n + m) = omega arith in
      let f : first + suc n ≡ (first + 1) + n = omega arith in
      let parts = more old mid first (range_with_len (first + 1) n) these in
      subst (λ (k : ℕ). Changes old (range_with_len first k) new) (sym e)
      (join old parts.0 new first (range_with_len (first + 1) (n + m)) parts.1
      (row_both (first + 1) n m parts.0 mid new parts.2 (subst (λ (a : ℕ). Changes mid (range_with_len a m) new) f those)))

-- What a change of pages of v from `first` to below `end` leaves: the VMOs are those of c, pages elsewhere are as they were, and
-- such pages of v as sole as they were.
pub record Leaves (v first end : ℕ) (c d : Content) : Type 0 where
  pub kept : IsKept c d
  pub page : (w q : ℕ) → (w ≡ v → (q < first) ⊎ (end ≤ q)) → d.page w q ≡ c.page w q
  pub alone : (q : ℕ) → (q < first) ⊎ (end ≤ q) → sole d v q ≡ sole c v q
