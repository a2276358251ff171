-- How many numbers pass a test, where the elements of a list stand for them, or are they.
use Rattle.cow_forest.proofs.Words.{◌≡◌, ◌≢◌, ℕ, ◌<◌, Bool, true, false, List, [], ◌∷◌, length, not, ◌&&◌, ◌==◌, inl, inr, refl, sym, ap}
use Rattle.cow_forest.proofs.Words.{subst, ◌∙◌, arith, eqb, All, Contains, IsDistinct, All-contains, All-from_recursion, IsDistinct-head}
use Rattle.cow_forest.proofs.Words.{IsDistinct-tail, and_left, and_parts, false_from_ne_true, not-true, count_below_none}
use Rattle.cow_forest.proofs.Words.{count_below_one_more, eqb_same, eqb_apart, Contains-cons_cases, count_below}
use Rattle.cow_split.proofs.SearchLaws.{contains-none, contains-first, contains-later}

-- no element of a list comes again
pub distinct-first : (x : ℕ) (xs : List ℕ) → IsDistinct eqb (x ∷ xs) → Contains xs x → ⊥
distinct-first x xs once again =
    let all : All (λ y. eqb x y ≡ false) xs = All-from_recursion (λ y. eqb x y ≡ false) xs (IsDistinct-head eqb x xs once) in
    let apart : eqb x x ≡ false = All-contains (λ y. eqb x y ≡ false) xs x all again in
    let same : eqb x x ≡ true = eqb_same x in
    cc

module _ (number : ℕ → ℕ) (n : ℕ) where
  -- Each element of the list stands for a number below n that passes, no two for one, and each such number has an element.
  pub record AreNumbered (test : ℕ → Bool) (xs : List ℕ) : Type 0 where
    pub once : IsDistinct eqb xs
    pub apart : (j k : ℕ) → Contains xs j → Contains xs k → number j ≡ number k → j ≡ k
    pub passes : (k : ℕ) → Contains xs k → (number k < n) × (test (number k) ≡ true)
    pub found : (m : ℕ) → m < n → test m ≡ true → (k : ℕ) × Contains xs k × (number k ≡ m)

  -- the numbers that pass, but for this one
  abbrev others : (ℕ → Bool) → ℕ → ℕ → Bool
  others test one m = not (m == one) && test m

  others-same : (test : ℕ → Bool) (one m : ℕ) → m ≢ one → test m ≡ others test one m
  others-same test one m apart = sym (ap (λ b. not b && test m) (eqb_apart m one apart))

  -- the first element's number left out, the others stand for the rest
  numbered-rest : (test : ℕ → Bool) (x : ℕ) (xs : List ℕ) → AreNumbered test (x ∷ xs) → AreNumbered (others test (number x)) xs
  numbered-rest test x xs h = record {
    once = IsDistinct-tail eqb x xs h.once;
    apart = λ j k in_j in_k. h.apart j k (contains-later x j xs in_j) (contains-later x k xs in_k);
    passes = λ k in_k.
        let pass = h.passes k (contains-later x k xs in_k) in
        let away : number k ≢ number x =
        λ same. distinct-first x xs h.once (subst (Contains xs) (h.apart k x (contains-later x k xs in_k) (contains-first x xs) same) in_k) in
        (pass.0, sym (others-same test (number x) (number k) away) ∙ pass.1);
    found = λ m below e.
        let parts = and_parts (not (m == number x)) (test m) e in
        let it = h.found m below parts.1 in
        elim (Contains-cons_cases x it.0 xs it.1) [
          | inl here ↦ absurd (let hit = eqb_same m in let same : number x ≡ m = ap number here ∙ it.2 in let miss = not-true (m == number x) parts.0 in let test_is = ap (λ o. m == o) same in cc)
          | inr there ↦ (it.0, there, it.2)
        ];
  }

  -- so many pass as the list has elements
  pub count_below_numbered : (test : ℕ → Bool) (xs : List ℕ) → AreNumbered test xs → count_below n test ≡ length xs
  count_below_numbered test [] h =
      count_below_none n test (λ m below. false_from_ne_true (test m) (λ e. let it = h.found m below e in contains-none it.0 it.1))
  count_below_numbered test (x ∷ xs) h =
      let first = h.passes x (contains-first x xs) in
      let miss : others test (number x) (number x) ≡ false = and_left (not (number x == number x)) (test (number x)) (ap not (eqb_same (number x))) in
      count_below_one_more n (number x) (others test (number x)) test first.0 miss first.1 (others-same test (number x))
      ∙ (let few = count_below_numbered (others test (number x)) xs (numbered-rest test x xs h) in omega arith)

-- where different numbers pass, all below n, and no other number below n does, as many pass as they are
pub count_below_list : (n : ℕ) (xs : List ℕ) (test : ℕ → Bool) → IsDistinct eqb xs → ((k : ℕ) → Contains xs k → (k < n) × (test k ≡ true)) →
    ((k : ℕ) → k < n → test k ≡ true → Contains xs k) → count_below n test ≡ length xs
count_below_list n xs test distinct inside all = count_below_numbered (λ k. k) n test xs
    (record { once = distinct; apart = λ j k in_j in_k same. same; passes = inside; found = λ k less hit. (k, all k less hit, refl) })
