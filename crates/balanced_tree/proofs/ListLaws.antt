-- The list of rows that the callers of a tree see, as a map from ranks.
use Rattle.std.proofs.Common.{◌≡◌, inl, inr, ℕ, ◌+◌, ◌<◌, ◌≤◌, Bool, true, not, cond, ltb, leb, eqb}
use Rattle.std.proofs.Common.{List, [], ◌∷◌, length, Option, None, Some, is_some, refl, sym, ap, ◌∙◌, subst, rules, arith}
use Rattle.std.specs.List.{filter, find, AllByRecursion}
use Rattle.std.specs.Option.{option_or}
use Rattle.std.proofs.lemmas.Bool.{cases_Bool, cond-true, cond-false, ne_eqb, lt-leb, le-leb, leb-true, cases_lt}
use Rattle.std.proofs.lemmas.Bool.Decides.{Decides-eqb}
use Rattle.std.proofs.lemmas.List.Folds.{find-append}
use Rattle.balanced_tree.specs.Row.{Functions}
use Rattle.balanced_tree.specs.Rows.{row_at, row_from, row_to, with_row, without_rank, RisesWithin}
use Rattle.std.proofs.lemmas.Grind.{common_steps}

module _ {X : Type 0} (p q : X → Bool) (b : Bool) (agree : (x : X) → p x ≡ true → q x ≡ b) where
  -- a search in what a filter keeps, where the filter keeps all that may be found, or loses all of it
  find-filter : (xs : List X) → find p (filter q xs) ≡ cond b (find p xs) None
  find-filter [] = elim (cases_Bool b) [ inl e ↦ sym (cond-true b _ _ e) | inr e ↦ sym (cond-false b _ _ e) ]
  find-filter (x ∷ xs) = grind (arith, common_steps, find-filter xs, agree x)

module _ {R : Type 0} (f : Functions R) where
  -- the row of a rank has this rank
  pub row_at-rank : (n : ℕ) (x : R) (rows : List R) → row_at f n rows ≡ Some x → f.rank x ≡ n
  row_at-rank n x [] e = absurd (cc)
  row_at-rank n x (y ∷ rows) e = grind (arith, common_steps, row_at-rank n x rows)

  -- rows from a rank on have no lower one
  row_at-below : (n low high : ℕ) (rows : List R) → RisesWithin f low high rows → n < low → row_at f n rows ≡ None
  row_at-below n low high [] h less = refl
  row_at-below n low high (y ∷ rows) h less =
      cond-false _ _ _ (ne_eqb (f.rank y) n (λ same. absurd (omega (arith, h.0))))
      ∙ row_at-below n (f.rank y + 1) high rows h.1 (omega (arith, h.0))

  -- a search for a rank in the rows that a test of the rank keeps
  row_at-filter : (n : ℕ) (q : ℕ → Bool) (rows : List R) →
      row_at f n (filter (λ x. q (f.rank x)) rows) ≡ cond (q n) (row_at f n rows) None
  row_at-filter n q =
      find-filter (λ x. eqb (f.rank x) n) (λ x. q (f.rank x)) (q n) (λ x e. ap q ((Decides-eqb (f.rank x) n).0 e))

  pub row_at-without_rank : (n m : ℕ) (rows : List R) →
      row_at f n (without_rank f m rows) ≡ cond (not (eqb n m)) (row_at f n rows) None
  row_at-without_rank n m = row_at-filter n (λ k. not (eqb k m))

  around : (n k : ℕ) (w : R) (o : Option R) →
      option_or (cond (ltb n k) o None) (cond (eqb k n) (Some w) (cond (ltb k n) o None)) ≡ cond (eqb k n) (Some w) o
  around n k w None = grind (arith, common_steps)
  around n k w (Some x) = grind (arith, common_steps)

  pub row_at-with_row : (n : ℕ) (w : R) (rows : List R) →
      row_at f n (with_row f w rows) ≡ cond (eqb (f.rank w) n) (Some w) (row_at f n rows)
  row_at-with_row n w rows =
      find-append (λ x. eqb (f.rank x) n) (filter (λ x. ltb (f.rank x) (f.rank w)) rows) _
      ∙ (rw (row_at-filter n (λ k. ltb k (f.rank w)) rows) (rw (row_at-filter n (λ k. ltb (f.rank w) k) rows) (around n (f.rank w) w (row_at f n rows))))

  -- what is found from a rank on: the row of the least rank there is
  pub row_from-none : (n m : ℕ) (rows : List R) → row_from f n rows ≡ None → n ≤ m → row_at f m rows ≡ None
  row_from-none n m [] e h = refl
  row_from-none n m (y ∷ rows) e h = grind (arith, common_steps, row_from-none n m rows)

  pub record IsFirstFrom (n : ℕ) (x : R) (rows : List R) : Type 0 where
    pub from : n ≤ f.rank x
    pub is : row_at f (f.rank x) rows ≡ Some x
    pub least : (m : ℕ) → n ≤ m → m < f.rank x → row_at f m rows ≡ None

  pub row_from-some : (n low high : ℕ) (x : R) (rows : List R) → RisesWithin f low high rows →
      row_from f n rows ≡ Some x → IsFirstFrom n x rows
  row_from-some n low high x [] h e = absurd (cc)
  row_from-some n low high x (y ∷ rows) h e = elim (cases_lt (f.rank y) n) [
    | inl before ↦
        let rest = row_from-some n (f.rank y + 1) high x rows h.1 (sym (cond-false _ _ _ (lt-leb n (f.rank y) before)) ∙ e) in
        record {
          from = rest.from;
          is = cond-false _ _ _ (ne_eqb (f.rank y) (f.rank x) (λ same. absurd (omega (arith, rest.from)))) ∙ rest.is;
          least = λ m g l. cond-false _ _ _ (ne_eqb (f.rank y) m (λ same. absurd (omega arith))) ∙ rest.least m g l;
        }
    | inr from ↦
        let same : y ≡ x = search (rules, sym (cond-true _ _ _ (le-leb n (f.rank y) from)) ∙ e) in
        record {
          from = subst (λ z. n ≤ f.rank z) same from;
          is = subst (λ z. row_at f (f.rank z) (y ∷ rows) ≡ Some z) same (cond-true _ _ _ ((Decides-eqb (f.rank y) (f.rank y)).1 refl));
          least = λ m g l. row_at-below m (f.rank y) high (y ∷ rows) (omega arith, h.1) (subst (λ z. m < f.rank z) (sym same) l);
        }
  ]

  -- what is found up to a rank: the row of the greatest rank there is
  pub row_to-none : (n m : ℕ) (rows : List R) → row_to f n rows ≡ None → m ≤ n → row_at f m rows ≡ None
  row_to-none n m [] e h = refl
  row_to-none n m (y ∷ rows) e h = after (λ is. row_to-none n m rows is h) (row_to f n rows) refl e
    where
      after : (row_to f n rows ≡ None → row_at f m rows ≡ None) → (o : Option R) → row_to f n rows ≡ o →
          option_or o (cond (leb (f.rank y) n) (Some y) None) ≡ None → row_at f m (y ∷ rows) ≡ None
      after rest None is e = let none = rest is in grind (arith, common_steps, none)
      after rest (Some z) is e = absurd (cc)

  pub record IsLastTo (n : ℕ) (x : R) (rows : List R) : Type 0 where
    pub to : f.rank x ≤ n
    pub is : row_at f (f.rank x) rows ≡ Some x
    pub greatest : (m : ℕ) → f.rank x < m → m ≤ n → row_at f m rows ≡ None

  -- a row that is found behind the first has a higher rank
  pub row_at-behind : (m low high : ℕ) (x y : R) (rows : List R) → RisesWithin f low high (y ∷ rows) → row_at f m rows ≡ Some x → f.rank y < m
  row_at-behind m low high x y rows h e = elim (cases_lt (f.rank y) m) [
    | inl less ↦ less
    | inr more ↦ absurd (let none = row_at-below m (f.rank y + 1) high rows h.1 (omega arith) in cc)
  ]

  pub row_to-some : (n low high : ℕ) (x : R) (rows : List R) → RisesWithin f low high rows → row_to f n rows ≡ Some x →
      IsLastTo n x rows
  row_to-some n low high x [] h e = absurd (cc)
  row_to-some n low high x (y ∷ rows) h e = after (row_to-some n (f.rank y + 1) high x rows h.1) (row_to f n rows) refl e
    where
      after : (row_to f n rows ≡ Some x → IsLastTo n x rows) → (o : Option R) → row_to f n rows ≡ o → option_or o (cond (leb (f.rank y) n) (Some y) None) ≡ Some x →
          IsLastTo n x (y ∷ rows)
      after tail None is e = elim (cases_Bool (leb (f.rank y) n)) [
        | inl to ↦
            let same : y ≡ x = search (rules, sym (cond-true _ _ _ to) ∙ e) in
            record {
              to = subst (λ z. f.rank z ≤ n) same (leb-true (f.rank y) n to);
              is = subst (λ z. row_at f (f.rank z) (y ∷ rows) ≡ Some z) same (cond-true _ _ _ ((Decides-eqb (f.rank y) (f.rank y)).1 refl));
              greatest = λ m g l.
                  cond-false _ _ _ (ne_eqb (f.rank y) m (λ q. absurd (let k = ap f.rank same in omega arith)))
                  ∙ row_to-none n m rows is l;
            }
        | inr past ↦ absurd (let none : cond (leb (f.rank y) n) (Some y) None ≡ None = cond-false _ _ _ past in cc)
      ]
      after tail (Some z) is e =
          let same : z ≡ x = search (rules, e) in
          let rest = tail (is ∙ ap Some same) in
          let more = row_at-behind (f.rank x) low high x y rows h rest.is in
          record {
            to = rest.to;
            is = cond-false _ _ _ (ne_eqb (f.rank y) (f.rank x) (λ q. absurd (omega arith))) ∙ rest.is;
            greatest = λ m g l. cond-false _ _ _ (ne_eqb (f.rank y) m (λ q. absurd (omega arith))) ∙ rest.greatest m g l;
          }

  -- what holds of each row is what holds of each that is found
  pub each-found : (P : R → Type 0) (n : ℕ) (x : R) (rows : List R) → AllByRecursion P rows → row_at f n rows ≡ Some x → P x
  each-found P n x [] h e = absurd (cc)
  each-found P n x (y ∷ rows) h e = elim (cases_Bool (eqb (f.rank y) n)) [
    | inl here ↦ let same : y ≡ x = search (rules, sym (cond-true _ _ _ here) ∙ e) in subst P same h.0
    | inr there ↦ each-found P n x rows h.1 (sym (cond-false _ _ _ there) ∙ e)
  ]

  pub found-each : (P : R → Type 0) (low high : ℕ) (rows : List R) → RisesWithin f low high rows →
      ((x : R) → row_at f (f.rank x) rows ≡ Some x → P x) → AllByRecursion P rows
  found-each P low high [] h all = tt
  found-each P low high (y ∷ rows) h all = (
    all y (cond-true _ _ _ ((Decides-eqb (f.rank y) (f.rank y)).1 refl)),
    found-each P (f.rank y + 1) high rows h.1 (λ x e.
        let more = row_at-behind (f.rank x) low high x y rows h e in
        all x (cond-false _ _ _ (ne_eqb (f.rank y) (f.rank x) (λ q. absurd (omega arith))) ∙ e)),
  )

  -- how many rows there are, by a rank
  pub length-around : (n low high : ℕ) (rows : List R) → RisesWithin f low high rows →
      length (filter (λ x. ltb (f.rank x) n) rows) + cond (is_some (row_at f n rows)) 1 0 + length (filter (λ x. ltb n (f.rank x)) rows)
      ≡ length rows
  length-around n low high [] h = refl
  length-around n low high (y ∷ rows) h = grind (arith, common_steps, length-around n (f.rank y + 1) high rows h.1, row_at-below n (f.rank y + 1) high rows h.1)

  pub length-without_rank : (n low high : ℕ) (rows : List R) → RisesWithin f low high rows →
      length (without_rank f n rows) + cond (is_some (row_at f n rows)) 1 0 ≡ length rows
  length-without_rank n low high [] h = refl
  length-without_rank n low high (y ∷ rows) h = grind (arith, common_steps, length-without_rank n (f.rank y + 1) high rows h.1, row_at-below n (f.rank y + 1) high rows h.1)
