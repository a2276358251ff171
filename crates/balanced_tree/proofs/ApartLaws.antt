-- Extents stay apart where one goes, and where one comes to a free place: what a table of extents keeps.
use Rattle.std.proofs.Common.{◌≡◌, inl, inr, ℕ, ◌+◌, ◌<◌, ◌≤◌, ◌^◌, Bool, ltb, eqb, List, [], ◌∷◌, Some, sym, subst, ◌∙◌, rules, arith}
use Rattle.std.specs.List.{filter}
use Rattle.std.proofs.lemmas.Bool.{ltb-true, eqb-true, ne_eqb, cases_Bool, cond-true, cond-false, cond_both}
use Rattle.balanced_tree.specs.Row.{Functions}
use Rattle.balanced_tree.specs.Rows.{row_at, with_row, without_rank, RisesWithin}
use Rattle.balanced_tree.specs.Extents.{Extents}
use Rattle.balanced_tree.specs.Gaps.{ApartWithin, AreApart, IsFree}
use Rattle.balanced_tree.proofs.ListLaws.{row_at-behind}
use Rattle.balanced_tree.proofs.GapLaws.{ApartWithin-lower, ApartWithin-join}

module _ {R : Type 0} (f : Functions R) (e : Extents R) where
  ApartWithin-filter : (keeps : R → Bool) (low high : ℕ) (xs : List R) → ApartWithin f e low high xs
      → ApartWithin f e low high (filter keeps xs)
  ApartWithin-filter keeps low high [] h = h
  ApartWithin-filter keeps low high (x ∷ xs) h =
      let rest = ApartWithin-filter keeps (e.end x) high xs h.2 in
      cond_both (keeps x) (x ∷ filter keeps xs) (filter keeps xs) (ApartWithin f e low high)
      (λ _. (h.0, h.1, rest)) (λ _. ApartWithin-lower f e low (e.end x) high (filter keeps xs)
      (omega (arith, h.0, h.1)) rest)

  module _ (x : R) (size : ℕ) (is : e.end x ≡ f.rank x + size) where
    apart_before : (low high : ℕ) (xs : List R) → ApartWithin f e low high xs → IsFree f e xs size (f.rank x)
        → low ≤ f.rank x → ApartWithin f e low (f.rank x) (filter (λ y. ltb (f.rank y) (f.rank x)) xs)
    apart_before low high [] h free from = from
    apart_before low high (y ∷ ys) h free from =
        cond_both (ltb (f.rank y) (f.rank x)) (y ∷ filter (λ z. ltb (f.rank z) (f.rank x)) ys)
        (filter (λ z. ltb (f.rank z) (f.rank x)) ys)
        (ApartWithin f e low (f.rank x))
        (λ is_less. (
          h.0,
          h.1,
          apart_before (e.end y) high ys h.2 free.1
              (omega (arith, ltb-true (f.rank y) (f.rank x) is_less, free.0)),
        ))
        (λ _. apart_before low high ys (ApartWithin-lower f e low (e.end y) high ys (omega (arith, h.0, h.1)) h.2)
        free.1 from)

    apart_behind : (low high : ℕ) (xs : List R) → ApartWithin f e low high xs → IsFree f e xs size (f.rank x)
        → e.end x ≤ high → ApartWithin f e (e.end x) high (filter (λ y. ltb (f.rank x) (f.rank y)) xs)
    apart_behind low high [] h free to = to
    apart_behind low high (y ∷ ys) h free to =
        cond_both (ltb (f.rank x) (f.rank y)) (y ∷ filter (λ z. ltb (f.rank x) (f.rank z)) ys)
        (filter (λ z. ltb (f.rank x) (f.rank z)) ys)
        (ApartWithin f e (e.end x) high)
        (λ is_more. (
          omega (arith, ltb-true (f.rank x) (f.rank y) is_more, free.0, h.1),
          h.1,
          ApartWithin-filter
              (λ z. ltb (f.rank x) (f.rank z)) (e.end y) high ys h.2,
        ))
        (λ _. apart_behind (e.end y) high ys h.2 free.1 to)

    -- a new extent at a free place
    pub AreApart-with_row : (rows : List R) → AreApart f e rows → IsFree f e rows size (f.rank x) → e.end x ≤ 2 ^ 128
        → AreApart f e (with_row f x rows)
    AreApart-with_row rows h free to =
        ApartWithin-join f e 0 (2 ^ 128) _ x _ (record {
          left = apart_before 0 (2 ^ 128) rows h free (omega arith);
          here = omega arith;
          right = apart_behind 0 (2 ^ 128) rows h free to;
        })

  -- an extent that goes
  pub AreApart-without_rank : (n : ℕ) (rows : List R) → AreApart f e rows → AreApart f e (without_rank f n rows)
  AreApart-without_rank n rows h = ApartWithin-filter _ 0 (2 ^ 128) rows h

  -- extents from a rank on are found at this rank or behind it
  apart-from : (low high m : ℕ) (y : R) (xs : List R) → ApartWithin f e low high xs → row_at f m xs ≡ Some y → low ≤ m
  apart-from low high m y [] h is = absurd (cc)
  apart-from low high m y (x ∷ xs) h is = elim (cases_Bool (eqb (f.rank x) m)) [
    | inl here ↦ subst (λ k. low ≤ k) (eqb-true (f.rank x) m here) h.0
    | inr there ↦ omega (arith, h.0, h.1, apart-from (e.end x) high m y xs h.2 (sym (cond-false _ _ _ there) ∙ is))
  ]

  -- an extent ends where a later one begins, or before
  pub apart-found : (low high from past n m : ℕ) (x y : R) (xs : List R) → ApartWithin f e low high xs → RisesWithin f from past xs
      → row_at f n xs ≡ Some x → row_at f m xs ≡ Some y → n < m → e.end x ≤ m
  apart-found low high from past n m x y [] h rises is at less = absurd (cc)
  apart-found low high from past n m x y (z ∷ zs) h rises is at less = elim (cases_Bool (eqb (f.rank z) n)) [
    | inl here ↦
        let same : z ≡ x = search (rules, sym (cond-true _ _ _ here) ∙ is) in
        let rank = eqb-true (f.rank z) n here in
        let behind : row_at f m zs ≡ Some y = sym (cond-false _ _ _ (ne_eqb (f.rank z) m (λ q. absurd (omega arith)))) ∙ at in
        subst (λ k. e.end k ≤ m) same (apart-from (e.end z) high m y zs h.2 behind)
    | inr there ↦
        let behind : row_at f n zs ≡ Some x = sym (cond-false _ _ _ there) ∙ is in
        let more = row_at-behind f n from past x z zs rises behind in
        apart-found (e.end z) high (f.rank z + 1) past n m x y zs h.2 rises.1 behind
        (sym (cond-false _ _ _ (ne_eqb (f.rank z) m (λ q. absurd (omega arith)))) ∙ at) less
  ]
