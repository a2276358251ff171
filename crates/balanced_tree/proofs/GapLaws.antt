-- Extents that stand apart, and the first gap between them.
use Rattle.std.proofs.Common.{◌≡◌, inl, inr, ℕ, ◌+◌, ◌-◌, ◌<◌, ◌≤◌, min, max, cond, leb, List, [], ◌∷◌, ◌++◌, Option, None, Some, refl, sym, subst, arith}
use Rattle.std.proofs.lemmas.Bool.{leb-true, leb-false, cond_both, cases_lt}
use Rattle.balanced_tree.specs.Row.{Functions}
use Rattle.balanced_tree.specs.Extents.{Extents}
use Rattle.balanced_tree.specs.Gaps.{ApartWithin, IsFree, HasNoGap, IsFirstGap, IsFirstGapOrNone}

-- where the same ranges are free, the same one is the first
pub first_gap-same : {P Q : ℕ → Type 0} (from size limit : ℕ) (answer : Option ℕ) → ((p : ℕ) → P p → Q p) → ((p : ℕ) → Q p → P p)
    → IsFirstGapOrNone P from size limit answer → IsFirstGapOrNone Q from size limit answer
first_gap-same from size limit None to back none = λ p low high free. none p low high (back p free)
first_gap-same from size limit (Some p) to back gap = record {
  not_before = gap.not_before;
  not_past = gap.not_past;
  is = to p gap.is;
  first = λ q low less free. gap.first q low less (back q free);
}

module _ {R : Type 0} (f : Functions R) (e : Extents R) where
  pub ApartWithin-bounds : (low high : ℕ) (xs : List R) → ApartWithin f e low high xs → low ≤ high
  ApartWithin-bounds low high [] h = h
  ApartWithin-bounds low high (x ∷ xs) h = omega (arith, h.0, h.1, ApartWithin-bounds (e.end x) high xs h.2)

  pub ApartWithin-lower : (a low high : ℕ) (xs : List R) → a ≤ low → ApartWithin f e low high xs
      → ApartWithin f e a high xs
  ApartWithin-lower a low high [] less h = omega arith
  ApartWithin-lower a low high (x ∷ xs) less h = (omega arith, h.1, h.2)

  -- extents on both sides of an extent
  pub record IsApartAt (low high : ℕ) (xs : List R) (y : R) (ys : List R) : Type 0 where
    pub left : ApartWithin f e low (f.rank y) xs
    pub here : f.rank y ≤ e.end y
    pub right : ApartWithin f e (e.end y) high ys

  pub ApartWithin-split : (low high : ℕ) (xs : List R) (y : R) (ys : List R) → ApartWithin f e low high (xs ++ y ∷ ys)
      → IsApartAt low high xs y ys
  ApartWithin-split low high [] y ys h = record { left = h.0; here = h.1; right = h.2 }
  ApartWithin-split low high (x ∷ xs) y ys h =
      let rest = ApartWithin-split (e.end x) high xs y ys h.2 in
      record { left = (h.0, h.1, rest.left); here = rest.here; right = rest.right }

  pub ApartWithin-join : (low high : ℕ) (xs : List R) (y : R) (ys : List R) → IsApartAt low high xs y ys
      → ApartWithin f e low high (xs ++ y ∷ ys)
  ApartWithin-join low high [] y ys h = (h.left, h.here, h.right)
  ApartWithin-join low high (x ∷ xs) y ys h = (
    h.left.0,
    h.left.1,
    ApartWithin-join (e.end x) high xs y ys
        (record { left = h.left.2; here = h.here; right = h.right }),
  )

  -- a place before all extents, and one behind them
  pub IsFree-ahead : (low high size p : ℕ) (xs : List R) → ApartWithin f e low high xs → p + size ≤ low
      → IsFree f e xs size p
  IsFree-ahead low high size p [] h less = tt
  IsFree-ahead low high size p (x ∷ xs) h less =
      (inl (omega arith), IsFree-ahead (e.end x) high size p xs h.2 (omega arith))

  pub IsFree-behind : (low high size p : ℕ) (xs : List R) → ApartWithin f e low high xs → high ≤ p
      → IsFree f e xs size p
  IsFree-behind low high size p [] h more = tt
  IsFree-behind low high size p (x ∷ xs) h more =
      (inr (omega (arith, ApartWithin-bounds (e.end x) high xs h.2)), IsFree-behind (e.end x) high size p xs h.2 more)

  IsFree-join : (size p : ℕ) (xs ys : List R) → IsFree f e xs size p → IsFree f e ys size p
      → IsFree f e (xs ++ ys) size p
  IsFree-join size p [] ys h g = g
  IsFree-join size p (x ∷ xs) ys h g = (h.0, IsFree-join size p xs ys h.1 g)

  IsFree-left : (size p : ℕ) (xs ys : List R) → IsFree f e (xs ++ ys) size p → IsFree f e xs size p
  IsFree-left size p [] ys h = tt
  IsFree-left size p (x ∷ xs) ys h = (h.0, IsFree-left size p xs ys h.1)

  IsFree-right : (size p : ℕ) (xs ys : List R) → IsFree f e (xs ++ ys) size p → IsFree f e ys size p
  IsFree-right size p [] ys h = h
  IsFree-right size p (x ∷ xs) ys h = IsFree-right size p xs ys h.1

  -- the greatest gap from a on and up to d
  abbrev pub gap_within : ℕ → ℕ → List R → ℕ
  gap_within a d [] = d - a
  gap_within a d (x ∷ xs) = max (f.rank x - a) (gap_within (e.end x) d xs)

  pub gap_within-append : (a d : ℕ) (xs : List R) (y : R) (ys : List R)
      → gap_within a d (xs ++ y ∷ ys) ≡ max (gap_within a (f.rank y) xs) (gap_within (e.end y) d ys)
  gap_within-append a d [] y ys = refl
  gap_within-append a d (x ∷ xs) y ys = rw (gap_within-append (e.end x) d xs y ys) (omega arith)

  -- a free place lies in a gap
  pub IsFree-gap : (a d size p : ℕ) (xs : List R) → IsFree f e xs size p → a ≤ p → p + size ≤ d
      → size ≤ gap_within a d xs
  IsFree-gap a d size p [] h from to = omega arith
  IsFree-gap a d size p (x ∷ xs) h from to =
      elim h.0 [ inl before ↦ omega arith | inr behind ↦ omega (arith, IsFree-gap (e.end x) d size p xs h.1 behind to) ]

  -- where no place is free, each gap is smaller
  pub HasNoGap-gap : (a d size : ℕ) (xs : List R) → ApartWithin f e a d xs → HasNoGap (IsFree f e xs size) a size d
      → gap_within a d xs < size
  HasNoGap-gap a d size [] h none =
      elim (cases_lt (d - a) size) [ inl less ↦ less | inr more ↦ absurd (none a (omega arith) (omega arith) tt) ]
  HasNoGap-gap a d size (x ∷ xs) h none =
      let to = ApartWithin-bounds (e.end x) d xs h.2 in
      let rest = HasNoGap-gap (e.end x) d size xs h.2 (λ p from below free. none p (omega arith) below (inr from, free))
      in
      elim (cases_lt (f.rank x - a) size) [
        | inl less ↦ omega arith
        | inr more ↦ absurd (none a (omega arith) (omega arith)
            (inl (omega arith), IsFree-ahead (e.end x) d size a xs h.2 (omega arith)))
      ]

  -- the search on both sides of an extent
  module _ {low high from : ℕ} (size limit : ℕ) {xs ys : List R} {y : R} (h : IsApartAt low high xs y ys) where
    pub IsFirstGap-left : {p : ℕ} → IsFirstGap (IsFree f e xs size) from size (min limit (f.rank y)) p
        → IsFirstGap (IsFree f e (xs ++ y ∷ ys) size) from size limit p
    IsFirstGap-left {p} g =
        record {
          not_before = g.not_before;
          not_past = omega arith;
          is = IsFree-join size p xs (y ∷ ys) g.is (
            inl (omega arith),
            IsFree-ahead (e.end y) high size p ys h.right
                (omega arith),
          );
          first = λ q a b free. g.first q a b (IsFree-left size q xs (y ∷ ys) free);
        }

    -- where no place on the left is free, a place is free at the end of the extent or behind it
    at_right : HasNoGap (IsFree f e xs size) from size (min limit (f.rank y)) → (q : ℕ) → from ≤ q → q + size ≤ limit
        → IsFree f e (xs ++ y ∷ ys) size q → (max from (e.end y) ≤ q) × IsFree f e ys size q
    at_right none q a b free =
        let parts = IsFree-right size q xs (y ∷ ys) free in
        elim parts.0 [
          | inl before ↦ absurd (none q a (omega arith) (IsFree-left size q xs (y ∷ ys) free))
          | inr behind ↦
              (omega arith, parts.1)
        ]

    pub searched-right : (result : Option ℕ) → HasNoGap (IsFree f e xs size) from size (min limit (f.rank y))
        → IsFirstGapOrNone (IsFree f e ys size) (max from (e.end y)) size limit result
        → IsFirstGapOrNone (IsFree f e (xs ++ y ∷ ys) size) from size limit result
    searched-right None none g = λ q a b free. let at = at_right none q a b free in g q at.0 b at.1
    searched-right (Some p) none g =
        record {
          not_before = omega arith;
          not_past = g.not_past;
          is = IsFree-join size p xs (y ∷ ys) (IsFree-behind low (f.rank y) size p xs h.left (omega arith))
              (inr (omega arith), g.is);
          first = λ q a b free. let at = at_right none q a (omega arith) free in g.first q at.0 b at.1;
        }

  -- the search where each free place lies at `start` or behind it, and `start` is free
  pub searched-start : (from start size limit : ℕ) (xs : List R) → from ≤ start → IsFree f e xs size start
      → ((q : ℕ) → from ≤ q → IsFree f e xs size q → start ≤ q) → (result : Option ℕ)
      → result ≡ cond (leb (start + size) limit) (Some start) None
      → IsFirstGapOrNone (IsFree f e xs size) from size limit result
  searched-start from start size limit xs below free least result is =
      subst (λ o. IsFirstGapOrNone (IsFree f e xs size) from size limit o) (sym is)
      (cond_both (leb (start + size) limit) (Some start) None
      (λ o. IsFirstGapOrNone (IsFree f e xs size) from size limit o)
      (λ fits. record {
        not_before = below;
        not_past = leb-true (start + size) limit fits;
        is = free;
        first = λ q a b g. absurd (omega (arith, least q a g));
      })
      (λ not. λ q a b g. absurd (omega (arith, least q a g, leb-false (start + size) limit not))))
