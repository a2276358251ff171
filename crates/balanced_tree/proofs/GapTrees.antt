-- The search for a gap in a tree: what the stored spans say, and how many steps it takes.
use Rattle.std.proofs.Common.{◌≡◌, ◌⊎◌, inl, inr, ℕ, ◌+◌, ◌-◌, ◌<◌, ◌≤◌, min, max, cond, leb, ◌∷◌, ◌++◌, Option, None, Some, refl, sym, ap, ◌∙◌, subst, arith}
use Rattle.std.proofs.lemmas.Bool.{cases_lt}
use Rattle.std.proofs.lemmas.Option.{MatchOption-at_none}
use Rattle.slab.specs.Slab.{Slab, get}
use Rattle.balanced_tree.specs.declared.spans.Span.{Span}
use Rattle.balanced_tree.specs.Row.{Functions, AreLawful, plain}
use Rattle.balanced_tree.specs.Extents.{Extents, AreSpanned, highest_over, span_over, span_in}
use Rattle.balanced_tree.specs.Gaps.{ApartWithin, IsFree, HasNoGap, IsFirstGap, IsFirstGapOrNone}
use Rattle.balanced_tree.specs.inside.GapSearch.{span_of, HasSearched}
use Rattle.balanced_tree.specs.inside.Tree.{SearchTree, Leaf, Node, height, child_of, rows_of}
use Rattle.balanced_tree.specs.inside.Standing.{child_under, child_at, IsStanding}
use Rattle.balanced_tree.proofs.Spelling.{child_at-place_of}
use Rattle.balanced_tree.proofs.Nodes.{IsNode, height-left, height-right}
use Rattle.balanced_tree.proofs.GapLaws.{IsApartAt, ApartWithin-split, ApartWithin-join, ApartWithin-bounds, ApartWithin-lower, IsFree-behind, IsFree-gap, HasNoGap-gap, gap_within, gap_within-append, IsFirstGap-left, searched-right, searched-start}

-- the greatest gap from a on and up to d, by the span of the extents there
abbrev gap_by : ℕ → ℕ → Option Span → ℕ
gap_by a d None = d - a
gap_by a d (Some s) = max (s.lowest - a) (max s.gap (d - s.highest))

gap_by-over : (a d rank end : ℕ) (l r : Option Span) → max (gap_by a rank l) (gap_by end d r)
    ≡ gap_by a d (Some (span_over rank end l r))
gap_by-over a d rank end None None = omega arith
gap_by-over a d rank end None (Some s) = omega arith
gap_by-over a d rank end (Some s) None = omega arith
gap_by-over a d rank end (Some s) (Some u) = omega arith

module _ {R : Type 0} (f : Functions R) (e : Extents R) (laws : AreLawful f) (spans : AreSpanned f e) where
  rank-plain : (x : R) → f.rank (plain f x) ≡ f.rank x
  rank-plain x = laws.rank_kept x None None

  end-plain : (x : R) → e.end (plain f x) ≡ e.end x
  end-plain x = spans.end_kept x None None

  gap_within-rows : (a d : ℕ) (t : SearchTree R) → gap_within f e a d (rows_of f t) ≡ gap_by a d (span_of f e t)
  gap_within-rows a d Leaf = refl
  gap_within-rows a d (Node l p x r) =
      gap_within-append f e a d (rows_of f l) (plain f x) (rows_of f r)
      ∙ rw (rank-plain x, end-plain x, gap_within-rows a (f.rank x) l, gap_within-rows (e.end x) d r)
      (gap_by-over a d (f.rank x) (e.end x) (span_of f e l) (span_of f e r))

  -- the extents of a tree end at its highest end
  pub record EndsAt (low high d : ℕ) (t : SearchTree R) : Type 0 where
    pub apart : ApartWithin f e low (highest_over d (span_of f e t)) (rows_of f t)
    pub below : highest_over d (span_of f e t) ≤ high

  ends_at : (low high d : ℕ) (t : SearchTree R) → low ≤ d → d ≤ high → ApartWithin f e low high (rows_of f t)
      → EndsAt low high d t
  ends_at low high d Leaf from to h = record { apart = from; below = to }
  ends_at low high d (Node l p x r) from to h =
      let at = ApartWithin-split f e low high (rows_of f l) (plain f x) (rows_of f r) h in
      let rest = ends_at (e.end (plain f x)) high (e.end x) r (omega (arith, end-plain x))
      (omega (arith, end-plain x, ApartWithin-bounds f e _ high (rows_of f r) at.right)) at.right in
      record {
        apart = ApartWithin-join f e low (highest_over (e.end x) (span_of f e r)) (rows_of f l) (plain f x)
            (rows_of f r) (record { left = at.left; here = at.here; right = rest.apart });
        below = rest.below;
      }

  span_in-child_of : (t : SearchTree R) → span_in e.span (child_of f t) ≡ span_of f e t
  span_in-child_of Leaf = refl
  span_in-child_of (Node l p x r) =
      ap Some (spans.span_set x (child_of f l) (child_of f r) ∙ rw (span_in-child_of l, span_in-child_of r) refl)

  -- the span that is stored at a place is that of the tree there
  span-standing : {s : Slab R} {p : ℕ} {here : R} {t : SearchTree R} {low high : ℕ} → IsStanding f s (Some p) t low high
      → get s p ≡ Some here → span_of f e t ≡ Some (e.span here)
  span-standing {s} {p} {here} {t} h at =
      sym (span_in-child_of t) ∙ ap (span_in e.span) (sym (child_at-place_of f s t h.spelled) ∙ ap (child_at s) h.is_at
      ∙ ap (child_under p) at)

  -- the extents of a node: those of its parts, and its own between them
  pub record IsExtentNode (t l : SearchTree R) (here : R) (span : Span) (r : SearchTree R) (low high : ℕ) : Type 0 where
    pub rows : rows_of f t ≡ rows_of f l ++ plain f here ∷ rows_of f r
    pub spanned : span_of f e t ≡ Some span
    pub apart : IsApartAt f e low high (rows_of f l) (plain f here) (rows_of f r)
    pub within : ApartWithin f e low high (rows_of f t)
    pub rank_same : f.rank (plain f here) ≡ f.rank here
    pub end_same : e.end (plain f here) ≡ e.end here
    pub left_lower : height l + 1 ≤ height t
    pub right_lower : height r + 1 ≤ height t

  pub extent_node : {s : Slab R} {at : Option ℕ} {p : ℕ} {here : R} {span : Span} {t : SearchTree R} {low high a b : ℕ}
      → IsStanding f s at t a b → at ≡ Some p → (n : IsNode f s p here t a b) → ApartWithin f e low high (rows_of f t)
      → span ≡ e.span here → IsExtentNode t n.left here span n.right low high
  extent_node {s} {at} {p} {here} {span} {t} {low} {high} {a} {b} h is n apart spanned =
      let rows : rows_of f t ≡ rows_of f n.left ++ plain f here ∷ rows_of f n.right = ap (rows_of f) n.is
      ∙ ap (λ x. rows_of f n.left ++ x ∷ rows_of f n.right) (sym (n.same.linked None None)) in
      record {
        rows = rows;
        spanned = span-standing (subst (λ q. IsStanding f s q t a b) is h) n.at ∙ ap Some (sym spanned);
        apart = ApartWithin-split f e low high _ _ _ (subst (ApartWithin f e low high) rows apart);
        within = apart;
        rank_same = rank-plain here;
        end_same = end-plain here;
        left_lower = height-left f n;
        right_lower = height-right f n;
      }

  -- the extents of this span are passed over
  abbrev pub Passed : Span → ℕ → ℕ → Type 0
  Passed span from size = (span.highest ≤ from) ⊎ ((span.gap < size) × (span.lowest < from + size))

  module _ {t l r : SearchTree R} {here : R} {span : Span} {low high : ℕ} (n : IsExtentNode t l here span r low high)
      (from size limit : ℕ) where
    highest : EndsAt low high high t
    highest = ends_at low high high t (ApartWithin-bounds f e low high (rows_of f t) n.within) (omega arith) n.within

    highest-is : highest_over high (span_of f e t) ≡ span.highest
    highest-is = ap (highest_over high) n.spanned

    gap-is : (a d : ℕ) → gap_within f e a d (rows_of f t) ≡ gap_by a d (Some span)
    gap-is a d = gap_within-rows a d t ∙ ap (gap_by a d) n.spanned

    pub searched-passed : {result : Option ℕ} {before after : ℕ} → from + size ≤ limit → Passed span from size
        → result ≡ cond (leb (max from span.highest + size) limit) (Some (max from span.highest)) None
        → after ≡ before + 1 → HasSearched f e t low high from size limit result before after
    searched-passed {result} fits passed is step =
        let least : (q : ℕ) → from ≤ q → IsFree f e (rows_of f t) size q → max from span.highest ≤ q =
        λ q a free. (let gap = IsFree-gap f e q (q + size) size q (rows_of f t) free (omega arith) (omega arith) in
        omega (arith, gap-is q (q + size))) in
        record {
          gap = searched-start f e from (max from span.highest) size limit (rows_of f t) (omega arith)
              (IsFree-behind f e low _ size _ (rows_of f t) highest.apart (omega (arith, highest-is))) least result is;
          steps = omega arith;
          ahead = λ h. omega arith;
          none = λ h g. omega arith;
          none_ahead = λ h g k. omega arith;
          behind = λ h. omega arith;
          over = λ h. omega arith;
        }

    module _ (fits : from + size ≤ limit) (stays : Passed span from size → ⊥) where
      -- some extent lies behind `from`
      starts_below : high ≤ from → ⊥
      starts_below h = stays (inl (omega (arith, highest-is, highest.below)))

      pub searched-left : {stop p before middle after : ℕ} → middle ≡ before + 1 → stop ≡ min limit (f.rank here)
          → HasSearched f e l low (f.rank (plain f here)) from size stop (Some p) middle after
          → HasSearched f e t low high from size limit (Some p) before after
      searched-left {stop} {p} step stops h =
          record {
            gap = rw n.rows (IsFirstGap-left f e size limit n.apart
                (subst (λ m. IsFirstGap (IsFree f e (rows_of f l) size) from size m p) (stops ∙ ap (min limit) (sym n.rank_same))
                h.gap));
            steps = omega arith;
            ahead = λ g. omega (arith, h.ahead g);
            none = λ g k. cc;
            none_ahead = λ g a k. cc;
            behind = λ g. absurd (starts_below g);
            over = λ g. omega arith;
          }

      -- where no place is free, the extents would be passed over, or do not all lie between `from` and the limit
      none_within : from ≤ low → high ≤ limit → HasNoGap (IsFree f e (rows_of f t) size) from size limit → ⊥
      none_within g k none =
          let gap = HasNoGap-gap f e from high size (rows_of f t)
          (ApartWithin-lower f e from low high (rows_of f t) g n.within) (λ q a b free. none q a (omega arith) free)
          in
          let is = gap-is from high in
          stays (inr (omega arith, omega arith))

      pub searched-both : {stop start : ℕ} {result : Option ℕ} {before middle next after : ℕ} → middle ≡ before + 1
          → stop ≡ min limit (f.rank here) → HasSearched f e l low (f.rank (plain f here)) from size stop None middle
          next → start ≡ max from (e.end here) → HasSearched f e r (e.end (plain f here)) high start size limit result
          next after → HasSearched f e t low high from size limit result before after
      searched-both {stop} {start} {result} step stops h starts k =
          let to = ApartWithin-bounds f e _ high (rows_of f r) n.apart.right in
          let begin = ApartWithin-bounds f e low _ (rows_of f l) n.apart.left in
          let gap : IsFirstGapOrNone (IsFree f e (rows_of f t) size) from size limit result = rw n.rows
          (searched-right f e size limit n.apart result
          (subst (HasNoGap (IsFree f e (rows_of f l) size) from size) (stops ∙ ap (min limit) (sym n.rank_same)) h.gap)
          (subst (λ m. IsFirstGapOrNone (IsFree f e (rows_of f r) size) m size limit result) (starts ∙ ap (max from) (sym n.end_same)) k.gap)) in
          record {
            gap = gap;
            steps = elim (cases_lt limit (f.rank here)) [
              | inl ends ↦ omega (arith, h.steps, k.over (omega arith))
              | inr goes_on ↦ elim (cases_lt (e.end here) from) [
                | inl past ↦ omega (arith, h.behind (omega arith), k.steps)
                | inr before_end ↦ omega (arith, h.none refl (omega arith), k.ahead (omega arith))
              ]
            ];
            ahead = λ g. elim (cases_lt limit (f.rank here)) [
              | inl ends ↦ omega (arith, h.ahead g, k.over (omega arith))
              | inr goes_on ↦ omega (arith, h.none_ahead refl g (omega arith), k.ahead (omega arith))
            ];
            none = λ is a. elim (cases_lt (e.end here) from) [
              | inl past ↦ omega (arith, h.behind (omega arith), k.none is a)
              | inr before_end ↦ omega (arith, h.none refl (omega arith), k.none_ahead is (omega arith) a)
            ];
            none_ahead = λ is g a. absurd (none_within g a (MatchOption-at_none _ _ is gap));
            behind = λ g. absurd (starts_below g);
            over = λ g. omega arith;
          }
