-- What is answered of a piece is all that it has from a page on, or on a range.
use Rattle.std.proofs.Common.{◌≡◌, ℕ, ◌+◌, ◌-◌, ◌<◌, max, Option, Some, inl, inr, refl, sym, ap, subst, ◌∙◌, arith}
use Rattle.std.proofs.lemmas.Bool.{cases_lt, cases_order}
use Rattle.vm_base.proofs.EntryLaws.{some_same}
use Rattle.balanced_tree.specs.Pairs.{with_pair}
use Rattle.mapping_set.specs.declared.piece.Piece.{Piece}
use Rattle.mapping_set.specs.Pieces.{piece_from, piece_until, IsHeld, IsBorder}
use Rattle.mapping_set.specs.Tables.{IsOneOf, IsRestOf}
use Rattle.mapping_set.proofs.TableLaws.{with_pair-cases, with_pair-same}

-- a piece stands under its last page
pub one-of : (pieces : ℕ → Option Piece) (last : ℕ) (x : Piece) → pieces last ≡ Some x → x.first + x.count ≡ last + 1 → IsOneOf pieces x
one-of pieces last x is ends = let same : x.first + x.count - 1 ≡ last = omega arith in ap pieces same ∙ is

module _ (pieces : ℕ → ℕ → Option Piece) (root from last : ℕ) (x : Piece) (held : IsHeld pieces root from last x) where
  held-one : IsOneOf (pieces root) x
  held-one = one-of (pieces root) last x held.is held.sound.last_is

  -- the part of it from a page on
  pub rest-from : (at : ℕ) → at ≡ max x.first from → (y : Piece) → y ≡ piece_from x at → IsRestOf (pieces root) from y
  rest-from at at_is y y_is =
      let begins : y.first ≡ at = ap (λ (z : Piece). z.first) y_is in
      let count : y.count ≡ x.first + x.count - at = ap (λ (z : Piece). z.count) y_is in
      let ends = held.sound.last_is in
      let some = held.sound.some in
      let low = held.not_before in
      record { whole = x; is = held-one; begins = begins ∙ at_is; ends = omega arith }

  -- all of it, where no piece is cut there
  pub rest-whole : IsBorder (pieces root) from → IsRestOf (pieces root) from x
  rest-whole border =
      let low = held.not_before in
      let begins : x.first ≡ max x.first from = elim (cases_lt x.first from) [
        | inl less ↦ absurd (let end = border.ends last x held.is less in omega arith)
        | inr more ↦ omega arith
      ] in
      record { whole = x; is = held-one; begins = begins; ends = refl }

  -- where it is cut in two, the rest is the next piece
  pub rest-cut : (new : ℕ → ℕ → Option Piece) → x.first < from
      → new ≡ with_pair (with_pair pieces root last (Some (piece_from x from))) root (from - 1) (Some (piece_until x from))
      → (b : ℕ) (y : Piece) → IsHeld new root from b y → IsRestOf (pieces root) from y
  rest-cut new less is b y next =
      let tail = piece_from x from in
      let low = held.not_before in
      let least = next.not_before in
      let there : new root last ≡ Some tail = ap (λ (m : ℕ → ℕ → Option Piece). m root last) is ∙ elim (with_pair-cases (with_pair pieces root last (Some tail)) root (from - 1) (Some (piece_until x from)) root last) [
        | inl here ↦ absurd (let same = here.1 in omega arith)
        | inr other ↦ other.1 ∙ with_pair-same pieces root last (Some tail) root last refl refl
      ] in
      elim (cases_order b last) [
        | inl same ↦
            let is_y : tail ≡ y = some_same (sym there ∙ (ap (new root) (sym same) ∙ next.is)) in
            subst (IsRestOf (pieces root) from) is_y (rest-from from (omega arith) tail refl)
        | inr (inl before) ↦ absurd (let behind = next.behind last tail there before in omega arith)
        | inr (inr behind) ↦ absurd (let before = next.before last tail there behind in omega arith)
      ]
