-- Pages at which no piece is cut stay so where a piece comes, and where one goes.
use Rattle.std.proofs.Common.{◌≡◌, ℕ, ◌+◌, ◌-◌, ◌<◌, ◌≤◌, Option, None, Some, IsSome, inl, inr, refl, sym, ap, ◌∙◌, arith}
use Rattle.std.proofs.lemmas.Bool.{cases_order}
use Rattle.balanced_tree.specs.Pairs.{with_pair}
use Rattle.mapping_set.specs.declared.piece.Piece.{Piece}
use Rattle.mapping_set.specs.Pieces.{table_in, IsHeld, HasNoHeld, IsBorder}
use Rattle.mapping_set.specs.Pieces.{piece_from, piece_until}
use Rattle.mapping_set.proofs.TableLaws.{with_pair-cases, with_pair-over}

-- one piece has one first page
same_first : (x y : Piece) → ◌≡◌ {A = Option Piece} (Some x) (Some y) → x.first ≡ y.first
same_first x y one = let same : x ≡ y = cc in ap (λ (z : Piece). z.first) same

module _ (pieces new : ℕ → ℕ → Option Piece) (root b q : ℕ) where
  -- what comes ends before the page or begins there
  pub IsBorder-more : (x : Piece) → new ≡ with_pair pieces root b (Some x) → (x.first < q → b < q) → IsBorder (pieces root) q → IsBorder (new root) q
  IsBorder-more x e fits border = record {
    ends = λ c y is less. elim (with_pair-cases pieces root b (Some x) root c) [
      | inl here ↦
          let one : Some x ≡ Some y = sym here.2 ∙ (sym (ap (λ (m : ℕ → ℕ → Option Piece). m root c) e) ∙ is) in
          let begins : x.first ≡ y.first = same_first x y one in
          let same = here.1 in
          let end = fits (omega arith) in
          omega arith
      | inr other ↦ border.ends c y (sym other.1 ∙ (sym (ap (λ (m : ℕ → ℕ → Option Piece). m root c) e) ∙ is)) less
    ];
  }

  -- where a piece goes, no piece is cut at its pages
  pub IsBorder-taken : (from : ℕ) (x : Piece) → IsHeld pieces root from b x → new ≡ with_pair pieces root b None → from ≤ q → q ≤ b + 1 → IsBorder (new root) q
  IsBorder-taken from x held e low high = record {
    ends = λ c y is less. elim (with_pair-cases pieces root b None root c) [
      | inl here ↦ absurd (let none : None ≡ Some y = sym here.2 ∙ (sym (ap (λ (m : ℕ → ℕ → Option Piece). m root c) e) ∙ is) in cc)
      | inr other ↦
          let was : pieces root c ≡ Some y = sym other.1 ∙ (sym (ap (λ (m : ℕ → ℕ → Option Piece). m root c) e) ∙ is) in
          elim (cases_order c b) [
            | inl same ↦ absurd (other.0 refl same)
            | inr (inl before) ↦ omega (arith, held.before c y was before)
            | inr (inr behind) ↦ absurd (let begins = held.behind c y was behind in omega arith)
          ]
    ];
  }

-- a piece is cut in two
module _ (pieces new : ℕ → ℕ → Option Piece) (root last page : ℕ) (x : Piece) (held : IsHeld pieces root page last x) (low : x.first < page)
    (is : new ≡ with_pair (with_pair pieces root last (Some (piece_from x page))) root (page - 1) (Some (piece_until x page))) where
  abbrev gone : ℕ → ℕ → Option Piece
  gone = with_pair pieces root last None

  abbrev back : ℕ → ℕ → Option Piece
  back = with_pair pieces root last (Some (piece_from x page))

  pub cut-border : IsBorder (new root) page
  cut-border =
      let at = held.not_before in
      IsBorder-more back new root (page - 1) page (piece_until x page) is (λ less. omega arith)
      (IsBorder-more gone back root last page (piece_from x page) (sym (with_pair-over pieces root last None (Some (piece_from x page)))) (λ less. absurd (omega arith))
      (IsBorder-taken pieces gone root last page page x held refl (omega arith) (omega arith)))

  pub cut-kept : (q : ℕ) → IsBorder (pieces root) q → IsBorder (new root) q
  cut-kept q border =
      let at = held.not_before in
      IsBorder-more back new root (page - 1) q (piece_until x page) is (λ less. let end = border.ends last x held.is (omega arith) in omega arith)
      (IsBorder-more pieces back root last q (piece_from x page) refl (λ less. let end = border.ends last x held.is (omega arith) in omega arith) border)

module _ (pieces : ℕ → ℕ → Option Piece) (root from : ℕ) where
  -- no piece is cut at a page at or behind which none ends
  pub IsBorder-past : HasNoHeld pieces root from → IsBorder (pieces root) from
  IsBorder-past none = record { ends = λ b y is less. none.before b y is }

  module _ (last : ℕ) (x : Piece) (held : IsHeld pieces root from last x) where
    -- nor at a page that is not behind the first one of the next piece
    pub IsBorder-before : from ≤ x.first → IsBorder (pieces root) from
    IsBorder-before low = record {
      ends = λ b y is less. elim (cases_order b last) [
        | inl same ↦
            let one : Some y ≡ Some x = sym is ∙ (ap (pieces root) same ∙ held.is) in
            let begins = same_first y x one in
            absurd (omega arith)
        | inr (inl before) ↦ held.before b y is before
        | inr (inr behind) ↦ absurd (let begins = held.behind b y is behind in let end = held.sound.last_is in let some = held.sound.some in omega arith)
      ];
    }

    -- a piece begins at a page that has an entry, where none is cut
    pub begins_there : IsBorder (pieces root) from → IsSome (table_in pieces root from) → x.first ≡ from
    begins_there border some = elim (cases_order x.first from) [
      | inl same ↦ same
      | inr (inl less) ↦ absurd (let end = border.ends last x held.is less in let low = held.not_before in omega arith)
      | inr (inr more) ↦ absurd (let none = held.free from (omega arith) more in let there = some in cc)
    ]

    -- another piece comes in place of it, on the same pages
    module _ (new : ℕ → ℕ → Option Piece) (y : Piece) (begins : y.first ≡ x.first) (put : new ≡ with_pair pieces root last (Some y)) where
      pub back-behind : IsBorder (new root) (last + 1)
      back-behind =
          let low = held.not_before in
          IsBorder-more (with_pair pieces root last None) new root last (last + 1) y (put ∙ sym (with_pair-over pieces root last None (Some y))) (λ less. omega arith)
          (IsBorder-taken pieces (with_pair pieces root last None) root last (last + 1) from x held refl (omega arith) (omega arith))

      pub back-kept : (q : ℕ) → IsBorder (pieces root) q → IsBorder (new root) q
      back-kept q border = IsBorder-more pieces new root last q y put (λ less. let end = border.ends last x held.is (omega arith) in omega arith) border
