-- Pieces stay sound and listed where one comes or goes, and what they show then.
use Rattle.std.proofs.Common.{◌≡◌, ℕ, ◌+◌, ◌<◌, ◌≤◌, Option, None, Some, inl, inr, refl, sym, ap, subst, ◌∙◌, arith}
use Rattle.std.proofs.lemmas.Bool.{cases_lt, cases_order}
use Rattle.vm_base.specs.declared.limits.TheConstants.{NAMES}
use Rattle.balanced_tree.specs.Pairs.{with_pair}
use Rattle.pair_map.specs.declared.stretch_row.Extent.{Extent}
use Rattle.pair_map.specs.Maps.{IsOpen}
use Rattle.vm_model.specs.Space.Table.{mapping_from}
use Rattle.mapping_set.specs.declared.piece.Piece.{Piece}
use Rattle.mapping_set.specs.Pieces.{list_number, shown_by, table_in, IsSound, ArePieces, AreListed}
use Rattle.mapping_set.specs.Tables.{with_piece, without_piece, IsBare}
use Rattle.mapping_set.proofs.TableLaws.{with_pair-cases, with_pair-same, shown_by-out, table_in-none, one_piece, table_in-at, table_in-changed}
use Rattle.vm_base.proofs.EntryLaws.{some_same}

-- numbers of lists are equal where the regions and the root regions are
pub list_numbers : (n m r s : ℕ) → r < NAMES → s < NAMES → list_number n r ≡ list_number m s → (n ≡ m) × (r ≡ s)
list_numbers n m r s few_r few_s e = elim (cases_order n m) [
  | inl same ↦ (same, omega arith)
  | inr (inl less) ↦ absurd (omega arith)
  | inr (inr more) ↦ absurd (omega arith)
]

-- ---- a piece comes

module _ (pieces : ℕ → ℕ → Option Piece) (h : ArePieces pieces) (root b : ℕ) (x : Piece) (sound : IsSound root b x)
    (bare : IsBare (table_in pieces root) x.first (x.first + x.count)) where
  -- no piece has a page of it
  no_other : (c : ℕ) (y : Piece) (p : ℕ) → pieces root c ≡ Some y → y.first ≤ p → p ≤ c → x.first ≤ p → p ≤ b → ⊥
  no_other c y p is low high low_x high_x =
      let shown = table_in-at pieces h root c y p is low high in
      let last = sound.last_is in
      let none = bare p low_x (omega arith) in
      absurd cc

  pub none_there : pieces root b ≡ None
  none_there = by (pieces root b) refl where
    by : (o : Option Piece) → pieces root b ≡ o → o ≡ None
    by None is = refl
    by (Some y) is =
        let other = h.sound root b y is in
        let last = other.last_is in
        let some = other.some in
        let last_x = sound.last_is in
        let some_x = sound.some in
        absurd (no_other b y b is (omega arith) (omega arith) (omega arith) (omega arith))

  abbrev pub more : ℕ → ℕ → Option Piece
  more = with_pair pieces root b (Some x)

  pub ArePieces-more : ArePieces more
  ArePieces-more = record {
    sound = λ r c y is. elim (with_pair-cases pieces root b (Some x) r c) [
      | inl here ↦
          subst (λ k. IsSound k c y) (sym here.0) (subst (λ k. IsSound root k y) (sym here.1)
          (subst (IsSound root b) (some_same (sym here.2 ∙ is)) sound))
      | inr other ↦ h.sound r c y (sym other.1 ∙ is)
    ];
    apart = λ r c d y z is_y is_z less. elim (with_pair-cases pieces root b (Some x) r c) [
      | inl here ↦ elim (with_pair-cases pieces root b (Some x) r d) [
        | inl both ↦ absurd (let one = here.1 in let other = both.1 in omega arith)
        | inr other ↦
            let is : pieces root d ≡ Some z = ap (λ s. pieces s d) (sym here.0) ∙ (sym other.1 ∙ is_z) in
            let last = sound.last_is in
            let some = sound.some in
            let same = here.1 in
            elim (cases_lt b z.first) [
              | inl behind ↦ omega arith
              | inr before ↦ absurd (no_other d z b is before (omega arith) (omega arith) (omega arith))
            ]
      ]
      | inr old ↦ elim (with_pair-cases pieces root b (Some x) r d) [
        | inl here ↦
            let is : pieces root c ≡ Some y = ap (λ s. pieces s c) (sym here.0) ∙ (sym old.1 ∙ is_y) in
            let was = h.sound root c y is in
            let last = was.last_is in
            let some = was.some in
            let same = here.1 in
            let new : x ≡ z = some_same (sym here.2 ∙ is_z) in
            let begins : x.first ≡ z.first = ap (λ (piece : Piece). piece.first) new in
            elim (cases_lt c x.first) [
              | inl before ↦ omega arith
              | inr behind ↦ absurd (no_other c y c is (omega arith) (omega arith) behind (omega arith))
            ]
        | inr other ↦ h.apart r c d y z (sym old.1 ∙ is_y) (sym other.1 ∙ is_z) less
      ]
    ];
  }

  pub table_in-more : table_in more ≡ with_piece (table_in pieces) root x
  table_in-more =
      let last = sound.last_is in
      table_in-changed pieces root b (Some x) x.first (x.first + x.count) (mapping_from x.first x.entry)
      (λ p low high. table_in-at more ArePieces-more root b x p (with_pair-same pieces root b (Some x) root b refl refl) low (omega arith))
      (λ p out. shown_by-out p b x (λ low high. out low (omega arith)))
      (λ p out. ap (shown_by p b) none_there)

  module _ {V : Type 0} (lists : ℕ → ℕ → Option (Extent V)) (g : AreListed pieces lists) where
    -- no extent of its list has one of its pages
    pub open_there : IsOpen (lists (list_number x.entry.region.0 root)) x.first x.count
    open_there = record {
      free = λ q p e low high covers.
          let held = g.held root x.entry.region.0 p e sound.root_below covers.is in
          let was = h.sound root held.0 held.1 held.2 in
          let last = was.last_is in
          let begins = held.3 in
          let count = held.4 in
          let from = covers.from in
          let below = covers.below in
          let last_x = sound.last_is in
          no_other held.0 held.1 q held.2 (omega arith) (omega arith) low (omega arith);
    }

    pub AreListed-more : (e : Extent V) → e.count ≡ x.count → AreListed more (with_pair lists (list_number x.entry.region.0 root) x.first (Some e))
    AreListed-more e count_is = record {
      listed = λ r c y is. elim (with_pair-cases pieces root b (Some x) r c) [
        | inl here ↦
            let new : x ≡ y = some_same (sym here.2 ∙ is) in
            let number : list_number y.entry.region.0 r ≡ list_number x.entry.region.0 root =
            ap (λ (piece : Piece). list_number piece.entry.region.0 r) (sym new) ∙ ap (list_number x.entry.region.0) here.0 in
            (e, with_pair-same lists _ _ _ _ _ number (ap (λ (piece : Piece). piece.first) (sym new)), count_is ∙ ap (λ (piece : Piece). piece.count) new)
        | inr old ↦
            let at : pieces r c ≡ Some y = sym old.1 ∙ is in
            let was = h.sound r c y at in
            let found = g.listed r c y at in
            elim (with_pair-cases lists (list_number x.entry.region.0 root) x.first (Some e) (list_number y.entry.region.0 r) y.first) [
              | inl here ↦
                  let same = list_numbers y.entry.region.0 x.entry.region.0 r root was.root_below sound.root_below here.0 in
                  let is_y : pieces root c ≡ Some y = ap (λ s. pieces s c) (sym same.1) ∙ at in
                  let last = was.last_is in
                  let some = was.some in
                  let last_x = sound.last_is in
                  let some_x = sound.some in
                  let begins = here.1 in
                  absurd (no_other c y x.first is_y (omega arith) (omega arith) (omega arith) (omega arith))
              | inr other ↦ (found.0, other.1 ∙ found.1, found.2)
            ]
      ];
      held = λ r n p d few is. elim (with_pair-cases lists (list_number x.entry.region.0 root) x.first (Some e) (list_number n r) p) [
        | inl here ↦
            let same = list_numbers n x.entry.region.0 r root few sound.root_below here.0 in
            let new : e ≡ d = some_same (sym here.2 ∙ is) in
            (b, x, with_pair-same pieces root b (Some x) r b same.1 refl, sym here.1, sym count_is ∙ ap (λ (extent : Extent V). extent.count) new, sym same.0)
        | inr old ↦
            let was = g.held r n p d few (sym old.1 ∙ is) in
            elim (with_pair-cases pieces root b (Some x) r was.0) [
              | inl here ↦
                  let at : pieces root b ≡ Some was.1 = ap (λ s. pieces s b) (sym here.0) ∙ (ap (pieces r) (sym here.1) ∙ was.2) in
                  absurd (let none = none_there in cc)
              | inr other ↦ (was.0, was.1, other.1 ∙ was.2, was.3, was.4, was.5)
            ]
      ];
    }

-- ---- a piece goes

module _ (pieces : ℕ → ℕ → Option Piece) (h : ArePieces pieces) (root b : ℕ) (x : Piece) (is_x : pieces root b ≡ Some x) where
  abbrev pub less : ℕ → ℕ → Option Piece
  less = with_pair pieces root b None

  -- what is left was there, and is another
  left : (r c : ℕ) (y : Piece) → less r c ≡ Some y → (pieces r c ≡ Some y) × (r ≡ root → c ≡ b → ⊥)
  left r c y is = elim (with_pair-cases pieces root b None r c) [
    | inl here ↦ absurd (let none = here.2 in cc)
    | inr other ↦ (sym other.1 ∙ is, other.0)
  ]

  pub ArePieces-less : ArePieces less
  ArePieces-less = record {
    sound = λ r c y is. h.sound r c y (left r c y is).0;
    apart = λ r c d y z is_y is_z before. h.apart r c d y z (left r c y is_y).0 (left r d z is_z).0 before;
  }

  pub table_in-less : table_in less ≡ without_piece (table_in pieces) root x
  table_in-less =
      let last = (h.sound root b x is_x).last_is in
      table_in-changed pieces root b None x.first (x.first + x.count) (λ p. None)
      (λ p low high. table_in-none less root p (λ c y is first end.
      let was = left root c y is in
      was.1 refl (one_piece pieces h root c b y x p was.0 is_x first end low (omega arith))))
      (λ p out. refl)
      (λ p out. ap (shown_by p b) is_x ∙ shown_by-out p b x (λ low high. out low (omega arith)))

  module _ {V : Type 0} (lists : ℕ → ℕ → Option (Extent V)) (g : AreListed pieces lists) where
    pub AreListed-less : AreListed less (with_pair lists (list_number x.entry.region.0 root) x.first None)
    AreListed-less = record {
      listed = λ r c y is.
          let was = left r c y is in
          let sound = h.sound r c y was.0 in
          let sound_x = h.sound root b x is_x in
          let found = g.listed r c y was.0 in
          elim (with_pair-cases lists (list_number x.entry.region.0 root) x.first None (list_number y.entry.region.0 r) y.first) [
            | inl here ↦
                let same = list_numbers y.entry.region.0 x.entry.region.0 r root sound.root_below sound_x.root_below here.0 in
                let is_y : pieces root c ≡ Some y = ap (λ s. pieces s c) (sym same.1) ∙ was.0 in
                let last = sound.last_is in
                let some = sound.some in
                let last_x = sound_x.last_is in
                let some_x = sound_x.some in
                let begins = here.1 in
                absurd (was.1 same.1 (one_piece pieces h root c b y x x.first is_y is_x (omega arith) (omega arith) (omega arith) (omega arith)))
            | inr other ↦ (found.0, other.1 ∙ found.1, found.2)
          ];
      held = λ r n p d few is. elim (with_pair-cases lists (list_number x.entry.region.0 root) x.first None (list_number n r) p) [
        | inl here ↦ absurd (let none = here.2 in cc)
        | inr old ↦
            let was = g.held r n p d few (sym old.1 ∙ is) in
            elim (with_pair-cases pieces root b None r was.0) [
              | inl here ↦
                  let at : pieces root b ≡ Some was.1 = ap (λ s. pieces s b) (sym here.0) ∙ (ap (pieces r) (sym here.1) ∙ was.2) in
                  let same : was.1 ≡ x = some_same (sym at ∙ is_x) in
                  let region : n ≡ x.entry.region.0 = sym was.5 ∙ ap (λ (piece : Piece). piece.entry.region.0) same in
                  let begins : p ≡ x.first = sym was.3 ∙ ap (λ (piece : Piece). piece.first) same in
                  absurd (old.0 (ap (λ k. list_number k r) region ∙ ap (list_number x.entry.region.0) here.0) begins)
              | inr other ↦ (was.0, was.1, other.1 ∙ was.2, was.3, was.4, was.5)
            ]
      ];
    }

-- ---- no pieces

pub ArePieces-none : (pieces : ℕ → ℕ → Option Piece) → pieces ≡ (λ r b. None) → ArePieces pieces
ArePieces-none pieces is = record {
  sound = λ r b x e. let none = ap (λ (m : ℕ → ℕ → Option Piece). m r b) is in absurd cc;
  apart = λ r b c x y e f less. let none = ap (λ (m : ℕ → ℕ → Option Piece). m r b) is in absurd cc;
}

pub AreListed-none : {V : Type 0} (pieces : ℕ → ℕ → Option Piece) (lists : ℕ → ℕ → Option (Extent V)) → pieces ≡ (λ r b. None) → lists ≡ (λ l p. None) → AreListed pieces lists
AreListed-none {V} pieces lists is no_list = record {
  listed = λ r b x e. let none = ap (λ (m : ℕ → ℕ → Option Piece). m r b) is in absurd cc;
  held = λ r n p d few e. let none = ap (λ (m : ℕ → ℕ → Option (Extent V)). m (list_number n r) p) no_list in absurd cc;
}
