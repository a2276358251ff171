-- The rows of a list, where some are noted as not seen from the right.
use Rattle.cow_fork.proofs.Words.{◌≡◌, ◌≢◌, ℕ, ◌+◌, ◌<◌, ◌≤◌, Bool, true, false, Option, None, Some, inl, inr, refl, sym, ap, subst, ◌∙◌}
use Rattle.cow_fork.proofs.Words.{arith, ◌==◌, nat_le, nat_lt, option_map, cases_eq, cases_lt, and_parts, and_from, le-leb, lt-ltb}
use Rattle.cow_fork.proofs.Words.{leb-true, ltb-true, cond-true, cond-false, false_from_ne_true, with_pair, Tag, eqb_same, eqb_apart, Slot}
use Rattle.cow_fork.proofs.Words.{Slots, is_taken_in, split_row, split_slots, hidden_row, hidden_slots, ArePlain, HasNone, has_row, none_is}
use Rattle.std.proofs.lemmas.Grind.{common_steps}
use Rattle.cow_fork.proofs.SnapshotLaws.{split-other, split-here}

module _ (slots : Slots) (l from end : ℕ) where
  -- rows of other lists stay
  pub hidden-other : (m q : ℕ) → m ≢ l → hidden_slots slots l from end m q ≡ slots m q
  unfolding hidden_slots
  hidden-other m q apart = rw (eqb_apart m l apart) refl

  -- and so do those outside the range
  pub hidden-out : (m q : ℕ) → (from ≤ q → q < end → ⊥) → hidden_slots slots l from end m q ≡ slots m q
  unfolding hidden_slots
  hidden-out m q out = cond-false _ _ _ (false_from_ne_true _ (λ both.
      let range = and_parts (nat_le from q) (nat_lt q end) (and_parts (m == l) _ both).1 in
      out (leb-true from q range.0) (ltb-true q end range.1)))

  pub hidden-in : (q : ℕ) → from ≤ q → q < end → hidden_slots slots l from end l q ≡ option_map hidden_row (slots l q)
  unfolding hidden_slots
  hidden-in q low high = cond-true _ _ _
      (and_from (l == l) _ (eqb_same l) (and_from (nat_le from q) (nat_lt q end) (le-leb from q low) (lt-ltb q end high)))

  -- a page without a row has none then
  pub hidden-free : (q : ℕ) → slots l q ≡ None → hidden_slots slots l from end l q ≡ None
  unfolding hidden_slots
  hidden-free q free = rw free grind (arith, common_steps)

-- rows are the same, where those of other lists and those of list l are
rows-alike : (a b : Slots) (l : ℕ) → ((m q : ℕ) → m ≢ l → a m q ≡ b m q) → ((q : ℕ) → a l q ≡ b l q) → a ≡ b
rows-alike a b l others own = λ i m q. at m q i
  where
    at : (m q : ℕ) → a m q ≡ b m q
    at m q = elim (cases_eq m l) [
      | inl same ↦ ap (λ j. a j q) same ∙ (own q ∙ sym (ap (λ j. b j q) same))
      | inr apart ↦ others m q apart
    ]

-- where no page of the range has a row, nothing changes
pub hidden-none : (slots : Slots) (l from end : ℕ) → HasNone (has_row (slots l)) from end → hidden_slots slots l from end ≡ slots
hidden-none slots l from end none = rows-alike _ _ l (hidden-other slots l from end) own
  where
    own : (q : ℕ) → hidden_slots slots l from end l q ≡ slots l q
    own q = elim (cases_lt q from) [
      | inl low ↦ hidden-out slots l from end l q (λ first. omega (arith, low, first))
      | inr first ↦ elim (cases_lt q end) [
        | inl high ↦ let free = none_is (slots l q) (none q first high) in hidden-free slots l from end q free ∙ sym free
        | inr past ↦ hidden-out slots l from end l q (λ first high. omega (arith, past, high))
      ]
    ]

-- the first row of the range, and then the others
pub hidden-step : (slots : Slots) (l from page end : ℕ) → from ≤ page → page < end → HasNone (has_row (slots l)) from page →
    hidden_slots (hidden_slots slots l page (page + 1)) l (page + 1) end ≡ hidden_slots slots l from end
hidden-step slots l from page end low high none = rows-alike _ _ l others own
  where
    one : Slots
    one = hidden_slots slots l page (page + 1)

    others : (m q : ℕ) → m ≢ l → hidden_slots one l (page + 1) end m q ≡ hidden_slots slots l from end m q
    others m q apart =
        hidden-other one l (page + 1) end m q apart
        ∙ (hidden-other slots l page (page + 1) m q apart ∙ sym (hidden-other slots l from end m q apart))

    behind : (q : ℕ) → page + 1 ≤ q → one l q ≡ slots l q
    behind q past = hidden-out slots l page (page + 1) l q (λ here up. omega (arith, past, up))

    before : (q : ℕ) → q < page → hidden_slots one l (page + 1) end l q ≡ slots l q
    before q less =
        hidden-out one l (page + 1) end l q (λ up end. omega (arith, less, up))
        ∙ hidden-out slots l page (page + 1) l q (λ here up. omega (arith, less, here))

    own : (q : ℕ) → hidden_slots one l (page + 1) end l q ≡ hidden_slots slots l from end l q
    own q = elim (cases_lt q page) [
      | inl less ↦ before q less ∙ elim (cases_lt q from) [
        | inl lower ↦ sym (hidden-out slots l from end l q (λ first up. omega (arith, lower, first)))
        | inr first ↦ let free = none_is (slots l q) (none q first less) in free ∙ sym (hidden-free slots l from end q free)
      ]
      | inr up ↦ elim (cases_eq q page) [
        | inl here ↦
            hidden-out one l (page + 1) end l q (λ above up. omega (arith, here, above))
            ∙ (hidden-in slots l page (page + 1) q up (omega (arith, here)) ∙ sym (hidden-in slots l from end q (omega (arith, up, low)) (omega (arith, here, high))))
        | inr not_here ↦
            let past : page + 1 ≤ q = omega (arith, up, not_here) in
            elim (cases_lt q end) [
              | inl below ↦
                  hidden-in one l (page + 1) end q past below
                  ∙ (ap (option_map hidden_row) (behind q past) ∙ sym (hidden-in slots l from end q (omega (arith, up, low)) below))
              | inr over ↦
                  hidden-out one l (page + 1) end l q (λ above below. omega (arith, over, below))
                  ∙ (behind q past ∙ sym (hidden-out slots l from end l q (λ first below. omega (arith, over, below))))
            ]
      ]
    ]

-- one row
pub hidden-frame : (slots new : Slots) (l p : ℕ) (tag : Tag) (left right : Bool) → slots l p ≡ Some (Slot.Frame tag left right) →
    new ≡ with_pair slots l p (Some (Slot.Frame tag left true)) → new ≡ hidden_slots slots l p (p + 1)
unfolding with_pair
hidden-frame slots new l p tag left right e is = is ∙ rows-alike _ _ l others own
  where
    others : (m q : ℕ) → m ≢ l → with_pair slots l p (Some (Slot.Frame tag left true)) m q ≡ hidden_slots slots l p (p + 1) m q
    others m q apart = rw (eqb_apart m l apart) (sym (hidden-other slots l p (p + 1) m q apart))

    here : with_pair slots l p (Some (Slot.Frame tag left true)) l p ≡ hidden_slots slots l p (p + 1) l p
    here = rw (eqb_same l, eqb_same p) (sym (hidden-in slots l p (p + 1) p (omega arith) (omega arith) ∙ ap (option_map hidden_row) e))

    there : (q : ℕ) → q ≢ p → with_pair slots l p (Some (Slot.Frame tag left true)) l q ≡ hidden_slots slots l p (p + 1) l q
    there q apart = rw (eqb_same l, eqb_apart q p apart) (sym (hidden-out slots l p (p + 1) l q (λ low high. apart (omega (arith, low, high)))))

    own : (q : ℕ) → with_pair slots l p (Some (Slot.Frame tag left true)) l q ≡ hidden_slots slots l p (p + 1) l q
    own q = elim (cases_eq q p) [
      | inl same ↦ subst (λ i. with_pair slots l p (Some (Slot.Frame tag left true)) l i ≡ hidden_slots slots l p (p + 1) l i) (sym same) here
      | inr apart ↦ there q apart
    ]

-- a row without a frame has no bits
pub hidden-plain : (slots : Slots) (l p : ℕ) → option_map hidden_row (slots l p) ≡ slots l p → slots ≡ hidden_slots slots l p (p + 1)
hidden-plain slots l p e = rows-alike _ _ l
    (λ m q apart. sym (hidden-other slots l p (p + 1) m q apart))
    (λ q. elim (cases_eq q p) [
      | inl here ↦ ap (slots l) here ∙ (sym e ∙ (sym (hidden-in slots l p (p + 1) p (omega arith) (omega arith)) ∙ sym (ap (hidden_slots slots l p (p + 1) l) here)))
      | inr there ↦ sym (hidden-out slots l p (p + 1) l q (λ low high. there (omega (arith, low, high))))
    ])

taken-in : (first seen q : ℕ) → first ≤ q → q < first + seen → is_taken_in first seen q ≡ true
taken-in first seen q low high = and_from (nat_le first q) (nat_lt q (first + seen)) (le-leb first q low) (lt-ltb q (first + seen) high)

taken-out : (first seen q : ℕ) → (first ≤ q → q < first + seen → ⊥) → is_taken_in first seen q ≡ false
taken-out first seen q out = false_from_ne_true _ (λ both.
    let range = and_parts (nat_le first q) (nat_lt q (first + seen)) both in
    out (leb-true first q range.0) (ltb-true q (first + seen) range.1))

-- the rows before a window and those behind it
pub hidden-split : (slots middle new : Slots) (l first seen count : ℕ) → ArePlain slots l count → middle ≡ hidden_slots slots l 0 first →
    new ≡ hidden_slots middle l (first + seen) count → new ≡ split_slots slots l first seen
hidden-split slots middle new l first seen count plain before behind =
    behind ∙ (ap (λ s. hidden_slots s l (first + seen) count) before ∙ rows-alike _ _ l others (λ q. own q (slots l q) refl))
  where
    low : Slots
    low = hidden_slots slots l 0 first

    others : (m q : ℕ) → m ≢ l → hidden_slots low l (first + seen) count m q ≡ split_slots slots l first seen m q
    others m q apart =
        hidden-other low l (first + seen) count m q apart
        ∙ (hidden-other slots l 0 first m q apart ∙ sym (split-other slots l first seen m q apart))

    -- what a row is on both ways
    hidden_is : (row : Slot) (q : ℕ) → slots l q ≡ Some row → hidden_row row ≡ split_row false row
    hidden_is (Slot.Frame tag left right) q e = ap (λ b. Slot.Frame tag b true) ((plain.plain q tag left right e).0)
    hidden_is Slot.Zero q e = refl

    kept_is : (row : Slot) (q : ℕ) → slots l q ≡ Some row → row ≡ split_row true row
    kept_is (Slot.Frame tag left right) q e =
        ap (λ b. Slot.Frame tag b right) ((plain.plain q tag left right e).0) ∙ ap (λ b. Slot.Frame tag false b) ((plain.plain q tag left right e).1)
    kept_is Slot.Zero q e = refl

    split_is : (q : ℕ) (row : Slot) (b : Bool) → slots l q ≡ Some row → is_taken_in first seen q ≡ b → split_slots slots l first seen l q ≡ Some (split_row b row)
    split_is q row b e taken = split-here slots l first seen q ∙ (ap (option_map (split_row (is_taken_in first seen q))) e ∙ ap (λ i. Some (split_row i row)) taken)

    own : (q : ℕ) (o : Option Slot) → slots l q ≡ o → hidden_slots low l (first + seen) count l q ≡ split_slots slots l first seen l q
    own q None e =
        hidden-free low l (first + seen) count q (hidden-free slots l 0 first q e)
        ∙ sym (split-here slots l first seen q ∙ ap (option_map (split_row (is_taken_in first seen q))) e)
    own q (Some row) e = elim (cases_lt q first) [
      | inl less ↦
          hidden-out low l (first + seen) count l q (λ past up. omega (arith, less, past))
          ∙ (hidden-in slots l 0 first q (omega arith) less
          ∙ (ap (option_map hidden_row) e ∙ (ap Some (hidden_is row q e) ∙ sym (split_is q row false e (taken-out first seen q (λ up past. omega (arith, less, up)))))))
      | inr up ↦
          let kept : low l q ≡ Some row = hidden-out slots l 0 first l q (λ zero less. omega (arith, less, up)) ∙ e in
          elim (cases_lt q (first + seen)) [
            | inl below ↦
                hidden-out low l (first + seen) count l q (λ past less. omega (arith, below, past))
                ∙ (kept ∙ (ap Some (kept_is row q e) ∙ sym (split_is q row true e (taken-in first seen q up below))))
            | inr past ↦
                hidden-in low l (first + seen) count q past (plain.below q row e)
                ∙ (ap (option_map hidden_row) kept
                ∙ (ap Some (hidden_is row q e) ∙ sym (split_is q row false e (taken-out first seen q (λ low high. omega (arith, past, high))))))
          ]
    ]
