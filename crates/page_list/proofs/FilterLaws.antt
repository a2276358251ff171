-- The bits of a filter, and that each row keeps its bit as rows come, change and go.
use Rattle.std.proofs.Common.{◌≡◌, ◌≢◌, inl, inr, ℕ, ◌-◌, ◌*◌, ◌/◌, ◌%◌, ◌^◌, ◌<◌, ◌≤◌, true, false, ◌&&◌, ◌==◌, eqb, cond, w64}
use Rattle.std.proofs.Common.{[], length, get_or, set, Option, None, Some, IsSome, refl, sym, ap, ◌∙◌, subst, arith}
use Rattle.std.specs.Prelude.{bit_and, bit_or}
use Rattle.std.specs.Int.{bit_at}
use Rattle.std.proofs.lemmas.Bool.{cases_eq, cases_Bool, cond-true, cond-false}
use Rattle.std.proofs.lemmas.List.{get_or_past, get_or-set_same, get_or-set_other}
use Rattle.std.proofs.lemmas.Grind.{common_steps}
use Rattle.std.proofs.lemmas.Nat.Bits.{bit_at-zero, shr_and_one, bit_at_ones, bit_at_set_same, bit_at_set_other}
use Rattle.balanced_tree.specs.Row.{plain}
use Rattle.balanced_tree.specs.Rows.{Rows, with_row, without_rank}
use Rattle.balanced_tree.specs.Pairs.{pair_rank, with_pair, IsNext}
use Rattle.balanced_tree.proofs.PairLaws.{values-none, values-put, values-taken}
use Rattle.page_list.specs.declared.filter.Filter.{Filter}
use Rattle.page_list.specs.declared.row.Row.{Row}
use Rattle.page_list.specs.declared.row.Slot.{Slot}
use Rattle.page_list.specs.Order.{row_functions}
use Rattle.page_list.specs.Lists.{slots_of}
use Rattle.page_list.specs.inside.Filter.{word_in, has_bit, IsMore, AreFiltered}
use Rattle.page_list.proofs.SlotLaws.{row_pairs}

-- what is None is not Some
pub none-some : {V : Type 0} (o : Option V) → o ≡ None → IsSome o → ⊥
none-some None e some = absurd (cc)
none-some (Some v) e some = absurd (cc)

-- the test of a bit of a word
pub bit-read : (f : Filter) (l p word : ℕ) → word ≡ word_in f l → eqb (bit_and (word / 2 ^ (p % 64)) 1) 1 ≡ has_bit f l p
unfolding has_bit
bit-read f l p word is = ap (λ x. eqb x 1) (shr_and_one word (p % 64)) ∙ ap (λ w. eqb (bit_at w (p % 64)) 1) is

-- a word of 0 has no bit
pub bit-none : (f : Filter) (l p : ℕ) → word_in f l ≡ 0 → has_bit f l p ≡ false
unfolding has_bit
bit-none f l p is = ap (λ w. eqb (bit_at w (p % 64)) 1) is ∙ ap (λ x. eqb x 1) (bit_at-zero (p % 64))

-- a word that is not there has all bits
pub bit-past : (f : Filter) (l p : ℕ) → length f.words.items ≤ bit_and l f.mask → has_bit f l p ≡ true
unfolding has_bit
bit-past f l p past =
    ap (λ w. eqb (bit_at w (p % 64)) 1) (get_or_past f.words.items (bit_and l f.mask) (2 ^ 64 - 1) past)
    ∙ ap (λ x. eqb x 1) (bit_at_ones 64 (p % 64) (omega arith))

-- the same words under the same mask have the same bits
pub more-same : (f g : Filter) → g.words.items ≡ f.words.items → g.mask ≡ f.mask → IsMore f g
unfolding has_bit
more-same f g words mask = record { kept = λ l p is. same l p ∙ is }
  where
    same : (l p : ℕ) → eqb (bit_at (word_in g l) (p % 64)) 1 ≡ eqb (bit_at (word_in f l) (p % 64)) 1
    same l p = λ i. eqb (bit_at (get_or (words i) (bit_and l (mask i)) (2 ^ 64 - 1)) (p % 64)) 1

-- the bit of page p is set in the word of list l
module _ (f g : Filter) (l p word : ℕ) (here : bit_and l f.mask < length f.words.items) (read : word ≡ word_in f l)
    (words : g.words.items ≡ set f.words.items (bit_and l f.mask) (bit_or word (1 * 2 ^ (p % 64) % 2 ^ 64))) (mask : g.mask ≡ f.mask) where
  -- the word of list k now
  word-now : (k : ℕ) → word_in g k ≡ get_or (set f.words.items (bit_and l f.mask) (bit_or word (1 * 2 ^ (p % 64) % 2 ^ 64))) (bit_and k f.mask) (2 ^ 64 - 1)
  word-now k = λ i. get_or (words i) (bit_and k (mask i)) (2 ^ 64 - 1)

  -- a list with the same word as l
  word-same : (k : ℕ) → bit_and k f.mask ≡ bit_and l f.mask → word_in g k ≡ bit_or word (1 * 2 ^ (p % 64) % 2 ^ 64)
  word-same k same =
      word-now k
      ∙ (ap (λ at. get_or (set f.words.items (bit_and l f.mask) (bit_or word (1 * 2 ^ (p % 64) % 2 ^ 64))) at (2 ^ 64 - 1)) same
      ∙ get_or-set_same f.words.items (bit_and l f.mask) _ (2 ^ 64 - 1) here)

  -- a list with another word
  word-other : (k : ℕ) → bit_and k f.mask ≢ bit_and l f.mask → word_in g k ≡ word_in f k
  word-other k apart = word-now k ∙ get_or-set_other f.words.items (bit_and l f.mask) (bit_and k f.mask) _ (2 ^ 64 - 1) apart

  pub bit-set : has_bit g l p ≡ true
  unfolding has_bit
  bit-set =
      ap (λ w. eqb (bit_at w (p % 64)) 1) (word-same l refl)
      ∙ ap (λ x. eqb x 1) (bit_at_set_same w64 word (p % 64) (omega arith))

  pub bits-kept : IsMore f g
  unfolding has_bit
  bits-kept = record { kept = each }
    where
      each : (k q : ℕ) → eqb (bit_at (word_in f k) (q % 64)) 1 ≡ true → eqb (bit_at (word_in g k) (q % 64)) 1 ≡ true
      each k q is = elim (cases_eq (bit_and k f.mask) (bit_and l f.mask)) [
        | inl same ↦
            ap (λ w. eqb (bit_at w (q % 64)) 1) (word-same k same)
            ∙ elim (cases_eq (q % 64) (p % 64)) [
              | inl one ↦
                  ap (λ b. eqb (bit_at (bit_or word (1 * 2 ^ (p % 64) % 2 ^ 64)) b) 1) one
                  ∙ ap (λ x. eqb x 1) (bit_at_set_same w64 word (p % 64) (omega arith))
              | inr other ↦
                  ap (λ x. eqb x 1) (bit_at_set_other w64 word (p % 64) (omega arith) (q % 64) other)
                  ∙ (ap (λ w. eqb (bit_at w (q % 64)) 1) (read ∙ ap (λ at. get_or f.words.items at (2 ^ 64 - 1)) (sym same)) ∙ is)
            ]
        | inr apart ↦ ap (λ w. eqb (bit_at w (q % 64)) 1) (word-other k apart) ∙ is
      ]

-- where there is no row, any filter serves
pub filtered-none : (f : Filter) (t : Rows Row) → t.rows ≡ [] → AreFiltered f t
filtered-none f t rows = record { set = λ l p some. absurd (none-some (slots_of t l p) (ap (λ slots. slots l p) (values-none row_pairs t.rows rows)) some) }

module _ {f g : Filter} {was : Rows Row} (filtered : AreFiltered f was) (more : IsMore f g) where
  -- one page has another slot, and its bit is set where it has one
  filtered-with : (new : Rows Row) (l p : ℕ) (slot : Option Slot) → slots_of new ≡ with_pair (slots_of was) l p slot →
      (IsSome slot → has_bit g l p ≡ true) → AreFiltered g new
  unfolding with_pair
  filtered-with new l p slot now bit = record { set = λ k q some. each k q (subst (λ slots. IsSome (slots k q)) now some) }
    where
      each : (k q : ℕ) → IsSome (cond ((k == l) && (q == p)) slot (slots_of was k q)) → has_bit g k q ≡ true
      each k q some = elim (cases_Bool ((k == l) && (q == p))) [
        | inl here ↦
            let list : k ≡ l = grind (arith, common_steps) in
            let page : q ≡ p = grind (arith, common_steps) in
            (λ i. has_bit g (list i) (page i)) ∙ bit (subst IsSome (cond-true _ _ _ here) some)
        | inr there ↦ more.kept k q (filtered.set k q (subst IsSome (cond-false _ _ _ there) some))
      ]

  -- no row comes or goes
  pub filtered-more : AreFiltered g was
  filtered-more = record { set = λ l p some. more.kept l p (filtered.set l p some) }

  -- a row comes to a page, or in place of the one that is there
  pub filtered-put : (new : Rows Row) (l p : ℕ) → p < 2 ^ 64 → (row : Row) → row_functions.rank row ≡ pair_rank l p →
      new.rows ≡ with_row row_functions (plain row_functions row) was.rows → has_bit g l p ≡ true → AreFiltered g new
  filtered-put new l p few row rank rows bit =
      filtered-with new l p _ (values-put row_pairs was.rows was.rows refl l p _ few refl new.rows row rank rows) (λ some. bit)

  -- the row of a page goes
  pub filtered-taken : (new : Rows Row) (l p n : ℕ) → p < 2 ^ 64 → n ≡ pair_rank l p →
      new.rows ≡ without_rank row_functions n was.rows → AreFiltered g new
  filtered-taken new l p n few rank rows =
      filtered-with new l p None (values-taken row_pairs was.rows was.rows refl l p n few rank new.rows rows) (λ some. absurd (none-some {V = Slot} None refl some))

-- a page whose bit is clear has no row
pub filtered-absent : {f : Filter} {was : Rows Row} (old : Rows Row) → was ≡ old → AreFiltered f was → (l p : ℕ) → has_bit f l p ≡ false →
    slots_of old l p ≡ None
filtered-absent {f} {was} old seen filtered l p clear = nothing (slots_of old l p) refl
  where
    nothing : (slot : Option Slot) → slots_of old l p ≡ slot → slots_of old l p ≡ None
    nothing None at = at
    nothing (Some slot) at =
        let some : IsSome (slots_of was l p) = subst (λ rows. IsSome (slots_of rows l p)) (sym seen) (subst IsSome (sym at) refl) in
        let set = filtered.set l p some in
        absurd (cc)

-- a list whose word is 0 has no row
pub filtered-end : {f : Filter} {was : Rows Row} (old : Rows Row) → was ≡ old → AreFiltered f was → (l from word : ℕ) →
    word ≡ word_in f l → word ≡ 0 → IsNext (slots_of old l) from None
filtered-end {f} {was} old seen filtered l from word is zero = record {
  none = λ absent p behind. nothing p (slots_of old l p) refl;
  least = λ p same. absurd (cc);
}
  where
    nothing : (p : ℕ) (slot : Option Slot) → slots_of old l p ≡ slot → slots_of old l p ≡ None
    nothing p None at = at
    nothing p (Some slot) at =
        let some : IsSome (slots_of was l p) = subst (λ rows. IsSome (slots_of rows l p)) (sym seen) (subst IsSome (sym at) refl) in
        let set = filtered.set l p some in
        let clear = bit-none f l p (sym is ∙ zero) in
        absurd (cc)

-- a page whose bit of the list's word is clear has no row
pub bare-clear : {f : Filter} {was : Rows Row} (old : Rows Row) → was ≡ old → AreFiltered f was → (l word : ℕ) → word ≡ word_in f l →
    (p : ℕ) → bit_at word (p % 64) ≡ 0 → slots_of old l p ≡ None
unfolding has_bit
bare-clear {f} {was} old seen filtered l word is p clear = nothing (slots_of old l p) refl
  where
    nothing : (slot : Option Slot) → slots_of old l p ≡ slot → slots_of old l p ≡ None
    nothing None at = at
    nothing (Some slot) at =
        let some : IsSome (slots_of was l p) = subst (λ rows. IsSome (slots_of rows l p)) (sym seen) (subst IsSome (sym at) refl) in
        let set : eqb (bit_at (word_in f l) (p % 64)) 1 ≡ true = filtered.set l p some in
        let off : eqb (bit_at (word_in f l) (p % 64)) 1 ≡ false = ap (λ w. eqb (bit_at w (p % 64)) 1) (sym is) ∙ ap (λ x. eqb x 1) clear in
        absurd (cc)
