-- No range of pages reaches more rows than there are.
use Rattle.cow_forest.proofs.Words.{◌≡◌, ◌≢◌, ℕ, zero, suc, ◌+◌, ◌<◌, ◌≤◌, ◌/◌, ◌%◌, ◌^◌, min, Bool, true, false, cond, ◌&&◌, ◌||◌, ◌==◌}
use Rattle.cow_forest.proofs.Words.{List, [], ◌∷◌, length, Option, None, Some, refl, sym, ap, ◌∙◌, inl, inr, arith, is_some, nat_le, nat_lt}
use Rattle.cow_forest.proofs.Words.{option_map, cases_Bool, cases_lt, both_ways, cond-false, ne_eqb, or_cases, false_from_ne_true, eqb_same}
use Rattle.cow_forest.proofs.Words.{eqb_is, bit-true, bit_le, count_below_same, count_below_change, count_below_none, Rows, row_at}
use Rattle.cow_forest.proofs.Words.{pair_rank, value_at, value-past, values-none, Row, Slot, row_functions, slot_of, slots_of, row_count}
use Rattle.cow_forest.proofs.Words.{Node, NodeId, Arena, Nodes, nodes_of, link_to, Slots, IsForest, tree_of, rows_in, rows_over, rows_up}
use Rattle.cow_forest.proofs.Words.{rows_reached, count_below, row_pairs}

-- the slots of these rows
abbrev slots_in : List Row → Slots
slots_in = value_at row_functions slot_of

-- the list of a row, by its rank
abbrev list_at : Row → ℕ
list_at x = row_functions.rank x / 2 ^ 64

-- how many rows are of lists that pass
abbrev counted : (ℕ → Bool) → List Row → ℕ
counted p [] = 0
counted p (x ∷ rows) = cond (p (list_at x)) 1 0 + counted p rows

counted-all : (p : ℕ → Bool) (rows : List Row) → counted p rows ≤ length rows
counted-all p [] = omega arith
counted-all p (x ∷ rows) = omega (arith, bit_le (p (list_at x)), counted-all p rows)

-- rows of one list, and those of others, are rows of either
counted-either : (p q : ℕ → Bool) (rows : List Row) → ((l : ℕ) → p l ≡ true → q l ≡ false) → counted (λ l. p l || q l) rows ≡ counted p rows + counted q rows
counted-either p q [] apart = refl
counted-either p q (x ∷ rows) apart =
    let rest = counted-either p q rows apart in
    let one : ◌≡◌ {A = ℕ} (cond (p (list_at x) || q (list_at x)) 1 0) (cond (p (list_at x)) 1 0 + cond (q (list_at x)) 1 0) =
    bits (p (list_at x)) (q (list_at x)) (apart (list_at x)) in
    omega (arith, rest, one)
  where
    bits : (a b : Bool) → (a ≡ true → b ≡ false) → ◌≡◌ {A = ℕ} (cond (a || b) 1 0) (cond a 1 0 + cond b 1 0)
    bits false b apart = omega arith
    bits true b apart = let none = apart refl in grind (arith)

-- ---- the rows of one list

-- a page that is not that of the first row shows what the further rows say
slot-behind : (x : Row) (rows : List Row) (l q : ℕ) → ((q < 2 ^ 64) → row_functions.rank x ≢ pair_rank l q) → slots_in (x ∷ rows) l q ≡ slots_in rows l q
unfolding value_at
slot-behind x rows l q apart = elim (cases_lt q (2 ^ 64)) [
  | inl few ↦
      ap (λ (o : Option Row). cond (nat_lt q (2 ^ 64)) (option_map slot_of o) None)
      (cond-false (row_functions.rank x == pair_rank l q) (Some x) (row_at row_functions (pair_rank l q) rows) (ne_eqb (row_functions.rank x) (pair_rank l q) (apart few)))
  | inr past ↦ value-past row_pairs (x ∷ rows) l q past ∙ sym (value-past row_pairs rows l q past)
]

-- where two tests differ at one number alone, one counts at most one more
count-more : (n k : ℕ) (p q : ℕ → Bool) → ((j : ℕ) → j ≢ k → q j ≡ p j) → count_below n q ≤ count_below n p + 1
count-more n k p q same = elim (cases_lt k n) [
  | inl less ↦ omega (arith, count_below_change n k p q less (λ j below apart. same j apart), bit_le (q k))
  | inr past ↦ omega (arith, count_below_same n q p (λ j below. same j (λ e. absurd (omega arith))))
]

-- no row, no slot
no-slot : (l q : ℕ) → slots_in [] l q ≡ None
no-slot l q = ap (λ (map : ℕ → ℕ → Option Slot). map l q) (values-none row_pairs [] refl)

none-there : (b : Bool) (o : Option Slot) → o ≡ None → (b && is_some o) ≡ false
none-there false o e = refl
none-there true o e = ap is_some e

-- no list has more rows than are of it
list-few : (rows : List Row) (l from end : ℕ) → rows_in (slots_in rows l) from end ≤ counted (λ m. m == l) rows
unfolding rows_in
list-few [] l from end =
    omega (arith, count_below_none end (λ p. nat_le from p && is_some (slots_in [] l p)) (λ p less. none-there (nat_le from p) (slots_in [] l p) (no-slot l p)))
list-few (x ∷ rows) l from end =
    let rest = list-few rows l from end in
    let before : ℕ → Bool = λ p. nat_le from p && is_some (slots_in rows l p) in
    let now : ℕ → Bool = λ p. nat_le from p && is_some (slots_in (x ∷ rows) l p) in
    elim (cases_Bool (list_at x == l)) [
      | inl here ↦
          let bit = bit-true (list_at x == l) here in
          let more = count-more end (row_functions.rank x % 2 ^ 64) before now (λ j apart.
          ap (λ (o : Option Slot). nat_le from j && is_some o) (slot-behind x rows l j (λ few same. apart (omega arith)))) in
          omega (arith, rest, bit, more)
      | inr there ↦
          let same = count_below_same end now before (λ j less.
          ap (λ (o : Option Slot). nat_le from j && is_some o) (slot-behind x rows l j (λ few same.
          let list : list_at x ≡ l = omega arith in
          absurd (both_ways (list_at x == l) there (ap (λ m. m == l) list ∙ eqb_same l))))) in
          omega (arith, rest, same)
    ]

-- ---- the nodes on the way up

-- the list is that of this node, or of one that `further` has
abbrev is_of : (Option NodeId → ℕ → Bool) → Option Node → ℕ → Bool
is_of further None l = false
is_of further (Some node) l = (l == node.list.0) || further node.parent l

-- the list is that of a node from this one up to its root, n at most
unfoldable is_up : Nodes → ℕ → Option NodeId → ℕ → Bool
is_up nodes zero at l = false
is_up nodes (suc n) None l = false
is_up nodes (suc n) (Some at) l = is_of (is_up nodes n) (nodes at.0) l

module _ (arena : Arena) (rows : Rows Row) (f : IsForest (nodes_of arena) arena.lists) where
  -- such a node has no higher rank than this
  record IsOver (r l : ℕ) : Type 0 where
    j : ℕ
    node : Node
    at : nodes_of arena j ≡ Some node
    list : l ≡ node.list.0
    over : f.rank j ≤ r

  -- there is none above a root
  up-none : (n l : ℕ) → is_up (nodes_of arena) n None l ≡ true → ⊥
  unfolding is_up
  up-none zero l e = cc
  up-none (suc n) l e = cc

  up-over : (n k l : ℕ) → is_up (nodes_of arena) n (link_to k) l ≡ true → IsOver (f.rank k) l
  unfolding is_up
  up-over zero k l e = absurd (cc)
  up-over (suc n) k l e = with_node (up-over n) (nodes_of arena k) refl e
    where
      with_parent : ((h m : ℕ) → is_up (nodes_of arena) n (link_to h) m ≡ true → IsOver (f.rank h) m) → (node : Node) →
          nodes_of arena k ≡ Some node → (o : Option NodeId) → node.parent ≡ o → is_up (nodes_of arena) n o l ≡ true → IsOver (f.rank k) l
      with_parent further node at None is e = absurd (up-none n l e)
      with_parent further node at (Some parent) is e =
          let it = further parent.0 l e in
          record { j = it.j; node = it.node; at = it.at; list = it.list; over = omega (arith, it.over, (f.by.below parent.0 k node at is).deeper) }

      with_node : ((h m : ℕ) → is_up (nodes_of arena) n (link_to h) m ≡ true → IsOver (f.rank h) m) →
          (o : Option Node) → nodes_of arena k ≡ o → is_of (is_up (nodes_of arena) n) o l ≡ true → IsOver (f.rank k) l
      with_node above None is e = absurd (cc)
      with_node above (Some node) is e = elim (or_cases (l == node.list.0) (is_up (nodes_of arena) n node.parent l) e) [
        | inl own ↦ record { j = k; node = node; at = is; list = eqb_is l node.list.0 own; over = omega arith }
        | inr further ↦ with_parent above node is node.parent refl further
      ]

  up-few : (n : ℕ) (at : Option NodeId) (from end : ℕ) → rows_up (tree_of arena rows) n at from end ≤ counted (is_up (nodes_of arena) n at) rows.rows
  unfolding rows_up is_up
  up-few zero at from end = omega arith
  up-few (suc n) None from end = omega arith
  up-few (suc n) (Some at) from end = with_node (up-few n) (nodes_of arena at.0) refl
    where
      with_node : ((o : Option NodeId) (from end : ℕ) → rows_up (tree_of arena rows) n o from end ≤ counted (is_up (nodes_of arena) n o) rows.rows) →
          (o : Option Node) → nodes_of arena at.0 ≡ o →
          rows_over (slots_of rows) (rows_up (tree_of arena rows) n) from end o ≤ counted (is_of (is_up (nodes_of arena) n) o) rows.rows
      with_node further None is = omega arith
      with_node further (Some node) is =
          let one = list-few rows.rows node.list.0 from end in
          let rest = further node.parent (from + node.first) (min end node.seen + node.first) in
          let both = counted-either (λ l. l == node.list.0) (is_up (nodes_of arena) n node.parent) rows.rows (λ l own.
          false_from_ne_true (is_up (nodes_of arena) n node.parent l) (λ above. apart l (eqb_is l node.list.0 own) node.parent refl above)) in
          omega (arith, one, rest, both)
        where
          apart : (l : ℕ) → l ≡ node.list.0 → (o : Option NodeId) → node.parent ≡ o → is_up (nodes_of arena) n o l ≡ true → ⊥
          apart l same None none e = up-none n l e
          apart l same (Some parent) up e =
              let it = up-over n parent.0 l e in
              let below = f.by.below parent.0 at.0 node is up in
              let one = f.by.own it.j at.0 it.node node it.at is (sym it.list ∙ same) in
              let rank : f.rank it.j ≡ f.rank at.0 = ap f.rank one in
              omega (arith, it.over, below.deeper, rank)

  pub reached-few : (k from end : ℕ) → rows_reached (tree_of arena rows) k from end ≤ row_count rows
  reached-few k from end =
      let up = up-few arena.lists (link_to k) from end in
      let all = counted-all (is_up (nodes_of arena) arena.lists (link_to k)) rows.rows in
      omega (arith, up, all)
