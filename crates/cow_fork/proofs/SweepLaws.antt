-- Rows that say zero and hide no frame go, one after another.
use Rattle.cow_fork.proofs.Words.{◌≡◌, ℕ, ◌+◌, ◌<◌, ◌≤◌, None, Some, refl, sym, ap, ◌∙◌, subst, inl, inr, arith, cases_lt, some_same}
use Rattle.cow_fork.proofs.Words.{Rows, with_pair, Row, Slot, slots_of, row_count, Node, Arena, nodes_of, Slots, Tree, frame_shown, IsForest}
use Rattle.cow_fork.proofs.Words.{IsNext, tree_of, with_row, IsExact, all_in_sight, IsNeeded, HasSwept, AreNeededIn, IsSwept, IsSome, is_some, ◌≢◌, ◌^◌}
use Rattle.cow_arena.proofs.AlikeLaws.{with_pair-same, with_pair-other}
use Rattle.cow_split.proofs.ExactLaws.{cases_place}
use Rattle.cow_split.proofs.ZeroRowLaws.{bare-alike, bare-past, less-shows, less-exact}
use Rattle.cow_jump.specs.declared.jumps.JumpTable.{JumpTable}
use Rattle.cow_jump.specs.Jumps.{AreJumps}
use Rattle.cow_jump.proofs.JumpRowLaws.{jumps-fewer}
use Rattle.cow_fork.proofs.LeafLaws.{tree-with}

pub swept-none : (arena : Arena) (rows : Rows Row) → HasSwept arena rows rows
swept-none arena rows = record {
  exact = λ in_use exact. exact;
  shows = λ k p. refl;
  rows = λ l q. inl refl;
  count = omega arith;
  spare = omega arith;
}

pub swept-then : (arena : Arena) (old mid new : Rows Row) → HasSwept arena old mid → HasSwept arena mid new → HasSwept arena old new
swept-then arena old mid new first second = record {
  exact = λ in_use exact. second.exact in_use (first.exact in_use exact);
  shows = λ k p. second.shows k p ∙ first.shows k p;
  rows = λ l q. elim (first.rows l q) [
    | inl was ↦ elim (second.rows l q) [
      | inl is ↦ inl (is ∙ was)
      | inr gone ↦ inr (sym was ∙ gone.0, gone.1)
    ]
    | inr gone ↦ inr (gone.0, elim (second.rows l q) [ inl is ↦ is ∙ gone.1 | inr again ↦ again.1 ])
  ];
  count = omega (arith, first.count, second.count);
  spare = omega (arith, first.spare, second.spare);
}

module _ (arena : Arena) (old new : Rows Row) (swept : HasSwept arena old new) where
  -- no page got a row
  pub swept-fewer : (l q : ℕ) → slots_of old l q ≡ None → slots_of new l q ≡ None
  swept-fewer l q none = elim (swept.rows l q) [ inl same ↦ same ∙ none | inr gone ↦ gone.1 ]

  -- a row that is left was there
  pub swept-was : (l q : ℕ) (row : Slot) → slots_of new l q ≡ Some row → slots_of old l q ≡ Some row
  swept-was l q row at = elim (swept.rows l q) [ inl same ↦ sym same ∙ at | inr gone ↦ absurd (let none = gone.1 in cc) ]

  -- the jumps stay right
  pub jumps-swept : (next : ℕ) (table : JumpTable) → AreJumps (tree_of arena old) next table → AreJumps (tree_of arena new) next table
  jumps-swept = jumps-fewer (tree_of arena old) (slots_of new) swept-fewer

  -- a row that hid a frame hides it, or is gone
  pub needed-swept : IsForest (nodes_of arena) arena.lists → (k p : ℕ) → IsNeeded arena old k p → IsNeeded arena new k p
  needed-swept forest k p needed node at zero none =
      needed node at (swept-was node.list.0 p Slot.Zero zero)
      (sym (bare-alike (tree_of arena old) (tree_of arena new) forest refl refl swept.shows k p node at) ∙ none)

-- a page without a row needs none
pub needed-bare : (arena : Arena) (rows : Rows Row) (k p : ℕ) → ((node : Node) → nodes_of arena k ≡ Some node → slots_of rows node.list.0 p ≡ None) →
    IsNeeded arena rows k p
needed-bare arena rows k p bare node at zero = absurd (let none = bare node at in cc)

-- a row goes
module _ (arena : Arena) (old new : Rows Row) (k p : ℕ) (node : Node) (forest : IsForest (nodes_of arena) arena.lists) (at : nodes_of arena k ≡ Some node)
    (zero : slots_of old node.list.0 p ≡ Some Slot.Zero) (idle : frame_shown (with_row (tree_of arena old) node.list.0 p None) k p ≡ None)
    (gone : slots_of new ≡ with_pair (slots_of old) node.list.0 p None) where
  tree-less : tree_of arena new ≡ with_row (tree_of arena old) node.list.0 p None
  tree-less = tree-with arena old new (with_pair (slots_of old) node.list.0 p None) gone

  pub swept-less : row_count new ≤ row_count old → old.spare ≤ new.spare → HasSwept arena old new
  swept-less count spare = record {
    exact = λ in_use exact.
        subst (λ (t : Tree). IsExact t all_in_sight in_use) (sym tree-less)
        (less-exact (tree_of arena old) forest k p node at zero idle all_in_sight in_use exact);
    shows = λ j r.
        ap (λ (t : Tree). frame_shown t j r) tree-less ∙ less-shows (tree_of arena old) forest k p node at zero idle j r;
    rows = λ l q. elim (cases_place node.list.0 p l q) [
      | inl here ↦ inr (
        ap (λ m. slots_of old m q) here.0 ∙ (ap (slots_of old node.list.0) here.1 ∙ zero),
        ap (λ m. slots_of new m q) here.0 ∙ (ap (slots_of new node.list.0) here.1 ∙ (ap (λ (s : Slots). s node.list.0 p) gone ∙ with_pair-same (slots_of old) node.list.0 p None)),
      )
      | inr apart ↦ inl (ap (λ (s : Slots). s l q) gone ∙ with_pair-other (slots_of old) node.list.0 p None l q (λ a b. apart (a, b)))
    ];
    count = count;
    spare = spare;
  }

  pub needed-less : IsNeeded arena new k p
  needed-less = needed-bare arena new k p (λ n there.
      ap (λ (s : Slots). s n.list.0 p) gone
      ∙ (ap (λ (m : Node). with_pair (slots_of old) node.list.0 p None m.list.0 p) (same n there) ∙ with_pair-same (slots_of old) node.list.0 p None))
    where
      same : (n : Node) → nodes_of arena k ≡ Some n → n ≡ node
      same n there = some_same (sym there ∙ at)

-- ---- the rows of a node

-- the rows of node k on pages below `from` were looked at
pub record AreSwept (arena : Arena) (old now : Rows Row) (k from : ℕ) : Type 0 where
  pub swept : HasSwept arena old now
  pub needed : (p : ℕ) → p < from → IsNeeded arena now k p

module _ (arena : Arena) (old now new : Rows Row) (k from page : ℕ) (node : Node) (forest : IsForest (nodes_of arena) arena.lists)
    (at : nodes_of arena k ≡ Some node) (are : AreSwept arena old now k from) (next : IsNext (slots_of now node.list.0) from (Some page))
    (step : HasSwept arena now new) (here : IsNeeded arena new k page) where
  -- those up to the next page that has a row are then
  pub swept-on : AreSwept arena old new k (page + 1)
  swept-on = record {
    swept = swept-then arena old now new are.swept step;
    needed = λ p less. elim (cases_lt p from) [
      | inl passed ↦ needed-swept arena now new step forest k p (are.needed p passed)
      | inr past ↦ elim (cases_lt p page) [
        | inl before ↦ needed-bare arena new k p (λ n there.
            swept-fewer arena now new step n.list.0 p
            (ap (λ (m : Node). slots_of now m.list.0 p) (some_same (sym there ∙ at)) ∙ (next.least page refl).2 p past before))
        | inr last ↦ subst (IsNeeded arena new k) (omega arith) here
      ]
    ];
  }

-- there is no row from here on
pub swept-end : (arena : Arena) (old now : Rows Row) (k from : ℕ) (node : Node) → nodes_of arena k ≡ Some node → AreSwept arena old now k from →
    IsNext (slots_of now node.list.0) from None → AreNeededIn arena now k
swept-end arena old now k from node at are next p fits = elim (cases_lt p from) [
  | inl passed ↦ are.needed p passed
  | inr past ↦ needed-bare arena now k p (λ n there.
      ap (λ (m : Node). slots_of now m.list.0 p) (some_same (sym there ∙ at)) ∙ next.none refl p past)
]

-- ---- the nodes

-- the rows of the nodes whose numbers are below `end` were looked at
pub record AreNodesSwept (arena : Arena) (old now : Rows Row) (end : ℕ) : Type 0 where
  pub swept : HasSwept arena old now
  pub needed : (k : ℕ) → k < end → AreNeededIn arena now k

pub nodes-on : (arena : Arena) (old now new : Rows Row) (k : ℕ) → IsForest (nodes_of arena) arena.lists → AreNodesSwept arena old now k →
    HasSwept arena now new → AreNeededIn arena new k → AreNodesSwept arena old new (k + 1)
nodes-on arena old now new k forest are step here = record {
  swept = swept-then arena old now new are.swept step;
  needed = λ j less. elim (cases_lt j k) [
    | inl passed ↦ (λ p fits. needed-swept arena now new step forest j p (are.needed j passed p fits))
    | inr last ↦ subst (AreNeededIn arena new) (omega arith) here
  ];
}

-- no node has a greater number
pub nodes-end : (arena : Arena) (old now : Rows Row) (at : ℕ) → AreNodesSwept arena old now at → ((k : ℕ) → IsSome (nodes_of arena k) → k < at) →
    IsSwept arena now
nodes-end arena old now at are below k p fits = elim (cases_lt k at) [
  | inl passed ↦ are.needed k passed p fits
  | inr past ↦ (λ node there zero none. let less = below k (ap is_some there) in omega arith)
]

-- a node without a parent sees no frame further up
pub roots-bare : (arena : Arena) (rows : Rows Row) → IsForest (nodes_of arena) arena.lists → IsSwept arena rows → (k p : ℕ) (node : Node) →
    nodes_of arena k ≡ Some node → node.parent ≡ None → p < 2 ^ 64 → slots_of rows node.list.0 p ≢ Some Slot.Zero
roots-bare arena rows forest swept k p node at root fits zero =
    let none = forest.by.root k node at root in
    swept k p fits node at zero (bare-past (tree_of arena rows) forest k p node at (omega (arith, none)))
