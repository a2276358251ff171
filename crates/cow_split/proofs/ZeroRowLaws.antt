-- A row that says zero goes, where no row further up shows a frame: each page of each node shows what it showed, and the tree
-- stays exact.
use Rattle.cow_split.proofs.Words.{◌≡◌, ◌⊎◌, ℕ, ◌<◌, Bool, Option, None, Some, inl, inr, refl, sym, ap, subst, ◌∙◌, arith}
use Rattle.cow_split.proofs.Words.{some_same, Slot, Node, Side, IsForest, Tree, Found, Climbs, Arrives, walk, frame_in, frame_found}
use Rattle.cow_split.proofs.Words.{frame_shown, from_side, side_in, with_row, IsExact, IsPageAbove, absent_node}
use Rattle.cow_split.proofs.Words.{own_row, past_window, on_upwards, ◌≤◌}
use Rattle.cow_arena.proofs.WalkLaws.{climb_below, climbs-bare, up-each, begins, walk-absent, walk-row, walk-past, walk-climbs}
use Rattle.cow_arena.proofs.ReachLaws.{reach-deeper}
use Rattle.cow_arena.proofs.AlikeLaws.{with_pair-same, with_pair-other, walk-elsewhere}
use Rattle.cow_split.proofs.ExactLaws.{cases_place, with_row-changes, exact-changed, seen-carried, frame-stays}
use Rattle.cow_split.proofs.RowLaws.{sees-other}

-- what was found from a side has its frame
pub frame-from : (side : Option Side) (o : Option Found) → frame_found (from_side side o) ≡ frame_found o
frame-from side None = refl
frame-from side (Some it) = refl

-- ---- what a page would show if its node had no row there

module _ (t : Tree) (f : IsForest t.nodes t.lists) (k p : ℕ) (node : Node) (at : t.nodes k ≡ Some node) where
  abbrev bare : Tree
  bare = with_row t node.list.0 p None

  -- it shows what the page of its parent shows
  pub bare-above : (h q : ℕ) → IsPageAbove t k p h q → frame_shown bare k p ≡ frame_shown t h q
  bare-above h q step =
      let climb : Climbs bare k p h q = record {
        node = step.node;
        at = step.at;
        free = ap (λ (n : Node). bare.slots n.list.0 p) (some_same (sym step.at ∙ at)) ∙ with_pair-same t.slots node.list.0 p None;
        inside = step.inside;
        parent = step.parent;
        page = step.page;
      } in
      let deeper = (climb_below bare f.rank f.by k p h q climb).deeper in
      ap frame_found (walk-climbs bare f k p h q climb)
      ∙ (frame-from (side_in t.nodes k) (walk bare h q)
      ∙ ap frame_found (walk-elsewhere t f node.list.0 p None h q (λ side j n n_at list way.
      off side deeper (subst (λ i. Arrives t h q side i p) (f.by.own j k n node n_at at list) way))))
    where
      off : (side : Option Side) → f.rank h < f.rank k → Arrives t h q side k p → ⊥
      off None deeper way = let same = ap f.rank way.0 in omega arith
      off (Some side) deeper way = let higher = reach-deeper t f h q side k p way in omega arith

  -- it shows nothing outside the window
  pub bare-past : node.seen ≤ p → frame_shown bare k p ≡ None
  bare-past outside = ap frame_found (walk-past bare f k p node at (with_pair-same t.slots node.list.0 p None) outside)

-- it shows the same in two trees of the same nodes in which all pages show the same
pub bare-alike : (t u : Tree) → IsForest t.nodes t.lists → u.nodes ≡ t.nodes → u.lists ≡ t.lists → ((k p : ℕ) → frame_shown u k p ≡ frame_shown t k p) →
    (k p : ℕ) (node : Node) → t.nodes k ≡ Some node → frame_shown (with_row u node.list.0 p None) k p ≡ frame_shown (with_row t node.list.0 p None) k p
bare-alike t u f nodes lists same k p node at =
    let g : IsForest u.nodes u.lists = rw (nodes, lists) f in
    let there : u.nodes k ≡ Some node = ap (λ (n : ℕ → Option Node). n k) nodes ∙ at in
    elim (begins (with_row t node.list.0 p None) f k p) [
      | absent_node none ↦ absurd (cc)
      | own_row slot r ↦
          absurd (
          let list = ap (λ (n : Node). with_row_slots n.list.0) (some_same (sym r.at ∙ at)) in
          let gone = with_pair-same t.slots node.list.0 p None in
          let row = r.row in
          cc
          )
      | past_window n n_at free outside ↦
          let past = subst (λ (n : Node). n.seen ≤ p) (some_same (sym n_at ∙ at)) outside in
          bare-past u g k p node there past ∙ sym (bare-past t f k p node at past)
      | on_upwards h q c ↦
          bare-above u g k p node there h q (record { node = c.node; at = ap (λ (n : ℕ → Option Node). n k) nodes ∙ c.at; inside = c.inside; parent = c.parent; page = c.page })
          ∙ (same h q ∙ sym (bare-above t f k p node at h q (record { node = c.node; at = c.at; inside = c.inside; parent = c.parent; page = c.page })))
    ]
  where
    with_row_slots : ℕ → Option Slot
    with_row_slots l = (with_row t node.list.0 p None).slots l p

-- ---- the row goes

module _ (t : Tree) (f : IsForest t.nodes t.lists) (k p : ℕ) (node : Node) (at : t.nodes k ≡ Some node) (zero : t.slots node.list.0 p ≡ Some Slot.Zero)
    (hides : frame_shown (with_row t node.list.0 p None) k p ≡ None) where
  abbrev less : Tree
  less = with_row t node.list.0 p None

  -- a walk finds what it found, or no frame before and after
  abbrev FindsAlike : (j r : ℕ) → Type 0
  FindsAlike j r = (walk less j r ≡ walk t j r) ⊎ ((frame_shown less j r ≡ None) × (frame_shown t j r ≡ None))

  -- a place without a row has none after
  free-less : (n : Node) (r : ℕ) → t.slots n.list.0 r ≡ None → less.slots n.list.0 r ≡ None
  free-less n r free = elim (cases_place node.list.0 p n.list.0 r) [
    | inl here ↦ absurd (let same = ap (λ l. t.slots l r) here.0 ∙ ap (t.slots node.list.0) here.1 in cc)
    | inr apart ↦ with_pair-other t.slots node.list.0 p None n.list.0 r (λ a b. apart (a, b)) ∙ free
  ]

  finds-alike : (j r : ℕ) → FindsAlike j r
  finds-alike = up-each t f FindsAlike (λ j r ih. elim (begins t f j r) [
    | absent_node none ↦ inl (walk-absent less f j r none ∙ sym (walk-absent t f j r none))
    | own_row slot row ↦ elim (cases_place node.list.0 p row.node.list.0 r) [
      | inl here ↦
          let same = f.by.own j k row.node node row.at at here.0 in
          let is : Some slot ≡ Some Slot.Zero = sym row.row ∙ (ap (λ l. t.slots l r) here.0 ∙ (ap (t.slots node.list.0) here.1 ∙ zero)) in
          inr (
            subst (λ i. frame_shown less i r ≡ None) (sym same) (subst (λ x. frame_shown less k x ≡ None) (sym here.1) hides),
            ap frame_found (walk-row t f j r slot row) ∙ ap frame_in (some_same is),
          )
      | inr apart ↦
          let now = with_pair-other t.slots node.list.0 p None row.node.list.0 r (λ a b. apart (a, b)) ∙ row.row in
          inl (walk-row less f j r slot (record { node = row.node; at = row.at; row = now }) ∙ sym (walk-row t f j r slot row))
    ]
    | past_window n n_at free outside ↦ inl (walk-past less f j r n n_at (free-less n r free) outside ∙ sym (walk-past t f j r n n_at free outside))
    | on_upwards h q c ↦
        let climb : Climbs less j r h q = climbs-bare less.slots c (free-less c.node r c.free) in
        elim (ih h q c) [
          | inl same ↦
              inl (walk-climbs less f j r h q climb ∙ (ap (from_side (side_in t.nodes j)) same ∙ sym (walk-climbs t f j r h q c)))
          | inr none ↦ inr (
            ap frame_found (walk-climbs less f j r h q climb) ∙ (frame-from (side_in t.nodes j) (walk less h q) ∙ none.0),
            ap frame_found (walk-climbs t f j r h q c) ∙ (frame-from (side_in t.nodes j) (walk t h q) ∙ none.1),
          )
        ]
  ])

  -- each page of each node shows what it showed
  pub less-shows : (j r : ℕ) → frame_shown less j r ≡ frame_shown t j r
  less-shows j r = elim (finds-alike j r) [ inl same ↦ ap frame_found same | inr none ↦ none.0 ∙ sym none.1 ]

  -- the tree stays exact
  pub less-exact : (out : ℕ → ℕ → Bool) (in_use : ℕ → Bool) → IsExact t out in_use → IsExact less out in_use
  less-exact out in_use exact = exact-changed t less out out in_use in_use k p node (Some Slot.Zero) None exact at
      (with_row-changes t node.list.0 p (Some Slot.Zero) None zero) (frame-stays None in_use (λ tag e. absurd (cc)))
      (λ shown. record { below = λ slot e. absurd (cc); plain = λ tag left right e. absurd (cc) })
      (record {
        alike = λ h q n tag left right n_at hidden row differs side. (
          seen-carried t less out out side h q refl (λ v r sees in_sight. (
            elim (finds-alike v r) [
              | inl same ↦ same
              | inr none ↦ absurd (sees-other t out in_use v r (λ page. none.1) f v r (Some side) h q n tag left right n_at row sees (refl, refl))
            ],
            in_sight,
          )),
          seen-carried less t out out side h q refl (λ v r sees in_sight. (
            elim (finds-alike v r) [
              | inl same ↦ sym same
              | inr none ↦
                  let now = with_pair-other t.slots node.list.0 p None n.list.0 q (λ a b. differs (a, b)) ∙ row in
                  absurd (sees-other less out in_use v r (λ page. none.0) f v r (Some side) h q n tag left right n_at now sees (refl, refl))
            ],
            in_sight,
          )),
        );
      })
      (λ hidden tag left right e. absurd (cc))
