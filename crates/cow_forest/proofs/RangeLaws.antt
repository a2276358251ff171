-- Pages of a range that become zero, one after another and from row to row.
use Rattle.cow_forest.proofs.Words.{◌≡◌, ◌≢◌, ◌⊎◌, ℕ, ◌+◌, ◌-◌, ◌<◌, ◌≤◌, Bool, false, ◌&&◌, ◌||◌, ◌==◌, Option, None, Some, IsSome}
use Rattle.cow_forest.proofs.Words.{refl, sym, ap, subst, ◌∙◌, inl, inr, arith, is_some, nat_le, cases_eq, cases_lt, and_parts}
use Rattle.cow_forest.proofs.Words.{and_from, or_cases, leb-true, le-leb, false_from_ne_true, eqb_same, eqb_apart, eqb_is}
use Rattle.cow_forest.proofs.Words.{count_below_less, count_below_one_more, count_below_hit}
use Rattle.cow_forest.proofs.Words.{Rows, Pool, Row, Slot, slots_of, Node, Arena, nodes_of, Tree, frame_shown, tree_of}
use Rattle.cow_forest.proofs.Words.{IsPage, HasNone, IsFirst, has_row, shows_frame, rows_in, shown_from, IsReadyToZero}
use Rattle.cow_forest.proofs.Words.{HasZeroed, HasNoFrame}
use Rattle.cow_fork.proofs.ZeroLaws.{some-from, zeroed-none}
use Rattle.cow_forest.proofs.LookLaws.{none-from}

-- ---- the rows of a range

-- a row is passed, and the rest of the range has one less
pub rows-next : (rows : ℕ → Option Slot) (from end row : ℕ) → from ≤ row → row < end → IsSome (rows row) →
    rows_in rows (row + 1) end + 1 ≤ rows_in rows from end
unfolding rows_in
rows-next rows from end row low less some =
    let rest : ℕ → Bool = λ p. nat_le (row + 1) p && is_some (rows p) in
    let all : ℕ → Bool = λ p. nat_le from p && is_some (rows p) in
    let also : ℕ → Bool = λ p. (p == row) || rest p in
    let miss : rest row ≡ false = false_from_ne_true (rest row) (λ e. let le = leb-true (row + 1) row (and_parts (nat_le (row + 1) row) (is_some (rows row)) e).0 in absurd (omega arith)) in
    let one = count_below_one_more end row rest also less miss (ap (λ b. b || rest row) (eqb_same row)) (λ j apart. ap (λ b. b || rest j) (eqb_apart j row apart)) in
    let more = count_below_less end also all (λ j below e. elim (or_cases (j == row) (rest j) e) [
      | inl same ↦ ap all (eqb_is j row same) ∙ and_from (nat_le from row) (is_some (rows row)) (le-leb from row low) some
      | inr further ↦
          let both = and_parts (nat_le (row + 1) j) (is_some (rows j)) further in
          let past = leb-true (row + 1) j both.0 in
          and_from (nat_le from j) (is_some (rows j)) (le-leb from j (omega arith)) both.1
    ]) in
    omega (arith, one, more)

-- where no page from `from` on got a row, there are no more
pub rows-less : (old new : ℕ → Option Slot) (from end : ℕ) → ((q : ℕ) → from ≤ q → IsSome (new q) → IsSome (old q)) → rows_in new from end ≤ rows_in old from end
unfolding rows_in
rows-less old new from end each =
    count_below_less end (λ p. nat_le from p && is_some (new p)) (λ p. nat_le from p && is_some (old p)) (λ j below e.
    let both = and_parts (nat_le from j) (is_some (new j)) e in
    and_from (nat_le from j) (is_some (old j)) both.0 (each j (leb-true from j both.0) both.1))

-- ---- the pages that show a frame

-- a page that shows a frame is counted
shown-some : (t : Tree) (v first n p : ℕ) → first ≤ p → p < first + n → frame_shown t v p ≢ None → 0 < shown_from t v first n
unfolding shown_from
shown-some t v first n p low less some =
    let place : first + (p - first) ≡ p = omega arith in
    count_below_hit n (p - first) (λ k. is_some (frame_shown t v (first + k))) (omega arith)
    (ap (λ q. is_some (frame_shown t v q)) place ∙ some-from (frame_shown t v p) some)

-- ---- some pages of a range become zero

module _ (arena : Arena) where
  -- a page is one whatever the rows are
  pub page-on : (old new : Rows Row) (w q : ℕ) → IsPage (tree_of arena old) w q → IsPage (tree_of arena new) w q
  page-on old new w q page = record { node = page.node; visible = page.visible; below = page.below }

  -- more pages, in a range that has both
  pub zeroed-then : (old mid new : Rows Row) (before between after : Pool) (v a b c d first end : ℕ) → HasZeroed arena old mid before between v a b →
      HasZeroed arena mid new between after v c d → first ≤ a → b ≤ end → first ≤ c → d ≤ end → HasZeroed arena old new before after v first end
  zeroed-then old mid new before between after v a b c d first end one two low high low_too high_too = record {
    exact = two.exact;
    others = λ w q page apart.
        two.others w q (page-on old mid w q page) (λ here. apart (here.0, omega (arith, here.1), omega (arith, here.2)))
        ∙ one.others w q page (λ here. apart (here.0, omega (arith, here.1), omega (arith, here.2)));
    part = λ w q t page shows. one.part w q t page (two.part w q t (page-on old mid w q page) shows);
    gives = λ t. elim (two.gives t) [
      | inl same ↦ elim (one.gives t) [ inl was ↦ inl (same ∙ was) | inr gone ↦ inr (same ∙ gone) ]
      | inr gone ↦ inr gone
    ];
    stood = λ l q row t at frame.
        let had = two.stood l q row t at frame in
        let stood = one.stood l q had.row t had.at (sym had.frame ∙ frame) in
        record { row = stood.row; at = stood.at; frame = had.frame ∙ stood.frame };
    links = two.links ∙ one.links;
    frames = two.frames ∙ one.frames;
    places = λ node at l q some. elim (two.places node at l q some) [
      | inl mid_some ↦ elim (one.places node at l q mid_some) [
        | inl was ↦ inl was
        | inr place ↦ inr (place.0, omega (arith, place.1), omega (arith, place.2))
      ]
      | inr place ↦ inr (place.0, omega (arith, place.1), omega (arith, place.2))
    ];
    spare = λ node at x n start stop below.
        omega (arith, one.spare node at x n (omega arith) (omega arith) below, two.spare node at x n (omega arith) (omega arith) below);
  }

  -- a wider range
  pub zeroed-wider : (old new : Rows Row) (before after : Pool) (v a b first end : ℕ) → HasZeroed arena old new before after v a b → first ≤ a → b ≤ end →
      HasZeroed arena old new before after v first end
  zeroed-wider old new before after v a b first end is low high =
      zeroed-then old new new before after after v a b a b first end is (zeroed-none arena new new after v a b is.exact refl refl) low high low high

  module _ (old : Rows Row) (before : Pool) (v first end : ℕ) (ready : IsReadyToZero arena old before v first end) where
    -- the pages of the range are pages of the node
    pub ready-page : (p : ℕ) → p < end → IsPage (tree_of arena old) v p
    ready-page p less = record { node = ready.node; visible = ready.visible; below = omega (arith, less, ready.below) }

    -- the rest of the range stays ready
    pub ready-on : (new : Rows Row) (after : Pool) → HasZeroed arena old new before after v first end → IsReadyToZero arena new after v first end
    ready-on new after is = record {
      exact = is.exact;
      node = ready.node;
      visible = ready.visible;
      order = ready.order;
      below = ready.below;
      room =
          let kept = is.spare ready.node ready.visible.at first (end - first) (omega arith) (omega (arith, ready.order)) (omega (arith, ready.order, ready.below)) in
          omega (arith, kept, ready.room);
    }

    -- there is room for a page that shows a frame
    pub ready-room : (p : ℕ) → first ≤ p → p < end → frame_shown (tree_of arena old) v p ≢ None → 1 ≤ old.spare
    ready-room p low less some = omega (arith, shown-some (tree_of arena old) v first (end - first) p low (omega arith) some, ready.room)

-- ---- the rows of one list

-- The pages that come to the rows of the list from `here` to below `from` are passed, since the rows and the pool were the old ones,
-- with a step for each row.
pub record IsSweeping (arena : Arena) (old now : Rows Row) (before after : Pool) (v first list here to begun steps from : ℕ) : Type 0 where
  pub order : here ≤ from
  pub near : (from ≤ to) ⊎ (from ≡ here)
  pub some : HasZeroed arena old now before after v first (first + (from - here))
  pub passed : HasNoFrame (tree_of arena now) v first list here from
  pub cost : steps + rows_in (slots_of old list) from to ≤ begun + rows_in (slots_of old list) here to

module _ (arena : Arena) (old now : Rows Row) (before after : Pool) (v first end list here to begun steps from : ℕ)
    (ready : IsReadyToZero arena old before v first end) (risen : first ≤ here) (within : (d : ℕ) → here + d < to → first + d < end)
    (is : IsSweeping arena old now before after v first list here to begun steps from) where
  -- the pages that are passed lie in the range
  sweep-inside : first + (from - here) ≤ end
  sweep-inside = elim is.near [
    | inl near ↦ elim (cases_lt here from) [
      | inl less ↦ let last = within (from - here - 1) (omega arith) in omega arith
      | inr none ↦ omega (arith, none)
    ]
    | inr start ↦ omega (arith, start, ready.order)
  ]

  pub sweep-some : HasZeroed arena old now before after v first end
  sweep-some = zeroed-wider arena old now before after v first (first + (from - here)) first end is.some (omega arith) sweep-inside

  now-ready : IsReadyToZero arena now after v first end
  now-ready = ready-on arena old before v first end ready now after sweep-some

  module _ (row : ℕ) (low : from ≤ row) (less : row < to) where
    -- the page that comes to the row
    pub sweep-page : first ≤ row - (here - first) × (row - (here - first) < end) × (first + (row - here) ≡ row - (here - first))
    sweep-page = let started = is.order in let inside = within (row - here) (omega arith) in (omega arith, omega arith, omega arith)

    pub sweep-leaf : IsPage (tree_of arena now) v (row - (here - first))
    sweep-leaf = ready-page arena now after v first end now-ready (row - (here - first)) sweep-page.1

    pub sweep-room : frame_shown (tree_of arena now) v (row - (here - first)) ≢ None → 1 ≤ now.spare
    sweep-room = ready-room arena now after v first end now-ready (row - (here - first)) sweep-page.0 sweep-page.1

  -- the page that comes to the next row is zero now
  pub sweep-on : (own : (node : Node) → nodes_of arena v ≡ Some node → list ≡ node.list.0 → here ≡ first) (row : ℕ) →
      IsFirst (has_row (slots_of now list)) from to row → (new : Rows Row) (last : Pool) →
      HasZeroed arena now new after last v (row - (here - first)) (row - (here - first) + 1) →
      frame_shown (tree_of arena new) v (row - (here - first)) ≡ None → (taken : ℕ) → taken ≡ steps + 1 →
      IsSweeping arena old new before last v first list here to begun taken (row + 1)
  sweep-on own row next new last z none taken taken_is = record {
    order = omega (arith, is.order, next.order);
    near = inl (omega (arith, next.below));
    some = zeroed-then arena old now new before after last v first (first + (from - here)) (row - (here - first)) (row - (here - first) + 1) first (first + (row + 1 - here))
        is.some z (omega arith) (omega (arith, is.order, next.order)) page.0 (omega (arith, is.order, next.order, page.2));
    passed = λ d tag shown at_row less shows at frame.
        let had = z.stood list (here + d) at_row shown at frame in
        elim (cases_lt (here + d) from) [
          | inl passed ↦
              is.passed d tag shown had.row passed
              (z.part v (first + d) tag (sweep-leaf-of d passed) shows) had.at (sym had.frame ∙ frame)
          | inr past ↦ elim (cases_lt (here + d) row) [
            | inl before ↦ let free = next.gap (here + d) past before in let there = ap is_some had.at in absurd (cc)
            | inr same ↦
                let place : row - (here - first) ≡ first + d = omega (arith, is.order) in
                let zero : frame_shown (tree_of arena new) v (first + d) ≡ None = subst (λ p. frame_shown (tree_of arena new) v p ≡ None) place none in
                absurd (cc)
          ]
        ];
    cost =
        let one = rows-next (slots_of old list) from to row next.order next.below there in
        omega (arith, one, is.cost, taken_is);
  }
    where
      page : first ≤ row - (here - first) × (row - (here - first) < end) × (first + (row - here) ≡ row - (here - first))
      page = sweep-page row next.order next.below

      sweep-leaf-of : (d : ℕ) → here + d < from → IsPage (tree_of arena now) v (first + d)
      sweep-leaf-of d passed = ready-page arena now after v first end now-ready (first + d) (within d (omega (arith, next.order, next.below)))

      -- the row stood there from the start
      there : IsSome (slots_of old list row)
      there = elim (is.some.places ready.node ready.visible.at list row next.hit) [
        | inl was ↦ was
        | inr place ↦ absurd (let start = own ready.node ready.visible.at place.0 in omega (arith, place.2, next.order, is.order))
      ]

-- a page is zero, and those behind it
pub zero-run : (t : Tree) (v p next : ℕ) → frame_shown t v p ≡ None → HasNone (shows_frame t v) (p + 1) next → HasNone (shows_frame t v) p next
zero-run t v p next zero none q low less = elim (cases_eq q p) [
  | inl here ↦ ap (shows_frame t v) here ∙ ap is_some zero
  | inr further ↦ none q (omega arith) less
]

-- pages that were zero stay so, and those behind them are zero too
pub zero-on : (arena : Arena) (old new : Rows Row) (before after : Pool) (v first from next a b : ℕ) → IsPage (tree_of arena old) v from →
    HasZeroed arena old new before after v a b → HasNone (shows_frame (tree_of arena old) v) first from →
    HasNone (shows_frame (tree_of arena new) v) from next → HasNone (shows_frame (tree_of arena new) v) first next
zero-on arena old new before after v first from next a b page z zero behind p low high = elim (cases_lt p from) [
  | inr past ↦ behind p past high
  | inl passed ↦ ap is_some (none-from (frame_shown (tree_of arena new) v p) (λ t shows.
      let had = ap is_some (z.part v p t (record { node = page.node; visible = page.visible; below = omega (arith, page.below) }) shows) in
      let none = zero p low passed in
      absurd (cc)))
]
