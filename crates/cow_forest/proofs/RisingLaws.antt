-- A range of pages that becomes zero on the way upwards, from node to node.
use Rattle.cow_forest.proofs.Words.{◌≡◌, ℕ, zero, suc, ◌+◌, ◌-◌, ◌<◌, ◌≤◌, min, Option, None, Some, IsSome, refl, sym, ap, subst, ◌∙◌, inl}
use Rattle.cow_forest.proofs.Words.{inr, arith, cases_lt, Rows, some_same, Pool, Row, slots_of, Node, NodeId, Arena, Nodes, nodes_of}
use Rattle.cow_forest.proofs.Words.{link_to, IsVisible, parent_node_in, side_in, Tree, walk, frame_shown, frame_found, IsForest, HasAsChild}
use Rattle.cow_forest.proofs.Words.{tree_of, nodes_up, depth, IsPage, rows_in, rows_over, rows_up, rows_reached, IsReadyToZero}
use Rattle.cow_forest.proofs.Words.{HasZeroed, HasNone, HasNoFrame, shows_frame, false, is_some}
use Rattle.cow_arena.proofs.WalkLaws.{walk-own, walk-past, walk-up}
use Rattle.cow_arena.proofs.ReachLaws.{walk-ends, hidden-apart}
use Rattle.cow_split.proofs.RowLaws.{frame-shown}
use Rattle.cow_split.proofs.CostLaws.{parent-there}
use Rattle.cow_split.proofs.ZeroRowLaws.{frame-from}
use Rattle.cow_merge.proofs.PassingLaws.{up-less}
use Rattle.cow_fork.proofs.ZeroLaws.{zeroed-none}
use Rattle.cow_forest.proofs.LookLaws.{none-from}
use Rattle.cow_forest.proofs.RangeLaws.{rows-less, page-on, zeroed-then, ready-page, ready-on}

-- ---- the cost of one node, and of those above it

rows-node : (t : Tree) (n k from end : ℕ) (node : Node) → t.nodes k ≡ Some node →
    rows_up t (suc n) (link_to k) from end ≡ rows_in (t.slots node.list.0) from end + rows_up t n node.parent (from + node.first) (min end node.seen + node.first)
unfolding rows_up
rows-node t n k from end node at = ap (rows_over t.slots (rows_up t n) from end) at

nodes-node : (nodes : Nodes) (n k : ℕ) (node : Node) → nodes k ≡ Some node → nodes_up nodes (suc n) (link_to k) ≡ suc (nodes_up nodes n node.parent)
unfolding nodes_up
nodes-node nodes n k node at = ap (λ (o : Option Node). suc (nodes_up nodes n (parent_node_in o))) at

-- The range has come up to page `here` of this node, and its pages show there what they show, as far as they are below `to`. The
-- further ones are zero. Before the rows of the node are taken, at most the steps are made that the rows and the nodes below it stand for.
pub record IsRising (arena : Arena) (old now : Rows Row) (before after : Pool) (v first end begun steps : ℕ) (at : Node) (here to : ℕ) : Type 0 where
  pub some : HasZeroed arena old now before after v first end
  pub h : ℕ
  pub there : nodes_of arena h ≡ Some at
  pub risen : first ≤ here
  pub within : (d : ℕ) → here + d < to → first + d < end
  pub same : (d t : ℕ) → here + d < to → frame_shown (tree_of arena now) v (first + d) ≡ Some t → frame_shown (tree_of arena old) h (here + d) ≡ Some t
  pub rest : (d : ℕ) → to ≤ here + d → first + d < end → frame_shown (tree_of arena now) v (first + d) ≡ None
  -- the node has no row that it didn't have, and is the VMO's own at the start alone
  pub fresh : (q : ℕ) → here ≤ q → IsSome (slots_of now at.list.0 q) → IsSome (slots_of old at.list.0 q)
  pub own : (node : Node) → nodes_of arena v ≡ Some node → at.list.0 ≡ node.list.0 → here ≡ first
  pub forest : IsForest (nodes_of arena) arena.lists
  pub fuel : ℕ
  pub enough : forest.rank h < fuel
  pub cost : steps + rows_up (tree_of arena old) fuel (link_to h) here to + nodes_up (nodes_of arena) fuel (link_to h)
      ≤ begun + rows_reached (tree_of arena old) v first end + depth (nodes_of arena) arena.lists v

module _ {arena : Arena} {old : Rows Row} {before : Pool} {v first end begun : ℕ} (ready : IsReadyToZero arena old before v first end) where
  -- it begins at the VMO's node
  pub rise-start : (node : Node) → nodes_of arena v ≡ Some node → IsRising arena old old before before v first end begun begun node first end
  rise-start node at = record {
    some = zeroed-none arena old old before v first end ready.exact refl refl;
    h = v;
    there = at;
    risen = omega arith;
    within = λ d less. less;
    same = λ d t less shows. shows;
    rest = λ d past less. absurd (omega arith);
    fresh = λ q low some. some;
    own = λ other is list. refl;
    forest = ready.exact.forest;
    fuel = arena.lists;
    enough = ready.exact.forest.by.ranks v node at;
    cost = omega arith;
  }

  module _ {now : Rows Row} {after : Pool} {steps : ℕ} {at : Node} {here to : ℕ} (is : IsRising arena old now before after v first end begun steps at here to) where
    pub rise-ready : IsReadyToZero arena now after v first end
    rise-ready = ready-on arena old before v first end ready now after is.some

    -- the rows of the node are passed: what is still shown comes to none of them
    module _ {new : Rows Row} {last : Pool} {taken : ℕ} (z : HasZeroed arena now new after last v first end)
        (passed : HasNoFrame (tree_of arena new) v first at.list.0 here to) (cost : taken ≤ steps + rows_in (slots_of now at.list.0) here to + 1) where
      all : HasZeroed arena old new before last v first end
      all = zeroed-then arena old now new before after last v first end first end first end is.some z (omega arith) (omega arith) (omega arith) (omega arith)

      page : (d : ℕ) → first + d < end → (rows : Rows Row) → IsPage (tree_of arena rows) v (first + d)
      page d less rows = page-on arena old rows v (first + d) (ready-page arena old before v first end ready (first + d) less)

      -- a page that is shown still was shown when the range came to the node
      still : (d t : ℕ) → first + d < end → frame_shown (tree_of arena new) v (first + d) ≡ Some t → frame_shown (tree_of arena now) v (first + d) ≡ Some t
      still d t less shows = z.part v (first + d) t (page d less now) shows

      -- the row that it had at the node would be there still, with its frame
      bare : (d t : ℕ) → here + d < to → frame_shown (tree_of arena new) v (first + d) ≡ Some t → slots_of old at.list.0 (here + d) ≡ None
      bare d t less shows = none-from (slots_of old at.list.0 (here + d)) (λ row own.
          let tree = tree_of arena old in
          let inside = is.within d less in
          let frame = sym (ap frame_found (walk-own tree is.forest is.h (here + d) at row is.there own)) ∙ is.same d t less (still d t inside shows) in
          let shown = frame-shown (tree_of arena new) v (first + d) t shows in
          let ends = (walk-ends (tree_of arena new) is.forest v (first + d) shown.it shown.found).row in
          let had = all.stood ends.node.list.0 shown.it.page shown.it.slot t ends.row shown.frame in
          let place = ready.exact.once ends.node.list.0 shown.it.page at.list.0 (here + d) t had.row row had.at own (sym had.frame ∙ shown.frame) frame in
          passed d t t shown.it.slot less shows (sym (ap (λ l. slots_of new l (here + d)) place.0) ∙ (sym (ap (slots_of new ends.node.list.0) place.1) ∙ ends.row)) shown.frame)

      -- a page that does not go on is zero
      outside : (stop : ℕ) → stop ≡ min to at.seen → (d : ℕ) → stop ≤ here + d → first + d < end → frame_shown (tree_of arena new) v (first + d) ≡ None
      outside stop stop_is d past less = none-from (frame_shown (tree_of arena new) v (first + d)) (λ t shows. elim (cases_lt (here + d) to) [
        | inr further ↦ let none = is.rest d further less in let some = still d t less shows in absurd (cc)
        | inl near ↦
            let free = bare d t near shows in
            let none = ap frame_found (walk-past (tree_of arena old) is.forest is.h (here + d) at is.there free (omega arith)) in
            let some = is.same d t near (still d t less shows) in
            absurd (cc)
      ])

      -- it ends where no page goes on
      pub rise-zero : (stop : ℕ) → stop ≡ min to at.seen → stop ≤ here → HasNone (shows_frame (tree_of arena new) v) first end
      rise-zero stop stop_is none p low less =
          let place : first + (p - first) ≡ p = omega arith in
          subst (λ q. shows_frame (tree_of arena new) v q ≡ false) place (ap is_some (outside stop stop_is (p - first) (omega arith) (omega arith)))

      -- that is so at a root
      pub rise-root : at.parent ≡ None → HasNone (shows_frame (tree_of arena new) v) first end
      rise-root none =
          let seen = is.forest.by.root is.h at is.there none in
          rise-zero (min to at.seen) refl (omega arith)

      pub rise-some : HasZeroed arena old new before last v first end
      rise-some = all

      -- what a node and those above it cost, once its rows are passed
      spent : (n : ℕ) → is.fuel ≡ suc n → taken + rows_up (tree_of arena old) n at.parent (here + at.first) (min to at.seen + at.first) + nodes_up (nodes_of arena) n at.parent
          ≤ begun + rows_reached (tree_of arena old) v first end + depth (nodes_of arena) arena.lists v
      spent n fuel =
          let less = rows-less (slots_of old at.list.0) (slots_of now at.list.0) here to is.fresh in
          let rows = ap (λ f. rows_up (tree_of arena old) f (link_to is.h) here to) fuel ∙ rows-node (tree_of arena old) n is.h here to at is.there in
          let nodes = ap (λ f. nodes_up (nodes_of arena) f (link_to is.h)) fuel ∙ nodes-node (nodes_of arena) n is.h at is.there in
          omega (arith, less, rows, nodes, is.cost, cost)

      some-fuel : (n : ℕ) → is.forest.rank is.h < n → (m : ℕ) × (n ≡ suc m)
      some-fuel zero less = absurd (omega arith)
      some-fuel (suc m) less = (m, refl)

      pub rise-cost : taken ≤ begun + rows_reached (tree_of arena old) v first end + depth (nodes_of arena) arena.lists v
      rise-cost = let fuel = some-fuel is.fuel is.enough in omega (arith, spent fuel.0 fuel.1)

      -- it goes on at the parent
      module _ {parent : NodeId} {up : Node} (parent_is : at.parent ≡ Some parent) (up_at : nodes_of arena parent.0 ≡ Some up) where
        pub rise-up : (stop : ℕ) → stop ≡ min to at.seen → IsRising arena old new before last v first end begun taken up (here + at.first) (stop + at.first)
        rise-up stop stop_is = record {
          some = all;
          h = parent.0;
          there = up_at;
          risen = omega (arith, is.risen);
          within = λ d less. is.within d (omega arith);
          same = λ d t less shows.
              let near : here + d < to = omega arith in
              let inside = is.within d near in
              let on = walk-up (tree_of arena old) is.forest is.h (here + d) parent.0 at is.there (bare d t near shows) (omega arith) parent_is in
              let place : at.first + (here + d) ≡ (here + at.first) + d = omega arith in
              sym (ap frame_found on ∙ (frame-from (side_in (nodes_of arena) is.h) (walk (tree_of arena old) parent.0 (at.first + (here + d)))
              ∙ ap (frame_shown (tree_of arena old) parent.0) place)) ∙ is.same d t near (still d t inside shows);
          rest = λ d past less. outside stop stop_is d (omega arith) less;
          fresh = λ q low some. elim (all.places ready.node ready.visible.at up.list.0 q some) [
            | inl was ↦ was
            | inr place ↦ absurd (apart ready.node ready.visible.at place.0)
          ];
          own = λ node node_at list. absurd (apart node node_at list);
          forest = is.forest;
          fuel = fuel.0;
          enough = let less = is.enough in let same = fuel.1 in let deeper = below.deeper in omega arith;
          cost =
              let all_spent = spent fuel.0 fuel.1 in
              let rows = ap (λ o. rows_up (tree_of arena old) fuel.0 o (here + at.first) (min to at.seen + at.first)) parent_is in
              let end_is = ap (λ n. rows_up (tree_of arena old) fuel.0 (Some parent) (here + at.first) (n + at.first)) stop_is in
              let nodes = ap (nodes_up (nodes_of arena) fuel.0) parent_is in
              omega (arith, all_spent, rows, end_is, nodes);
        }
          where
            fuel : (m : ℕ) × (is.fuel ≡ suc m)
            fuel = some-fuel is.fuel is.enough

            below : HasAsChild (nodes_of arena) is.forest.rank parent.0 is.h at
            below = is.forest.by.below parent.0 is.h at is.there parent_is

            -- the parent is hidden, so that its list is not the VMO's
            apart : (node : Node) → nodes_of arena v ≡ Some node → up.list.0 ≡ node.list.0 → ⊥
            apart node node_at list =
                let same : parent.0 ≡ v = is.forest.by.own parent.0 v up node up_at node_at list in
                let visible : IsVisible (nodes_of arena) v ready.node = ready.visible in
                hidden-apart (tree_of arena old) is.forest parent.0 v below.above ready.node below.at below.hidden visible same

        -- the window ends inside the parent
        pub rise-window : at.first + at.seen ≤ up.count
        rise-window =
            let below = is.forest.by.below parent.0 is.h at is.there parent_is in
            subst (λ (n : Node). at.first + at.seen ≤ n.count) (some_same (sym below.at ∙ up_at)) below.window

    -- the parent is there, and fewer nodes are above it
    pub rise-there : {parent : NodeId} → at.parent ≡ Some parent → IsSome (nodes_of arena parent.0)
    rise-there {parent} parent_is = parent-there (nodes_of arena) arena.lists is.forest is.h parent.0 at is.there parent_is

    pub rise-less : {parent : NodeId} {up : Node} → at.parent ≡ Some parent → nodes_of arena parent.0 ≡ Some up →
        nodes_up (nodes_of arena) arena.lists up.parent < nodes_up (nodes_of arena) arena.lists at.parent
    rise-less {parent} {up} parent_is up_at =
        subst (λ o. nodes_up (nodes_of arena) arena.lists up.parent < nodes_up (nodes_of arena) arena.lists o) (sym parent_is)
        (up-less (nodes_of arena) arena.lists is.forest parent.0 up up_at)
