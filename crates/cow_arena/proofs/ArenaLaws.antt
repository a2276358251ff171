-- The arena after each change of its slab: its fields hold what they must, and so many nodes are hidden and visible.
use Rattle.cow_arena.proofs.Words.{◌≡◌, ◌≢◌, ℕ, ◌+◌, ◌-◌, ◌<◌, ◌≤◌, Bool, cond, [], None, Some, ◌⊎◌, refl, sym, ap, subst, ◌∙◌, inl, inr}
use Rattle.cow_arena.proofs.Words.{arith, IsSome, IsSomeAnd, is_some, is_none, Slab, get, with_value, with_key, without_key, entry_count}
use Rattle.cow_arena.proofs.Words.{bit-true, bit-false, some_same, some_is, entry_count-empty, entry_count_hit, entry_count_le}
use Rattle.cow_arena.proofs.Words.{with_key-cases, without_key-some, entry_count-with_key, Koid, Node, Nodes, Arena, AreFamily, link_to}
use Rattle.cow_arena.proofs.Words.{nodes_of, node_above, IsForest, IsForestBy, root_node, window_first, relinked, hidden_over, below_hidden}
use Rattle.cow_arena.proofs.Words.{snapshot_node, paired, lifted, spliced, hidden_count, visible_count, arena_of, root_count, IsArena}
use Rattle.cow_arena.specs.declared.arena.CowArena.TheInside.{Inside}
use Rattle.cow_arena.proofs.WalkLaws.{link_same}
use Rattle.cow_arena.proofs.SlotLaws.{nodes_written}
use Rattle.cow_arena.proofs.ForestLaws.{SamePlace, IsFit, some_and, fits_window, fits_count, no_nodes, resized_by, rooted_by, unrooted_by}
use Rattle.cow_arena.proofs.ForestLaws.{root_rank}
use Rattle.cow_arena.proofs.PairForestLaws.{paired_by, held_paired, pair_rank}
use Rattle.cow_arena.proofs.SpliceForestLaws.{spliced_by, held_spliced, s_k, s_h, k_h, parent_is_hidden, sibling_parent}
use Rattle.cow_arena.proofs.CountLaws.{fewer_hidden, is_none-some, is_hidden, is_visible, is_root, IsDeaf, entry_count-room}
use Rattle.cow_arena.proofs.CountLaws.{entry_count-kept, entry_count-gone, paired_count, spliced_count}

-- the same nodes, in the same room
entry_count-at : (m n : ℕ) (test : Node → Bool) (nodes others : Nodes) → m ≡ n → nodes ≡ others → entry_count m test nodes ≡ entry_count n test others
entry_count-at m n test nodes others room same = λ i. entry_count (room i) test (same i)

-- the forest of nodes that are told by an equation
forest_at : (nodes others : Nodes) (lists : ℕ) (rank : ℕ → ℕ) → others ≡ nodes → IsForestBy nodes lists rank → IsForest others lists
forest_at nodes others lists rank same by = record { rank = rank; by = subst (λ (map : Nodes). IsForestBy map lists rank) (sym same) by }

-- each node is below the bound after one was put
held_put : (old bound : ℕ) (nodes map : Nodes) (k : ℕ) (new : Node) → ((n : ℕ) → IsSome (nodes n) → n < old) → old ≤ bound → k < bound →
    map ≡ with_key nodes k new → (n : ℕ) → IsSome (map n) → n < bound
held_put old bound nodes map k new held room within is n some =
    let b = some_is (with_key nodes k new n) (ap (λ (map : Nodes). is_some (map n)) (sym is) ∙ some) in
    elim (with_key-cases nodes k new n b.0 b.1) [
      | inl h ↦ omega (arith, h.0, within)
      | inr h ↦ omega (arith, held n (ap is_some h.1), room)
    ]

-- b is an arena, and beside the old nodes so many nodes of it are hidden and visible
pub record IsAfter (old : Arena) (b : Inside) (hidden_is visible_is : ℕ → ℕ → Type 0) : Type 0 where
  pub arena : IsArena b
  pub hidden : hidden_is (hidden_count (arena_of b)) (hidden_count old)
  pub visible : visible_is (visible_count (arena_of b)) (visible_count old)

-- so it is after the arena as a caller sees it
pub after_seen : {old v : Arena} {b : Inside} {hidden_is visible_is : ℕ → ℕ → Type 0} → old ≡ v → IsAfter old b hidden_is visible_is →
    IsAfter v b hidden_is visible_is
after_seen {b = b} {hidden_is = hidden_is} {visible_is = visible_is} view is = subst (λ (v : Arena). IsAfter v b hidden_is visible_is) view is

abbrev pub Same : ℕ → ℕ → Type 0
Same new old = new ≡ old

abbrev pub More : ℕ → ℕ → Type 0
More new old = new ≡ old + 1

abbrev pub Less : ℕ → ℕ → Type 0
Less new old = new + 1 ≡ old

deaf_hidden : IsDeaf is_hidden
deaf_hidden = record { same = λ node left right. refl }

deaf_visible : IsDeaf is_visible
deaf_visible = record { same = λ node left right. refl }

deaf_root : IsDeaf is_root
deaf_root = record { same = λ node left right. refl }

-- one node is written as a change of what it was
pub nodes_changed : (a : Inside) (v : Arena) (k : ℕ) (node : Node) (change : Node → Node) → arena_of a ≡ v → get a.nodes k ≡ Some node →
    (was : Node) → nodes_of v k ≡ Some was → get (with_value a.nodes k (change node)) ≡ with_key (nodes_of v) k (change was)
nodes_changed a v k node change view at = subst
    (λ (v : Arena). (was : Node) → nodes_of v k ≡ Some was → get (with_value a.nodes k (change node)) ≡ with_key (nodes_of v) k (change was)) view
    (λ was is. nodes_written a.nodes k (change node) (ap is_some at) ∙ λ i. with_key (get a.nodes) k (change (some_same (sym at ∙ is) i)))

module _ (a : Inside) (arena : IsArena a) (slots : Slab Node) where
  -- ---- no change but in room

  module _ (room : a.nodes.capacity ≤ slots.capacity) (is : get slots ≡ get a.nodes) where
    grown_count : (test : Node → Bool) → entry_count slots.capacity test (get slots) ≡ entry_count a.nodes.capacity test (get a.nodes)
    grown_count test = entry_count-at slots.capacity slots.capacity test (get slots) (get a.nodes) refl is
        ∙ entry_count-room a.nodes.capacity slots.capacity test (get a.nodes) arena.held room

    pub grown : IsAfter (arena_of a) (record a { nodes = slots }) Same Same
    unfolding hidden_count visible_count root_count
    grown =
        let hidden = grown_count is_hidden in let visible = grown_count is_visible in let roots = grown_count is_root in
        record {
          arena = record {
            forest = forest_at (get a.nodes) (get slots) a.lists arena.forest.rank is arena.forest.by;
            held = λ k some. omega (arith, arena.held k (ap (λ (map : Nodes). is_some (map k)) (sym is) ∙ some));
            hidden = arena.hidden ∙ sym hidden;
            balance = omega (arith, hidden, visible, roots, arena.balance);
          };
          hidden = hidden;
          visible = visible;
        }

  -- ---- another count, window or list

  module _ (k : ℕ) (node new : Node) (at : get a.nodes k ≡ Some node) (koid : new.koid ≡ node.koid) (parent : new.parent ≡ node.parent)
      (forest : IsForest (with_key (get a.nodes) k new) a.lists) (room : slots.capacity ≡ a.nodes.capacity) (is : get slots ≡ with_key (get a.nodes) k new) where
    rewritten_count : (test : Node → Bool) → test new ≡ test node → entry_count slots.capacity test (get slots) ≡ entry_count a.nodes.capacity test (get a.nodes)
    rewritten_count test same = entry_count-at slots.capacity a.nodes.capacity test (get slots) (with_key (get a.nodes) k new) room is
        ∙ entry_count-kept a.nodes.capacity test (get a.nodes) k node new (arena.held k (ap is_some at)) at same

    pub rewritten : IsAfter (arena_of a) (record a { nodes = slots }) Same Same
    unfolding hidden_count visible_count root_count
    rewritten =
        let hidden = rewritten_count is_hidden (ap is_none koid) in
        let visible = rewritten_count is_visible (ap is_some koid) in
        let roots = rewritten_count is_root (ap is_none parent) in
        record {
          arena = record {
            forest = forest_at _ (get slots) a.lists forest.rank is forest.by;
            held = held_put a.nodes.capacity slots.capacity (get a.nodes) (get slots) k new arena.held (omega (arith, room))
                (omega (arith, arena.held k (ap is_some at), room)) is;
            hidden = arena.hidden ∙ sym hidden;
            balance = omega (arith, hidden, visible, roots, arena.balance);
          };
          hidden = hidden;
          visible = visible;
        }

  -- ---- a root comes

  module _ (k : ℕ) (free : get a.nodes k ≡ None) (koid : Koid) (count : ℕ) (room : a.nodes.capacity ≤ slots.capacity) (within : k < slots.capacity)
      (is : get slots ≡ with_key (get a.nodes) k (root_node koid a.lists count)) where
    rooted_count : (test : Node → Bool) → entry_count slots.capacity test (get slots) ≡ entry_count a.nodes.capacity test (get a.nodes) + cond (test (root_node koid a.lists count)) 1 0
    rooted_count test =
        entry_count-at slots.capacity slots.capacity test (get slots) (with_key (get a.nodes) k (root_node koid a.lists count)) refl is
        ∙ (entry_count-with_key slots.capacity test (get a.nodes) k (root_node koid a.lists count) within free
        ∙ ap (λ (n : ℕ). n + cond (test (root_node koid a.lists count)) 1 0) (entry_count-room a.nodes.capacity slots.capacity test (get a.nodes) arena.held room))

    pub rooted : IsAfter (arena_of a) (record a { nodes = slots; lists = a.lists + 1 }) Same More
    unfolding hidden_count visible_count root_count
    rooted =
        let hidden = rooted_count is_hidden in let visible = rooted_count is_visible in let roots = rooted_count is_root in
        record {
          arena = record {
            forest = forest_at _ (get slots) (a.lists + 1) (root_rank (get a.nodes) a.lists arena.forest.rank arena.forest.by k free koid count) is
                (rooted_by (get a.nodes) a.lists arena.forest.rank arena.forest.by k free koid count);
            held = held_put a.nodes.capacity slots.capacity (get a.nodes) (get slots) k (root_node koid a.lists count) arena.held room within is;
            hidden = omega (arith, arena.hidden, hidden);
            balance = omega (arith, hidden, visible, roots, arena.balance);
          };
          hidden = omega (arith, hidden);
          visible = visible;
        }

  -- ---- a root goes

  module _ (k : ℕ) (node : Node) (at : get a.nodes k ≡ Some node) (koid : IsSome node.koid) (root : node.parent ≡ None) (room : slots.capacity ≡ a.nodes.capacity)
      (is : get slots ≡ without_key (get a.nodes) k) where
    unrooted_count : (test : Node → Bool) → entry_count slots.capacity test (get slots) + cond (test node) 1 0 ≡ entry_count a.nodes.capacity test (get a.nodes)
    unrooted_count test = omega (
      arith,
      entry_count-at slots.capacity a.nodes.capacity test (get slots) (without_key (get a.nodes) k) room is,
      entry_count-gone a.nodes.capacity test (get a.nodes) k node (arena.held k (ap is_some at)) at,
    )

    unrooted_held : (n : ℕ) → IsSome (get slots n) → n < slots.capacity
    unrooted_held n some =
        let b = some_is (without_key (get a.nodes) k n) (ap (λ (map : Nodes). is_some (map n)) (sym is) ∙ some) in
        omega (arith, arena.held n (ap is_some (without_key-some (get a.nodes) k n b.0 b.1).1), room)

    pub unrooted : IsAfter (arena_of a) (record a { nodes = slots }) Same Less
    unfolding hidden_count visible_count root_count
    unrooted =
        let hidden = unrooted_count is_hidden in let visible = unrooted_count is_visible in let roots = unrooted_count is_root in
        let not_hidden = bit-false (is_hidden node) (is_none-some node.koid koid) in
        let is_seen = bit-true (is_visible node) koid in
        let is_top = bit-true (is_root node) (ap is_none root) in
        record {
          arena = record {
            forest = forest_at _ (get slots) a.lists arena.forest.rank is
                (unrooted_by (get a.nodes) a.lists arena.forest.rank arena.forest.by k node at koid root);
            held = unrooted_held;
            hidden = omega (arith, arena.hidden, hidden, not_hidden);
            balance = omega (arith, hidden, visible, roots, arena.balance, not_hidden, is_seen, is_top);
          };
          hidden = omega (arith, hidden, not_hidden);
          visible = omega (arith, visible, is_seen);
        }

  -- ---- a snapshot

  module _ (k h c : ℕ) (node : Node) (at : get a.nodes k ≡ Some node) (koid_is : IsSome node.koid) (free_h : get a.nodes h ≡ None) (free_c : get a.nodes c ≡ None) (apart : h ≢ c)
      (koid : Koid) (first seen count : ℕ) (window : first + seen ≤ node.count) (short : seen ≤ count)
      (room : a.nodes.capacity ≤ slots.capacity) (within_h : h < slots.capacity) (within_c : c < slots.capacity)
      (is : get slots ≡ paired (get a.nodes) k node h c a.lists koid first seen count) where
    pair_count : (test : Node → Bool) → IsDeaf test → entry_count slots.capacity test (get slots) + cond (test node) 1 0
        ≡ entry_count a.nodes.capacity test (get a.nodes) + cond (test (hidden_over node k c)) 1 0 + cond (test (below_hidden node h a.lists)) 1 0
        + cond (test (snapshot_node koid h (a.lists + 1) first seen count)) 1 0
    pair_count test deaf = omega (
      arith,
      entry_count-at slots.capacity slots.capacity test (get slots) (paired (get a.nodes) k node h c a.lists koid first seen count) refl is,
      entry_count-room a.nodes.capacity slots.capacity test (get a.nodes) arena.held room,
      paired_count (get a.nodes) a.lists arena.forest.rank arena.forest.by slots.capacity test deaf k h c node at free_h free_c apart
          (omega (arith, arena.held k (ap is_some at), room)) within_h within_c koid first seen count,
    )

    pub paired_after : IsAfter (arena_of a) (record { nodes = slots; lists = a.lists + 2; hidden = a.hidden + 1 }) More More
    unfolding hidden_count visible_count root_count
    paired_after =
        let hidden = pair_count is_hidden deaf_hidden in let visible = pair_count is_visible deaf_visible in let roots = pair_count is_root deaf_root in
        record {
          arena = record {
            forest = forest_at _ (get slots) (a.lists + 2) (pair_rank (get a.nodes) a.lists arena.forest.rank arena.forest.by k h c node at koid_is free_h free_c apart koid first seen count window short) is
                (paired_by (get a.nodes) a.lists arena.forest.rank arena.forest.by k h c node at koid_is free_h free_c apart koid first seen count window short);
            held = λ n some. held_paired (get a.nodes) a.lists arena.forest.rank arena.forest.by k h c node at koid_is free_h free_c apart koid first seen count window short
                slots.capacity (λ m held. omega (arith, arena.held m held, room)) within_h within_c n (ap (λ (map : Nodes). is_some (map n)) (sym is) ∙ some);
            hidden = omega (arith, arena.hidden, hidden);
            balance = omega (arith, hidden, visible, roots, arena.balance);
          };
          hidden = omega (arith, hidden);
          visible = omega (arith, visible);
        }

  -- ---- a splice

  module _ (k h s : ℕ) (node parent sibling : Node) (family : AreFamily (get a.nodes) k h s node parent sibling) (koid : IsSome node.koid) (room : slots.capacity ≡ a.nodes.capacity)
      (is : get slots ≡ spliced (get a.nodes) k h s parent sibling) where
    splice_count : (test : Node → Bool) → IsDeaf test →
        entry_count slots.capacity test (get slots) + cond (test node) 1 0 + cond (test parent) 1 0 + cond (test sibling) 1 0
        ≡ entry_count a.nodes.capacity test (get a.nodes) + cond (test (lifted parent sibling)) 1 0
    splice_count test deaf = omega (
      arith,
      entry_count-at slots.capacity a.nodes.capacity test (get slots) (spliced (get a.nodes) k h s parent sibling) room is,
      spliced_count (get a.nodes) a.lists arena.forest.rank arena.forest.by a.nodes.capacity test deaf k h s node parent sibling family.at family.parent_at family.sibling_at
          (k_h (get a.nodes) a.lists arena.forest.rank arena.forest.by k h s node parent sibling family)
          (s_k (get a.nodes) a.lists arena.forest.rank arena.forest.by k h s node parent sibling family)
          (s_h (get a.nodes) a.lists arena.forest.rank arena.forest.by k h s node parent sibling family)
          (arena.held k (ap is_some family.at)) (arena.held h (ap is_some family.parent_at)) (arena.held s (ap is_some family.sibling_at)),
    )

    pub spliced_after : IsAfter (arena_of a) (record a { nodes = slots; hidden = a.hidden - 1 }) Less Less
    unfolding hidden_count visible_count root_count
    spliced_after =
        let hidden = splice_count is_hidden deaf_hidden in let visible = splice_count is_visible deaf_visible in let roots = splice_count is_root deaf_root in
        let above_hidden = parent_is_hidden (get a.nodes) a.lists arena.forest.rank arena.forest.by k h s node parent sibling family in
        let hides = bit-true (is_hidden parent) (ap is_none above_hidden) in
        let hides_not = bit-false (is_hidden node) (is_none-some node.koid koid) in
        let shows = bit-true (is_visible node) koid in
        let shows_not = bit-false (is_visible parent) (ap is_some above_hidden) in
        let below = bit-false (is_root node) (ap is_none family.parent_is) in
        let beside = bit-false (is_root sibling) (ap is_none (sibling_parent (get a.nodes) a.lists arena.forest.rank arena.forest.by k h s node parent sibling family)) in
        record {
          arena = record {
            forest = forest_at _ (get slots) a.lists arena.forest.rank is
                (spliced_by (get a.nodes) a.lists arena.forest.rank arena.forest.by k h s node parent sibling family koid);
            held = λ n some. omega (
              arith,
              room,
              arena.held n (held_spliced (get a.nodes) a.lists arena.forest.rank arena.forest.by k h s node parent sibling family koid n
                  (ap (λ (map : Nodes). is_some (map n)) (sym is) ∙ some)),
            );
            hidden = omega (arith, arena.hidden, hidden, hides, hides_not);
            balance = omega (arith, hidden, visible, roots, arena.balance, hides, hides_not, shows, shows_not, below, beside);
          };
          hidden = omega (arith, hidden, hides, hides_not);
          visible = omega (arith, visible, shows, shows_not);
        }

-- ---- calls that write one node

module _ (a : Inside) (arena : IsArena a) (v : Arena) (view : arena_of a ≡ v) (k : ℕ) (node : Node) (at : get a.nodes k ≡ Some node) where
  written : (new : Node) → SamePlace node new → (new.count ≡ node.count) ⊎ IsSome node.koid → IsFit (get a.nodes) new → IsAfter v (record a { nodes = with_value a.nodes k new }) Same Same
  written new place keeps fits = after_seen view
      (rewritten a arena (with_value a.nodes k new) k node new at place.koid place.parent
      (record { rank = arena.forest.rank; by = resized_by (get a.nodes) a.lists arena.forest.rank arena.forest.by k node new at place keeps fits }) refl
      (nodes_written a.nodes k new (ap is_some at)))

  pub window_after : (first seen : ℕ) → IsSomeAnd (nodes_of v k) (λ node. seen ≤ node.count) → IsSomeAnd (node_above (nodes_of v) k) (λ parent. first + seen ≤ parent.count) →
      (seen ≡ 0 → first ≡ 0) → IsAfter v (record a { nodes = with_value a.nodes k (record node { first = first; seen = seen }) }) Same Same
  window_after first seen short inside empty =
      written (record node { first = first; seen = seen }) (record { koid = refl; parent = refl; left = refl; right = refl; list = refl }) (inl refl)
      (fits_window (get a.nodes) k node first seen at (rw (← view) at short) (rw (← view) at inside) empty)

  pub count_after : (count : ℕ) → IsSomeAnd (nodes_of v k) (λ node. IsSome node.koid × (node.seen ≤ count)) →
      IsAfter v (record a { nodes = with_value a.nodes k (record node { count = count }) }) Same Same
  count_after count leaf =
      let is = rw (← view, at) at leaf in
      written (record node { count = count }) (record { koid = refl; parent = refl; left = refl; right = refl; list = refl }) (inr is.0)
      (fits_count (get a.nodes) a.lists arena.forest k node count at is.1)

  -- it has another list
  pub list_after : (new : Node) → new.koid ≡ node.koid → new.parent ≡ node.parent → IsForest (with_key (nodes_of v) k new) v.lists →
      IsAfter v (record a { nodes = with_value a.nodes k new }) Same Same
  list_after new koid parent forest = subst (λ (v : Arena). IsForest (with_key (nodes_of v) k new) v.lists → IsAfter v (record a { nodes = with_value a.nodes k new }) Same Same)
      view
      (λ forest. rewritten a arena (with_value a.nodes k new) k node new at koid parent forest refl (nodes_written a.nodes k new (ap is_some at)))
      forest

-- ---- the call that takes a root away

pub gone_after : (a : Inside) (arena : IsArena a) (v : Arena) (view : arena_of a ≡ v) (slots : Slab Node) (k : ℕ) →
    IsSomeAnd (nodes_of v k) (λ node. IsSome node.koid × (node.parent ≡ None)) → slots.capacity ≡ a.nodes.capacity → get slots ≡ without_key (get a.nodes) k →
    IsAfter v (record a { nodes = slots }) Same Less
gone_after a arena v view slots k leaf room is =
    let found = some_and (get a.nodes k) (λ (node : Node). IsSome node.koid × (node.parent ≡ None)) (rw (← view) at leaf) in
    after_seen view (unrooted a arena slots k found.0 found.1 found.2.0 found.2.1 room is)

-- ---- the first arena

pub no_slots : (slots : Slab Node) → slots.slots ≡ [] → get slots ≡ λ k. None
no_slots slots none = λ i k. at k i
  where
    at : (k : ℕ) → get slots k ≡ None
    at k = rw none refl

pub new_arena : (slots : Slab Node) → slots.slots ≡ [] → IsArena (record { nodes = slots; lists = 0; hidden = 0 }) × (visible_count (record { slots = slots; lists = 0 }) ≡ 0)
unfolding hidden_count visible_count root_count
new_arena slots none =
    let is = no_slots slots none in
    let count = λ (test : Node → Bool). entry_count-empty slots.capacity test (get slots) (λ k. ap (λ (map : Nodes). map k) is) in
    let hidden = count is_hidden in let visible = count is_visible in let roots = count is_root in (
      record {
        forest = forest_at (λ k. None) (get slots) 0 (λ k. 0) is (no_nodes (λ k. 0));
        held = λ k some. absurd (let no = sym some ∙ ap (λ (map : Nodes). is_some (map k)) is in cc);
        hidden = sym hidden;
        balance = omega (arith, hidden, visible, roots);
      },
      visible,
    )

-- ---- a snapshot is made

-- where a node is visible, fewer nodes are hidden than there is room for
pub hidden_room : (a : Inside) → IsArena a → (v : Arena) → arena_of a ≡ v → (k first seen : ℕ) →
    IsSomeAnd (nodes_of v k) (λ node. IsSome node.koid × (first + seen ≤ node.count)) → a.hidden < a.nodes.capacity
unfolding hidden_count visible_count
hidden_room a arena v view k first seen leaf =
    let found = some_and (get a.nodes k) (λ (node : Node). IsSome node.koid × (first + seen ≤ node.count)) (rw (← view) at leaf) in
    let some = entry_count_hit a.nodes.capacity is_visible (get a.nodes) k found.0 (arena.held k (ap is_some found.1)) found.1 found.2.0 in
    let most = entry_count_le a.nodes.capacity is_visible (get a.nodes) in
    elim (fewer_hidden a arena) [
      | inl fewer ↦ omega (arith, fewer, most, arena.hidden)
      | inr none ↦ absurd (omega (arith, none.1, some))
    ]

-- the nodes as a call leaves them, where it finds where the window begins
pub paired_is : (nodes : Nodes) (k : ℕ) (node : Node) (h c lists : ℕ) (koid : Koid) (first seen count begin : ℕ) → begin ≡ window_first first seen →
    with_key (with_key (with_key (relinked nodes node.parent k h) h (hidden_over node k c)) k (below_hidden node h lists)) c
    (record (root_node koid (lists + 1) count) { parent = link_to h; first = begin; seen = seen })
    ≡ paired nodes k node h c lists koid first seen count
unfolding paired
paired_is nodes k node h c lists koid first seen count begin is =
    λ i. with_key (with_key (with_key (relinked nodes node.parent k h) h (hidden_over node k c)) k (below_hidden node h lists)) c
    (record (root_node koid (lists + 1) count) { parent = link_to h; first = is i; seen = seen })

module _ (a : Inside) (arena : IsArena a) (v : Arena) (view : arena_of a ≡ v) (mid : Slab Node) (more : a.nodes.capacity ≤ mid.capacity) (alike : get mid ≡ get a.nodes) where
  pub grown_forest : IsForest (get mid) a.lists
  grown_forest = (grown a arena mid more alike).arena.forest

  module _ (slots : Slab Node) (k h c : ℕ) (node : Node) (at : get mid k ≡ Some node) (free : (get mid h ≡ None) × (get mid c ≡ None) × (h ≢ c)) (koid : Koid) (first seen count : ℕ)
      (is : get slots ≡ paired (get mid) k node h c a.lists koid first seen count) where
    pub pair_nodes : (was : Node) → nodes_of v k ≡ Some was → get slots ≡ paired (nodes_of v) k was h c v.lists koid first seen count
    pair_nodes = subst (λ (v : Arena). (was : Node) → nodes_of v k ≡ Some was → get slots ≡ paired (nodes_of v) k was h c v.lists koid first seen count) view
        (λ was there. is ∙ λ i. paired (alike i) k (some_same (sym at ∙ (ap (λ (map : Nodes). map k) alike ∙ there)) i) h c a.lists koid first seen count)

    pub pair_after : IsSomeAnd (nodes_of v k) (λ node. IsSome node.koid × (first + seen ≤ node.count)) → seen ≤ count → slots.capacity ≡ mid.capacity →
        (h < slots.capacity) × (c < slots.capacity) → IsAfter v (record { nodes = slots; lists = a.lists + 2; hidden = a.hidden + 1 }) More More
    pair_after leaf short room within =
        let first_step = grown a arena mid more alike in
        let here = sym (ap (λ (map : Nodes). map k) alike) ∙ at in
        let seen_leaf = rw here at (rw (← view) at leaf) in
        let second_step = paired_after (record a { nodes = mid }) first_step.arena slots k h c node at seen_leaf.0 free.0 free.1 free.2 koid first seen count seen_leaf.1 short
        (omega (arith, room)) within.0 within.1 is in
        after_seen view (record {
          arena = second_step.arena;
          hidden = omega (arith, first_step.hidden, second_step.hidden);
          visible = omega (arith, first_step.visible, second_step.visible);
        })

-- ---- a leaf is spliced out

pub spliced_is : (nodes : Nodes) (k h s : ℕ) (parent sibling new : Node) → new ≡ lifted parent sibling →
    with_key (without_key (without_key (relinked nodes parent.parent h s) h) k) s new ≡ spliced nodes k h s parent sibling
unfolding spliced
spliced_is nodes k h s parent sibling new is = λ i. with_key (without_key (without_key (relinked nodes parent.parent h s) h) k) s (is i)

-- a node has one family, whatever the family makes of the nodes
pub family_same : (make : (h s : ℕ) (parent sibling : Node) → Nodes) (nodes : Nodes) (k h g s r : ℕ) (node was parent above sibling other : Node) →
    AreFamily nodes k h s node parent sibling → AreFamily nodes k g r was above other → make h s parent sibling ≡ make g r above other
family_same make nodes k h g s r node was parent above sibling other one two =
    let up = link_same (sym one.parent_is ∙ (ap (λ (x : Node). x.parent) (some_same (sym one.at ∙ two.at)) ∙ two.parent_is)) in
    let beside = link_same (sym one.sibling_is ∙ two.sibling_is) in
    let parents = some_same (sym one.parent_at ∙ (ap nodes up ∙ two.parent_at)) in
    let siblings = some_same (sym one.sibling_at ∙ (ap nodes beside ∙ two.sibling_at)) in
    λ i. make (up i) (beside i) (parents i) (siblings i)

module _ (a : Inside) (arena : IsArena a) (v : Arena) (view : arena_of a ≡ v) (k h s : ℕ) (node parent sibling : Node) (family : AreFamily (get a.nodes) k h s node parent sibling) where
  pub some_hidden : 1 ≤ a.hidden
  unfolding hidden_count
  some_hidden =
      let above = parent_is_hidden (get a.nodes) a.lists arena.forest.rank arena.forest.by k h s node parent sibling family in
      omega (arith, arena.hidden, entry_count_hit a.nodes.capacity is_hidden (get a.nodes) h parent (arena.held h (ap is_some family.parent_at)) family.parent_at (ap is_none above))

  pub sibling_apart : (s ≢ k) × (s ≢ h)
  sibling_apart = (
    s_k (get a.nodes) a.lists arena.forest.rank arena.forest.by k h s node parent sibling family,
    s_h (get a.nodes) a.lists arena.forest.rank arena.forest.by k h s node parent sibling family,
  )

  module _ (slots : Slab Node) (is : get slots ≡ spliced (get a.nodes) k h s parent sibling) where
    pub splice_nodes : (g r : ℕ) (was above other : Node) → AreFamily (nodes_of v) k g r was above other → get slots ≡ spliced (nodes_of v) k g r above other
    splice_nodes g r was above other = subst (λ (v : Arena). AreFamily (nodes_of v) k g r was above other → get slots ≡ spliced (nodes_of v) k g r above other) view
        (λ two. is ∙ family_same (spliced (get a.nodes) k) (get a.nodes) k h g s r node was parent above sibling other family two)

    pub splice_after : IsSomeAnd (nodes_of v k) (λ node. IsSome node.koid × IsSome node.parent) → slots.capacity ≡ a.nodes.capacity →
        IsAfter v (record a { nodes = slots; hidden = a.hidden - 1 }) Less Less
    splice_after leaf room =
        let is_leaf = rw (family.at) at (rw (← view) at leaf) in
        after_seen view (spliced_after a arena slots k h s node parent sibling family is_leaf.0 room is)
