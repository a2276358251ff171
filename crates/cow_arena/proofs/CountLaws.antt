-- How many nodes are hidden, visible, and without a parent, after each change.
use Rattle.cow_arena.proofs.Words.{◌≡◌, ◌≢◌, ℕ, zero, suc, ◌+◌, ◌<◌, ◌≤◌, Bool, false, cond, Option, None, Some, refl, sym, ap, ◌∙◌, inl}
use Rattle.cow_arena.proofs.Words.{inr, arith, IsSome, is_some, is_none, option_map, cases_lt, lt-ltb, false_from_ne_true, get, with_key}
use Rattle.cow_arena.proofs.Words.{without_key, passes, entry_count, count_below_gap, bit_same, passes-some, passes_found, with_key-same}
use Rattle.cow_arena.proofs.Words.{with_key-other, entry_count-change, entry_count-same, entry_count-with_key, entry_count-without_key}
use Rattle.cow_arena.proofs.Words.{entry_count_hit, any_entry_found, any_entry-count, without_key-other, Koid, NodeId, Node, Nodes}
use Rattle.cow_arena.proofs.Words.{IsForestBy, moved_link, relinked, paired, spliced, hidden_over, below_hidden, snapshot_node, lifted}
use Rattle.cow_arena.proofs.Words.{visible_count, HasFewerHidden, arena_of, root_count, IsArena}
use Rattle.cow_arena.specs.declared.arena.CowArena.TheInside.{Inside}
use Rattle.cow_arena.proofs.LinkLaws.{moved, relinked_at}
use Rattle.cow_arena.proofs.ForestLaws.{held_apart}

-- what the counts ask of a node
abbrev pub is_hidden : Node → Bool
is_hidden node = is_none node.koid

abbrev pub is_visible : Node → Bool
is_visible node = is_some node.koid

abbrev pub is_root : Node → Bool
is_root node = is_none node.parent

-- what has a koid is not hidden
pub is_none-some : {A : Type 0} (o : Option A) → IsSome o → is_none o ≡ false
is_none-some None h = absurd cc
is_none-some (Some a) h = refl

-- more keys, none of which is held
pub entry_count-room : (m n : ℕ) (test : Node → Bool) (nodes : Nodes) → ((k : ℕ) → IsSome (nodes k) → k < m) → m ≤ n → entry_count n test nodes ≡ entry_count m test nodes
unfolding entry_count
entry_count-room m n test nodes held more = count_below_gap m n (λ k. passes test (nodes k)) more (λ k past within. false_from_ne_true (passes test (nodes k)) (λ e.
    let found = passes_found test (nodes k) e in
    absurd (omega (arith, held k (ap is_some found.1)))))

-- a node counts as it did where the test says the same of it
pub entry_count-kept : (bound : ℕ) (test : Node → Bool) (nodes : Nodes) (k : ℕ) (node new : Node) → k < bound → nodes k ≡ Some node → test new ≡ test node →
    entry_count bound test (with_key nodes k new) ≡ entry_count bound test nodes
entry_count-kept bound test nodes k node new h at same =
    let change = entry_count-change bound test nodes (with_key nodes k new) k h (λ n apart. with_key-other nodes k new n apart) in
    let bit = bit_same (passes test (nodes k)) (passes test (with_key nodes k new k))
    (passes-some test (nodes k) node at ∙ (sym same ∙ sym (passes-some test (with_key nodes k new k) new (with_key-same nodes k new)))) in
    omega (arith, change, bit)

-- one node counts for another
pub entry_count-put : (bound : ℕ) (test : Node → Bool) (nodes : Nodes) (k : ℕ) (node new : Node) → k < bound → nodes k ≡ Some node →
    entry_count bound test (with_key nodes k new) + cond (test node) 1 0 ≡ entry_count bound test nodes + cond (test new) 1 0
entry_count-put bound test nodes k node new h at =
    let change = entry_count-change bound test nodes (with_key nodes k new) k h (λ n apart. with_key-other nodes k new n apart) in
    let was = bit_same (passes test (nodes k)) (test node) (passes-some test (nodes k) node at) in
    let is = bit_same (passes test (with_key nodes k new k)) (test new) (passes-some test (with_key nodes k new k) new (with_key-same nodes k new)) in
    omega (arith, change, was, is)

pub entry_count-gone : (bound : ℕ) (test : Node → Bool) (nodes : Nodes) (k : ℕ) (node : Node) → k < bound → nodes k ≡ Some node →
    entry_count bound test (without_key nodes k) + cond (test node) 1 0 ≡ entry_count bound test nodes
entry_count-gone bound test nodes k node h at =
    let less = entry_count-without_key bound test nodes k h in
    let was = bit_same (passes test (nodes k)) (test node) (passes-some test (nodes k) node at) in
    omega (arith, less, was)

-- ---- some node has no parent

module _ (nodes : Nodes) (lists : ℕ) (rank : ℕ → ℕ) (f : IsForestBy nodes lists rank) where
  -- the node without a parent at the top of the way up from a node
  root_above : (n k : ℕ) (node : Node) → nodes k ≡ Some node → rank k < n → (r : ℕ) × (root : Node) × (nodes r ≡ Some root) × (root.parent ≡ None)
  root_above zero k node at low = absurd (omega arith)
  root_above (suc n) k node at low = by_parent (λ h above held deeper. root_above n h above held deeper) node.parent refl
    where
      by_parent : ((h : ℕ) (above : Node) → nodes h ≡ Some above → rank h < n → (r : ℕ) × (root : Node) × (nodes r ≡ Some root) × (root.parent ≡ None)) →
          (parent : Option NodeId) → node.parent ≡ parent → (r : ℕ) × (root : Node) × (nodes r ≡ Some root) × (root.parent ≡ None)
      by_parent further None e = (k, node, at, e)
      by_parent further (Some h) e = let up = f.below h.0 k node at e in further h.0 up.above up.at (omega (arith, up.deeper))

-- where some node is visible, some node has no parent
pub some_root : (a : Inside) → IsArena a → 0 < visible_count (arena_of a) → 0 < root_count (arena_of a)
unfolding visible_count root_count
some_root a i some =
    let bound = a.nodes.capacity in
    let nodes = get a.nodes in
    let found = any_entry_found bound is_visible nodes (any_entry-count bound is_visible nodes ∙ lt-ltb 0 _ some) in
    let root = root_above nodes a.lists i.forest.rank i.forest.by (suc (i.forest.rank found.0)) found.0 found.1 found.3 (omega arith) in
    entry_count_hit bound is_root nodes root.0 root.1 (i.held root.0 (ap is_some root.2)) root.2 (ap is_none root.3)

pub fewer_hidden : (a : Inside) → IsArena a → HasFewerHidden (arena_of a)
fewer_hidden a i = elim (cases_lt 0 (visible_count (arena_of a))) [
  | inl some ↦ inl (omega (arith, i.balance, some_root a i some))
  | inr none ↦ inr (omega (arith, i.balance), omega arith)
]

-- ---- the nodes after a snapshot, and after one was taken away

-- the test does not ask of the children
pub record IsDeaf (test : Node → Bool) : Type 0 where
  pub same : (node : Node) (left right : Option NodeId) → test (record node { left = left; right = right }) ≡ test node

module _ (nodes : Nodes) (lists : ℕ) (rank : ℕ → ℕ) (f : IsForestBy nodes lists rank) (bound : ℕ) (test : Node → Bool) (deaf : IsDeaf test) where
  passes_moved : (k j : ℕ) (entry : Option Node) → passes test (option_map (moved k j) entry) ≡ passes test entry
  unfolding passes
  passes_moved k j None = refl
  passes_moved k j (Some a) = deaf.same a (moved_link k j a.left) (moved_link k j a.right)

  relinked_count : (k j : ℕ) (node : Node) → nodes k ≡ Some node → entry_count bound test (relinked nodes node.parent k j) ≡ entry_count bound test nodes
  relinked_count k j node at = entry_count-same bound test (relinked nodes node.parent k j) test nodes
      (λ n h. ap (passes test) (relinked_at nodes lists rank f k node at j n) ∙ passes_moved k j (nodes n))

  pub paired_count : (k h c : ℕ) (node : Node) → nodes k ≡ Some node → nodes h ≡ None → nodes c ≡ None → h ≢ c → k < bound → h < bound → c < bound →
      (koid : Koid) (first seen count : ℕ) →
      entry_count bound test (paired nodes k node h c lists koid first seen count) + cond (test node) 1 0
      ≡ entry_count bound test nodes + cond (test (hidden_over node k c)) 1 0 + cond (test (below_hidden node h lists)) 1 0
      + cond (test (snapshot_node koid h (lists + 1) first seen count)) 1 0
  unfolding paired
  paired_count k h c node at free_h free_c apart hk hh hc koid first seen count =
      let hidden = hidden_over node k c in
      let below = below_hidden node h lists in
      let snapshot = snapshot_node koid h (lists + 1) first seen count in
      let linked = relinked nodes node.parent k h in
      let linked_at = λ (n : ℕ) (entry : Option Node) (e : nodes n ≡ entry). relinked_at nodes lists rank f k node at h n ∙ ap (option_map (moved k h)) e in
      let one = with_key linked h hidden in
      let two = with_key one k below in
      let kh = held_apart nodes k h node at free_h in
      let kc = held_apart nodes k c node at free_c in
      let at_k : one k ≡ Some (moved k h node) = with_key-other linked h hidden k kh ∙ linked_at k (Some node) at in
      let at_c : two c ≡ None = with_key-other one k below c (λ e. kc (sym e)) ∙ (with_key-other linked h hidden c (λ e. apart (sym e)) ∙ linked_at c None free_c) in
      let test_moved = bit_same (test (moved k h node)) (test node) (deaf.same node _ _) in
      omega (
        arith,
        relinked_count k h node at,
        entry_count-with_key bound test linked h hidden hh (linked_at h None free_h),
        entry_count-put bound test one k (moved k h node) below hk at_k,
        test_moved,
        entry_count-with_key bound test two c snapshot hc at_c,
      )

  pub spliced_count : (k h s : ℕ) (node parent sibling : Node) → nodes k ≡ Some node → nodes h ≡ Some parent → nodes s ≡ Some sibling → k ≢ h → s ≢ k → s ≢ h → k < bound → h < bound → s < bound →
      entry_count bound test (spliced nodes k h s parent sibling) + cond (test node) 1 0 + cond (test parent) 1 0 + cond (test sibling) 1 0
      ≡ entry_count bound test nodes + cond (test (lifted parent sibling)) 1 0
  unfolding spliced
  spliced_count k h s node parent sibling at_k at_h at_s kh sk sh hk hh hs =
      let new = lifted parent sibling in
      let linked = relinked nodes parent.parent h s in
      let linked_at = λ (n : ℕ) (a : Node) (e : nodes n ≡ Some a). relinked_at nodes lists rank f h parent at_h s n ∙ ap (option_map (moved h s)) e in
      let one = without_key linked h in
      let two = without_key one k in
      let one_k : one k ≡ Some (moved h s node) = without_key-other linked h k kh ∙ linked_at k node at_k in
      let two_s : two s ≡ Some (moved h s sibling) = without_key-other one k s sk ∙ (without_key-other linked h s sh ∙ linked_at s sibling at_s) in
      let moved_h = bit_same (test (moved h s parent)) (test parent) (deaf.same parent _ _) in
      let moved_k = bit_same (test (moved h s node)) (test node) (deaf.same node _ _) in
      let moved_s = bit_same (test (moved h s sibling)) (test sibling) (deaf.same sibling _ _) in
      omega (
        arith,
        relinked_count h s parent at_h,
        entry_count-gone bound test linked h (moved h s parent) hh (linked_at h parent at_h),
        moved_h,
        entry_count-gone bound test one k (moved h s node) hk one_k,
        moved_k,
        entry_count-put bound test two s (moved h s sibling) new hs two_s,
        moved_s,
      )
