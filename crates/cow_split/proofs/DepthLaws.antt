-- No way up from a node has more nodes than one and the hidden ones of the arena.
use Rattle.cow_split.proofs.Words.{◌≡◌, ℕ, zero, suc, ◌+◌, ◌<◌, ◌≤◌, Bool, true, false, ◌&&◌, ◌||◌, ◌==◌, Option, None, Some, refl, ap, ◌∙◌}
use Rattle.cow_split.proofs.Words.{inl, inr, arith, IsSome, is_some, is_none, nat_lt, and_parts, and_from, or_cases, lt-ltb, ltb-true}
use Rattle.cow_split.proofs.Words.{false_from_ne_true, passes, entry_count, eqb_same, eqb_apart, eqb_is, count_below_less}
use Rattle.cow_split.proofs.Words.{count_below_one_more, passes-some, NodeId, Node, Arena, Nodes, nodes_of, link_to, parent_node_in}
use Rattle.cow_split.proofs.Words.{IsForest, IsForestBy, nodes_up, depth}
use Rattle.vm_base.specs.Search.{count_below}
use Rattle.cow_arena.specs.Counts.{hidden_count}
use Rattle.cow_arena.proofs.CountLaws.{is_hidden}

-- where one test passes only if another does, and not at k, where the other does, fewer pass it
count-fewer : (n k : ℕ) (p q : ℕ → Bool) → k < n → p k ≡ false → q k ≡ true → ((j : ℕ) → p j ≡ true → q j ≡ true) → count_below n p < count_below n q
count-fewer n k p q below miss hit each =
    let also : ℕ → Bool = λ j. (j == k) || p j in
    let more = count_below_one_more n k p also below miss (ap (λ b. b || p k) (eqb_same k)) (λ j apart. ap (λ b. b || p j) (eqb_apart j k apart)) in
    let less = count_below_less n also q (λ j in_range e. elim (or_cases (j == k) (p j) e) [
      | inl same ↦ ap q (eqb_is j k same) ∙ hit
      | inr old ↦ each j old
    ]) in
    omega (arith, more, less)

module _ (nodes : Nodes) (lists : ℕ) (rank : ℕ → ℕ) (f : IsForestBy nodes lists rank) (bound : ℕ) (held : (k : ℕ) → IsSome (nodes k) → k < bound) where
  -- node j is hidden, and its rank is less than r
  abbrev is_over : (r j : ℕ) → Bool
  is_over r j = passes is_hidden (nodes j) && nat_lt (rank j) r

  -- how many hidden nodes have a rank less than r
  abbrev over_count : ℕ → ℕ
  over_count r = count_below bound (is_over r)

  -- the parent of a node is counted for the node, and not for itself
  over-parent : (k h : ℕ) (node : Node) → nodes k ≡ Some node → node.parent ≡ link_to h → over_count (rank h) < over_count (rank k)
  over-parent k h node at parent =
      let up = f.below h k node at parent in
      let hidden : passes is_hidden (nodes h) ≡ true = passes-some is_hidden (nodes h) up.above up.at ∙ ap is_none up.hidden in
      count-fewer bound h (is_over (rank h)) (is_over (rank k)) (held h (ap is_some up.at))
      (false_from_ne_true (is_over (rank h) h) (λ e. let less = ltb-true (rank h) (rank h) (and_parts (passes is_hidden (nodes h)) (nat_lt (rank h) (rank h)) e).1 in absurd (omega arith)))
      (and_from (passes is_hidden (nodes h)) (nat_lt (rank h) (rank k)) hidden (lt-ltb (rank h) (rank k) up.deeper))
      (λ j e.
      let parts = and_parts (passes is_hidden (nodes j)) (nat_lt (rank j) (rank h)) e in
      let less = ltb-true (rank j) (rank h) parts.1 in
      let deeper = up.deeper in
      and_from (passes is_hidden (nodes j)) (nat_lt (rank j) (rank k)) parts.0 (lt-ltb (rank j) (rank k) (omega arith)))

  up-none : (n : ℕ) → nodes_up nodes n None ≡ 0
  unfolding nodes_up
  up-none zero = refl
  up-none (suc n) = refl

  -- a way up has no more nodes than one and the hidden ones whose rank is less than that of its first
  up-over : (n k : ℕ) (node : Node) → nodes k ≡ Some node → nodes_up nodes n (link_to k) ≤ over_count (rank k) + 1
  unfolding nodes_up
  up-over zero k node at = omega arith
  up-over (suc n) k node at =
      let further = by_parent (up-over n) node.parent refl in
      let parent_is : nodes_up nodes n (parent_node_in (nodes k)) ≡ nodes_up nodes n node.parent = ap (λ o. nodes_up nodes n (parent_node_in o)) at in
      omega arith
    where
      by_parent : ((h : ℕ) (above : Node) → nodes h ≡ Some above → nodes_up nodes n (link_to h) ≤ over_count (rank h) + 1) →
          (parent : Option NodeId) → node.parent ≡ parent → nodes_up nodes n parent ≤ over_count (rank k)
      by_parent further None e = omega (arith, up-none n)
      by_parent further (Some h) e =
          let up = f.below h.0 k node at e in
          omega (arith, further h.0 up.above up.at, over-parent k h.0 node at e)

-- no way up from a node has more nodes than one and the hidden ones
pub depth-hidden : (a : Arena) → IsForest (nodes_of a) a.lists → ((k : ℕ) → IsSome (nodes_of a k) → k < a.slots.capacity) →
    (k : ℕ) (node : Node) → nodes_of a k ≡ Some node → depth (nodes_of a) a.lists k ≤ hidden_count a + 1
unfolding hidden_count entry_count
depth-hidden a forest held k node at =
    let nodes = nodes_of a in
    let bound = a.slots.capacity in
    let up = up-over nodes a.lists forest.rank forest.by bound held a.lists k node at in
    let all = count_below_less bound (λ j. passes is_hidden (nodes j) && nat_lt (forest.rank j) (forest.rank k)) (λ j. passes is_hidden (nodes j))
    (λ j below e. (and_parts (passes is_hidden (nodes j)) (nat_lt (forest.rank j) (forest.rank k)) e).0) in
    omega (arith, up, all)
