-- The nodes stay a forest where one gets another count or window, and where a root comes or goes.
use Rattle.cow_arena.proofs.Words.{◌≡◌, ◌≢◌, ℕ, ◌+◌, ◌<◌, ◌≤◌, cond, Option, None, Some, ◌⊎◌, refl, sym, ap, subst, ◌∙◌, inl, inr, arith}
use Rattle.cow_arena.proofs.Words.{◌==◌, IsSome, IsSomeAnd, is_some, cases_eq, with_key, without_key, eqb_same, eqb_apart, some_same}
use Rattle.cow_arena.proofs.Words.{with_key-here, with_key-other, with_key-cases, without_key-some, without_key-other, Koid, NodeId, Node}
use Rattle.cow_arena.proofs.Words.{Nodes, link_to, node_above, IsForest, IsForestBy, HasPair, IsChild, HasAsChild, root_node}
use Rattle.cow_arena.proofs.LinkLaws.{node_above-root, node_above-child}

-- what is required of a value that is there
pub some_and : {A : Type 0} (o : Option A) (P : A → Type 0) → IsSomeAnd o P → (a : A) × (o ≡ Some a) × P a
some_and None P h = absurd h
some_and (Some a) P h = (a, refl, h)

-- what is there is not a free key
pub held_apart : (nodes : Nodes) (n k : ℕ) (a : Node) → nodes n ≡ Some a → nodes k ≡ None → n ≢ k
held_apart nodes n k a here free same = absurd (let no : ◌≡◌ {A = Option Node} None (Some a) = sym free ∙ (ap nodes (sym same) ∙ here) in cc)

-- a node with a koid is none without
pub kinds_apart : (nodes : Nodes) (n k : ℕ) (a b : Node) → nodes n ≡ Some a → nodes k ≡ Some b → a.koid ≡ None → IsSome b.koid → n ≢ k
kinds_apart nodes n k a b here there hidden visible same =
    let one = ap (λ (x : Node). is_some x.koid) (some_same (sym there ∙ (ap nodes (sym same) ∙ here))) in
    absurd (let no = sym visible ∙ (one ∙ ap is_some hidden) in cc)

-- a node with a parent is none without
pub roots_apart : (nodes : Nodes) (n k h : ℕ) (a b : Node) → nodes n ≡ Some a → nodes k ≡ Some b → a.parent ≡ link_to h → b.parent ≡ None → n ≢ k
roots_apart nodes n k h a b here there child root same =
    let one = ap (λ (x : Node). x.parent) (some_same (sym there ∙ (ap nodes (sym same) ∙ here))) in
    absurd (let no : ◌≡◌ {A = Option NodeId} None (link_to h) = sym root ∙ (one ∙ child) in cc)

-- a node has its pair of children as long as both are its children
pub pair_stays : {nodes now : Nodes} {n : ℕ} {a b : Node} → b.left ≡ a.left → b.right ≡ a.right → ((l : ℕ) → IsChild nodes n l → IsChild now n l) →
    HasPair nodes n a → HasPair now n b
pair_stays left right stays pair = record {
  left = pair.left;
  right = pair.right;
  left_is = left ∙ pair.left_is;
  right_is = right ∙ pair.right_is;
  apart = pair.apart;
  left_child = stays pair.left pair.left_child;
  right_child = stays pair.right pair.right_child;
}

-- and it stays below a parent that stays as it is
pub below_same : {nodes now : Nodes} {rank after : ℕ → ℕ} {h n : ℕ} {a : Node} (up : HasAsChild nodes rank h n a) → now h ≡ Some up.above →
    after h < after n → HasAsChild now after h n a
below_same up at deeper = record { above = up.above; at = at; hidden = up.hidden; side = up.side; window = up.window; deeper = deeper }

-- without nodes there is a forest
pub no_nodes : (rank : ℕ → ℕ) → IsForestBy (λ k. None) 0 rank
no_nodes rank = record {
  leaves = λ k node v. absurd (let no = v.at in cc);
  pairs = λ k node at hidden. absurd (cc);
  below = λ h k node at parent. absurd (cc);
  own = λ j k a b at other same. absurd (cc);
  given = λ k node at. absurd (cc);
  ranks = λ k node at. absurd (cc);
  seen = λ k node at. absurd (cc);
  empty = λ k node at none. absurd (cc);
  root = λ k node at none. absurd (cc);
}

-- ---- another count or window

-- the new node has the place of the old one
pub record SamePlace (old new : Node) : Type 0 where
  pub koid : new.koid ≡ old.koid
  pub parent : new.parent ≡ old.parent
  pub left : new.left ≡ old.left
  pub right : new.right ≡ old.right
  pub list : new.list.0 ≡ old.list.0

-- the node fits as it is
pub record IsFit (nodes : Nodes) (node : Node) : Type 0 where
  pub seen : node.seen ≤ node.count
  pub empty : node.seen ≡ 0 → node.first ≡ 0
  pub root : node.parent ≡ None → node.seen ≡ 0
  pub window : (h : ℕ) (above : Node) → node.parent ≡ link_to h → nodes h ≡ Some above → node.first + node.seen ≤ above.count

-- a window that is given to a node with a parent
pub fits_window : (nodes : Nodes) (k : ℕ) (node : Node) (first seen : ℕ) → nodes k ≡ Some node → IsSomeAnd (nodes k) (λ node. seen ≤ node.count) →
    IsSomeAnd (node_above nodes k) (λ parent. first + seen ≤ parent.count) → (seen ≡ 0 → first ≡ 0) → IsFit nodes (record node { first = first; seen = seen })
fits_window nodes k node first seen at short inside empty = record {
  seen = rw at at short;
  empty = empty;
  root = λ none. absurd (rw (node_above-root nodes k node at none) at inside);
  window = λ h above child there. rw (node_above-child nodes h k node at child, there) at inside;
}

-- a count that is given to a node
pub fits_count : (nodes : Nodes) (lists : ℕ) (f : IsForest nodes lists) (k : ℕ) (node : Node) (count : ℕ) → nodes k ≡ Some node → node.seen ≤ count → IsFit nodes (record node { count = count })
fits_count nodes lists f k node count at short = record {
  seen = short;
  empty = f.by.empty k node at;
  root = f.by.root k node at;
  window = λ h above child there. let up = f.by.below h k node at child in
      omega (arith, up.window, ap (λ (x : Node). x.count) (some_same (sym up.at ∙ there)));
}

module _ (nodes : Nodes) (lists : ℕ) (rank : ℕ → ℕ) (f : IsForestBy nodes lists rank) (k : ℕ) (node new : Node) (at : nodes k ≡ Some node) (place : SamePlace node new)
    (keeps : (new.count ≡ node.count) ⊎ IsSome node.koid) (fits : IsFit nodes new) where
  abbrev now : Nodes
  now = with_key nodes k new

  -- what holds of the new one and of each that was there holds of each
  each_now : (P : Node → Type 0) → P new → ((n : ℕ) (a : Node) → nodes n ≡ Some a → P a) → (n : ℕ) (b : Node) → now n ≡ Some b → P b
  each_now P here there n b e = elim (with_key-cases nodes k new n b e) [
    | inl h ↦ subst P h.1 here
    | inr h ↦ there n b h.1
  ]

  -- each node has the place of one that was there
  was : (n : ℕ) (b : Node) → now n ≡ Some b → (a : Node) × (nodes n ≡ Some a) × SamePlace a b
  was n b e = elim (with_key-cases nodes k new n b e) [
    | inl h ↦ (node, ap nodes h.0 ∙ at, subst (SamePlace node) h.1 place)
    | inr h ↦ (b, h.1, record { koid = refl; parent = refl; left = refl; right = refl; list = refl })
  ]

  -- and each that was there has its place, and its count where it is hidden
  stays : (n : ℕ) (a : Node) → nodes n ≡ Some a → (b : Node) × (now n ≡ Some b) × SamePlace a b × (a.koid ≡ None → b.count ≡ a.count)
  stays n a e = elim (cases_eq n k) [
    | inl same ↦
        let one = some_same (sym at ∙ (ap nodes (sym same) ∙ e)) in
        (new, with_key-here nodes k new n same, subst (λ (x : Node). SamePlace x new) one place, λ hidden. counts a one hidden keeps)
    | inr apart ↦ (a, with_key-other nodes k new n apart ∙ e, record { koid = refl; parent = refl; left = refl; right = refl; list = refl }, λ hidden. refl)
  ]
    where
      counts : (a : Node) → node ≡ a → a.koid ≡ None → (new.count ≡ node.count) ⊎ IsSome node.koid → new.count ≡ a.count
      counts a one hidden (inl kept) = kept ∙ ap (λ (x : Node). x.count) one
      counts a one hidden (inr visible) = absurd (let no = sym visible ∙ (ap (λ (x : Node). is_some x.koid) one ∙ ap is_some hidden) in cc)

  child_stays : (h n : ℕ) → IsChild nodes h n → IsChild now h n
  child_stays h n child = let b = stays n child.node child.at in record { node = b.0; at = b.1; parent = b.2.parent ∙ child.parent }

  below_stays : (h n : ℕ) (b : Node) → HasAsChild nodes rank h n b → HasAsChild now rank h n b
  below_stays h n b up = let above = stays h up.above up.at in record {
    above = above.0;
    at = above.1;
    hidden = above.2.koid ∙ up.hidden;
    side = elim up.side [ inl left ↦ inl (above.2.left ∙ left) | inr right ↦ inr (above.2.right ∙ right) ];
    window = omega (arith, up.window, above.3 up.hidden);
    deeper = up.deeper;
  }

  below_now : (h n : ℕ) (b : Node) → now n ≡ Some b → b.parent ≡ link_to h → HasAsChild now rank h n b
  below_now h n b e parent = elim (with_key-cases nodes k new n b e) [
    | inl is ↦
        let child = ap (λ (x : Node). x.parent) is.1 ∙ parent in
        let up = f.below h n node (ap nodes is.0 ∙ at) (sym place.parent ∙ child) in
        subst (HasAsChild now rank h n) is.1 (below_stays h n new (record {
          above = up.above;
          at = up.at;
          hidden = up.hidden;
          side = up.side;
          window = fits.window h up.above child up.at;
          deeper = up.deeper;
        }))
    | inr is ↦ below_stays h n b (f.below h n b is.1 parent)
  ]

  pub resized_by : IsForestBy now lists rank
  resized_by = record {
    leaves = λ n b v. let w = was n b v.at in
        let ends = f.leaves n w.0 (record { at = w.1; koid = ap is_some (sym w.2.koid) ∙ v.koid }) in (w.2.left ∙ ends.0, w.2.right ∙ ends.1);
    pairs = λ n b e hidden. let w = was n b e in pair_stays w.2.left w.2.right (child_stays n) (f.pairs n w.0 w.1 (sym w.2.koid ∙ hidden));
    below = below_now;
    own = λ i j a b e g same. let v = was i a e in let w = was j b g in f.own i j v.0 w.0 v.1 w.1 (sym v.2.list ∙ same ∙ w.2.list);
    given = λ n b e. let w = was n b e in omega (arith, f.given n w.0 w.1, w.2.list);
    ranks = λ n b e. let w = was n b e in f.ranks n w.0 w.1;
    seen = each_now (λ (x : Node). x.seen ≤ x.count) fits.seen f.seen;
    empty = each_now (λ (x : Node). x.seen ≡ 0 → x.first ≡ 0) fits.empty f.empty;
    root = each_now (λ (x : Node). x.parent ≡ None → x.seen ≡ 0) fits.root f.root;
  }

-- ---- a root comes

module _ (nodes : Nodes) (lists : ℕ) (rank : ℕ → ℕ) (f : IsForestBy nodes lists rank) (k : ℕ) (free : nodes k ≡ None) (koid : Koid) (count : ℕ) where
  abbrev with_root : Nodes
  with_root = with_key nodes k (root_node koid lists count)

  abbrev pub root_rank : ℕ → ℕ
  root_rank n = cond (n == k) 0 (rank n)

  rank_stays : (n : ℕ) (a : Node) → nodes n ≡ Some a → root_rank n ≡ rank n
  rank_stays n a e = rw (eqb_apart n k (held_apart nodes n k a e free)) refl

  held_stays : (n : ℕ) (a : Node) → nodes n ≡ Some a → with_root n ≡ Some a
  held_stays n a e = with_key-other nodes k (root_node koid lists count) n (held_apart nodes n k a e free) ∙ e

  each_rooted : (P : ℕ → Node → Type 0) → P k (root_node koid lists count) → ((n : ℕ) (a : Node) → nodes n ≡ Some a → P n a) → (n : ℕ) (b : Node) → with_root n ≡ Some b → P n b
  each_rooted P here there n b e = elim (with_key-cases nodes k (root_node koid lists count) n b e) [
    | inl h ↦ subst (λ (m : ℕ). P m b) (sym h.0) (subst (P k) h.1 here)
    | inr h ↦ there n b h.1
  ]

  child_held : (h n : ℕ) → IsChild nodes h n → IsChild with_root h n
  child_held h n child = record { node = child.node; at = held_stays n child.node child.at; parent = child.parent }

  below_held : (h n : ℕ) (a : Node) → nodes n ≡ Some a → HasAsChild nodes rank h n a → HasAsChild with_root root_rank h n a
  below_held h n a e up = below_same up (held_stays h up.above up.at) (omega (arith, up.deeper, rank_stays n a e, rank_stays h up.above up.at))

  pub rooted_by : IsForestBy with_root (lists + 1) root_rank
  rooted_by = record {
    leaves = λ n b v. each_rooted (λ n b. IsSome b.koid → (b.left ≡ None) × (b.right ≡ None)) (λ some. (refl, refl))
        (λ n a e some. f.leaves n a (record { at = e; koid = some })) n b v.at v.koid;
    pairs = each_rooted (λ n b. b.koid ≡ None → HasPair with_root n b) (λ hidden. absurd (cc)) (λ n a e hidden. pair_stays refl refl (child_held n) (f.pairs n a e hidden));
    below = λ h. each_rooted (λ n b. b.parent ≡ link_to h → HasAsChild with_root root_rank h n b) (λ child. absurd (cc))
        (λ n a e child. below_held h n a e (f.below h n a e child));
    own = λ i j a b e g same. each_rooted (λ i a. a.list.0 ≡ b.list.0 → i ≡ j)
        (each_rooted (λ j b. ◌≡◌ {A = ℕ} lists b.list.0 → k ≡ j) (λ same. refl) (λ j b g same. absurd (omega (arith, f.given j b g))) j b g)
        (λ i a e. each_rooted (λ j b. a.list.0 ≡ b.list.0 → i ≡ j) (λ same. absurd (omega (arith, f.given i a e))) (λ j b g same. f.own i j a b e g same) j b g) i a e same;
    given = each_rooted (λ n b. b.list.0 < lists + 1) (omega arith) (λ n a e. omega (arith, f.given n a e));
    ranks = each_rooted (λ n b. root_rank n < lists + 1) (rw (eqb_same k) (omega arith)) (λ n a e. omega (arith, f.ranks n a e, rank_stays n a e));
    seen = each_rooted (λ n b. b.seen ≤ b.count) (omega arith) f.seen;
    empty = each_rooted (λ n b. b.seen ≡ 0 → b.first ≡ 0) (λ none. refl) f.empty;
    root = each_rooted (λ n b. b.parent ≡ None → b.seen ≡ 0) (λ none. refl) f.root;
  }

-- ---- a root goes

module _ (nodes : Nodes) (lists : ℕ) (rank : ℕ → ℕ) (f : IsForestBy nodes lists rank) (k : ℕ) (node : Node) (at : nodes k ≡ Some node) (koid : IsSome node.koid) (root : node.parent ≡ None) where
  abbrev less_root : Nodes
  less_root = without_key nodes k

  kept : (n : ℕ) (a : Node) → less_root n ≡ Some a → nodes n ≡ Some a
  kept n a e = (without_key-some nodes k n a e).1

  child_kept : (h n : ℕ) → IsChild nodes h n → IsChild less_root h n
  child_kept h n child = record {
    node = child.node;
    at = without_key-other nodes k n (roots_apart nodes n k h child.node node child.at at child.parent root) ∙ child.at;
    parent = child.parent;
  }

  below_kept : (h n : ℕ) (a : Node) → HasAsChild nodes rank h n a → HasAsChild less_root rank h n a
  below_kept h n a up = below_same up (without_key-other nodes k h (kinds_apart nodes h k up.above node up.at at up.hidden koid) ∙ up.at) up.deeper

  pub unrooted_by : IsForestBy less_root lists rank
  unrooted_by = record {
    leaves = λ n b v. f.leaves n b (record { at = kept n b v.at; koid = v.koid });
    pairs = λ n b e hidden. pair_stays refl refl (child_kept n) (f.pairs n b (kept n b e) hidden);
    below = λ h n b e child. below_kept h n b (f.below h n b (kept n b e) child);
    own = λ i j a b e g same. f.own i j a b (kept i a e) (kept j b g) same;
    given = λ n b e. f.given n b (kept n b e);
    ranks = λ n b e. f.ranks n b (kept n b e);
    seen = λ n b e. f.seen n b (kept n b e);
    empty = λ n b e. f.empty n b (kept n b e);
    root = λ n b e. f.root n b (kept n b e);
  }
