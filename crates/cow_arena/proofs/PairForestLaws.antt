-- The nodes stay a forest after a snapshot.
use Rattle.cow_arena.proofs.Words.{◌≡◌, ◌≢◌, ℕ, ◌+◌, ◌<◌, ◌≤◌, Bool, true, false, cond, Option, None, Some, ◌⊎◌, refl, sym, ap, subst, ◌∙◌}
use Rattle.cow_arena.proofs.Words.{inl, inr, arith, ◌==◌, IsSome, is_some, option_map, cases_eq, eqb_same, eqb_apart, some_same, some_is}
use Rattle.cow_arena.proofs.Words.{with_key-same, with_key-other, Koid, Node, Nodes, link_to, IsForestBy, HasPair, IsChild, HasAsChild}
use Rattle.cow_arena.proofs.Words.{window_first, moved_link, paired, hidden_over, below_hidden, snapshot_node}
use Rattle.cow_arena.proofs.WalkLaws.{link_same}
use Rattle.cow_arena.proofs.LinkLaws.{moved, moved_key, moved_key-here, moved_key-other, moved_key-apart, moved_link-none, moved_link-to}
use Rattle.cow_arena.proofs.LinkLaws.{moved_link-here, moved_link-other, relinked_at}
use Rattle.cow_arena.proofs.ForestLaws.{held_apart, kinds_apart}

-- a window without pages begins at 0, and still ends where it may
pub window_fits : (first seen n : ℕ) → first + seen ≤ n → window_first first seen + seen ≤ n
window_fits first seen n h = by_test (seen == 0)
  where
    by_test : (b : Bool) → cond b 0 first + seen ≤ n
    by_test true = omega arith
    by_test false = h

pub window_empty : (first seen : ℕ) → seen ≡ 0 → window_first first seen ≡ 0
window_empty first seen none = rw none refl

module _ (nodes : Nodes) (lists : ℕ) (rank : ℕ → ℕ) (f : IsForestBy nodes lists rank) (k h c : ℕ) (node : Node) (at : nodes k ≡ Some node) (visible : IsSome node.koid)
    (free_h : nodes h ≡ None) (free_c : nodes c ≡ None) (apart : h ≢ c) (koid : Koid) (first seen count : ℕ) (window : first + seen ≤ node.count) (short : seen ≤ count) where
  abbrev pub hidden_at : Node
  hidden_at = hidden_over node k c

  abbrev pub below_at : Node
  below_at = below_hidden node h lists

  abbrev pub snapshot_at : Node
  snapshot_at = snapshot_node koid h (lists + 1) first seen count

  abbrev pub now : Nodes
  now = paired nodes k node h c lists koid first seen count

  k_h : k ≢ h
  k_h = held_apart nodes k h node at free_h

  k_c : k ≢ c
  k_c = held_apart nodes k c node at free_c

  -- ---- the nodes one by one

  at_c : now c ≡ Some snapshot_at
  unfolding paired
  at_c = with_key-same _ c snapshot_at

  at_k : now k ≡ Some below_at
  unfolding paired
  at_k = with_key-other _ c snapshot_at k k_c ∙ with_key-same _ k below_at

  at_h : now h ≡ Some hidden_at
  unfolding paired
  at_h = with_key-other _ c snapshot_at h apart ∙ (with_key-other _ k below_at h (λ e. k_h (sym e)) ∙ with_key-same _ h hidden_at)

  at_other : (n : ℕ) → n ≢ h → n ≢ k → n ≢ c → now n ≡ option_map (moved k h) (nodes n)
  unfolding paired
  at_other n n_h n_k n_c = with_key-other _ c snapshot_at n n_c ∙ (with_key-other _ k below_at n n_k ∙ (with_key-other _ h hidden_at n n_h ∙ relinked_at nodes lists rank f k node at h n))

  -- a node that was there, other than k, has its links moved
  held_now : (n : ℕ) (a : Node) → n ≢ k → nodes n ≡ Some a → now n ≡ Some (moved k h a)
  held_now n a n_k e = at_other n (held_apart nodes n h a e free_h) n_k (held_apart nodes n c a e free_c) ∙ ap (option_map (moved k h)) e

  module _ (P : ℕ → Node → Type 0) (at_hidden : P h hidden_at) (at_below : P k below_at) (at_snapshot : P c snapshot_at) (others : (n : ℕ) (a : Node) → n ≢ k → nodes n ≡ Some a → P n (moved k h a)) where
    put_at : (m : ℕ) (a : Node) → now m ≡ Some a → P m a → (n : ℕ) (b : Node) → now n ≡ Some b → n ≡ m → P n b
    put_at m a there here n b e same =
        subst (λ (m : ℕ). P m b) (sym same) (subst (P m) (some_same (sym there ∙ (ap now (sym same) ∙ e))) here)

    other_at : (n : ℕ) (b : Node) → n ≢ k → (entry : Option Node) → nodes n ≡ entry → ◌≡◌ {A = Option Node} (option_map (moved k h) entry) (Some b) → P n b
    other_at n b n_k None was e = absurd cc
    other_at n b n_k (Some a) was e = subst (P n) (some_same e) (others n a n_k was)

    -- what holds of the three new nodes and of the others with their links moved holds of each
    each_now : (n : ℕ) (b : Node) → now n ≡ Some b → P n b
    each_now n b e = elim (cases_eq n h) [
      | inl n_h ↦ put_at h hidden_at at_h at_hidden n b e n_h
      | inr n_h ↦ elim (cases_eq n k) [
        | inl n_k ↦ put_at k below_at at_k at_below n b e n_k
        | inr n_k ↦ elim (cases_eq n c) [
          | inl n_c ↦ put_at c snapshot_at at_c at_snapshot n b e n_c
          | inr n_c ↦ other_at n b n_k (nodes n) refl (sym (at_other n n_h n_k n_c) ∙ e)
        ]
      ]
    ]

  -- ---- the rank: the hidden node has that of the leaf, and the two below it one more

  abbrev pub pair_rank : ℕ → ℕ
  pair_rank n = cond (n == h) (rank k) (cond (n == k) (rank k + 1) (cond (n == c) (rank k + 1) (rank n)))

  rank_h : pair_rank h ≡ rank k
  rank_h = rw (eqb_same h) refl

  rank_k : pair_rank k ≡ rank k + 1
  rank_k = rw (eqb_apart k h k_h, eqb_same k) refl

  rank_c : pair_rank c ≡ rank k + 1
  rank_c = rw (eqb_apart c h (λ e. apart (sym e)), eqb_apart c k (λ e. k_c (sym e)), eqb_same c) refl

  rank_other : (n : ℕ) (a : Node) → n ≢ k → nodes n ≡ Some a → pair_rank n ≡ rank n
  rank_other n a n_k e = rw (eqb_apart n h (held_apart nodes n h a e free_h), eqb_apart n k n_k, eqb_apart n c (held_apart nodes n c a e free_c)) refl

  -- ---- children and parents

  child_now : (n l : ℕ) → IsChild nodes n l → IsChild now n (moved_key k h l)
  child_now n l child = elim (cases_eq l k) [
    | inl same ↦ subst (IsChild now n) (sym (moved_key-here k h l same)) (record {
      node = hidden_at;
      at = at_h;
      parent = ap (λ (x : Node). x.parent) (some_same (sym at ∙ (ap nodes (sym same) ∙ child.at))) ∙ child.parent;
    })
    | inr other ↦ subst (IsChild now n) (sym (moved_key-other k h l other)) (record {
      node = moved k h child.node;
      at = held_now l child.node other child.at;
      parent = child.parent;
    })
  ]

  pair_now : (n : ℕ) (a : Node) → HasPair nodes n a → HasPair now n (moved k h a)
  pair_now n a pair = record {
    left = moved_key k h pair.left;
    right = moved_key k h pair.right;
    left_is = ap (moved_link k h) pair.left_is ∙ moved_link-to k h pair.left;
    right_is = ap (moved_link k h) pair.right_is ∙ moved_link-to k h pair.right;
    apart = moved_key-apart k h pair.left pair.right pair.apart
        (held_apart nodes pair.left h pair.left_child.node pair.left_child.at free_h)
        (held_apart nodes pair.right h pair.right_child.node pair.right_child.at free_h);
    left_child = child_now n pair.left pair.left_child;
    right_child = child_now n pair.right pair.right_child;
  }

  pair_new : HasPair now h hidden_at
  pair_new = record {
    left = k;
    right = c;
    left_is = refl;
    right_is = refl;
    apart = k_c;
    left_child = record { node = below_at; at = at_k; parent = refl };
    right_child = record { node = snapshot_at; at = at_c; parent = refl };
  }

  above_apart : (p n : ℕ) (a : Node) → (up : HasAsChild nodes rank p n a) → p ≢ k
  above_apart p n a up = kinds_apart nodes p k up.above node up.at at up.hidden visible

  below_hidden_at : (p : ℕ) → HasAsChild nodes rank p k node → HasAsChild now pair_rank p h hidden_at
  below_hidden_at p up = record {
    above = moved k h up.above;
    at = held_now p up.above (above_apart p k node up) up.at;
    hidden = up.hidden;
    side = elim up.side [ inl left ↦ inl (moved_link-here k h up.above.left left) | inr right ↦ inr (moved_link-here k h up.above.right right) ];
    window = up.window;
    deeper = omega (arith, up.deeper, rank_h, rank_other p up.above (above_apart p k node up) up.at);
  }

  below_other : (p n : ℕ) (a : Node) → n ≢ k → nodes n ≡ Some a → HasAsChild nodes rank p n a → HasAsChild now pair_rank p n (moved k h a)
  below_other p n a n_k e up = record {
    above = moved k h up.above;
    at = held_now p up.above (above_apart p n a up) up.at;
    hidden = up.hidden;
    side = elim up.side [ inl left ↦ inl (moved_link-other k h n up.above.left n_k left) | inr right ↦ inr (moved_link-other k h n up.above.right n_k right) ];
    window = up.window;
    deeper = omega (arith, up.deeper, rank_other n a n_k e, rank_other p up.above (above_apart p n a up) up.at);
  }

  below_new_left : HasAsChild now pair_rank h k below_at
  below_new_left = record { above = hidden_at; at = at_h; hidden = refl; side = inl refl; window = omega arith; deeper = omega (arith, rank_h, rank_k) }

  below_new_right : HasAsChild now pair_rank h c snapshot_at
  below_new_right = record { above = hidden_at; at = at_h; hidden = refl; side = inr refl; window = window_fits first seen node.count window; deeper = omega (arith, rank_h, rank_c) }

  -- the three new nodes are below the bound
  pub held_paired : (bound : ℕ) → ((n : ℕ) → IsSome (nodes n) → n < bound) → h < bound → c < bound → (n : ℕ) → IsSome (now n) → n < bound
  held_paired bound held h_in c_in n some =
      let b = some_is (now n) some in
      each_now (λ n b. n < bound) h_in (held k (ap is_some at)) c_in (λ n a n_k e. held n (ap is_some e)) n b.0 b.1

  -- ---- lists

  -- the list is new, or that of a node that was there
  pub record IsOwner (n list : ℕ) : Type 0 where
    pub before : ℕ
    pub was : Node
    pub held : nodes before ≡ Some was
    pub named : was.list.0 ≡ list
    pub is : n ≡ moved_key k h before

  abbrev pub Owner : ℕ → ℕ → Type 0
  Owner n list = ((n ≡ k) × (list ≡ lists)) ⊎ (((n ≡ c) × (list ≡ lists + 1)) ⊎ IsOwner n list)

  owner : (n : ℕ) (b : Node) → now n ≡ Some b → Owner n b.list.0
  owner = each_now (λ n b. Owner n b.list.0)
      (inr (inr (record { before = k; was = node; held = at; named = refl; is = sym (moved_key-here k h k refl) })))
      (inl (refl, refl))
      (inr (inl (refl, refl)))
      (λ n a n_k e. inr (inr (record { before = n; was = a; held = e; named = refl; is = sym (moved_key-other k h n n_k) })))

  given_before : (n list : ℕ) → IsOwner n list → list < lists
  given_before n list o = omega (arith, f.given o.before o.was o.held, o.named)

  own_now : (i j list : ℕ) → Owner i list → Owner j list → i ≡ j
  own_now i j list (inl a) (inl b) = a.0 ∙ sym b.0
  own_now i j list (inl a) (inr (inl b)) = absurd (omega (arith, a.1, b.1))
  own_now i j list (inl a) (inr (inr b)) = absurd (omega (arith, a.1, given_before j list b))
  own_now i j list (inr (inl a)) (inl b) = absurd (omega (arith, a.1, b.1))
  own_now i j list (inr (inl a)) (inr (inl b)) = a.0 ∙ sym b.0
  own_now i j list (inr (inl a)) (inr (inr b)) = absurd (omega (arith, a.1, given_before j list b))
  own_now i j list (inr (inr a)) (inl b) = absurd (omega (arith, b.1, given_before i list a))
  own_now i j list (inr (inr a)) (inr (inl b)) = absurd (omega (arith, b.1, given_before i list a))
  own_now i j list (inr (inr a)) (inr (inr b)) = a.is ∙ (ap (moved_key k h) (f.own a.before b.before a.was b.was a.held b.held (a.named ∙ sym b.named)) ∙ sym b.is)

  -- ---- the forest

  pub paired_by : IsForestBy now (lists + 2) pair_rank
  paired_by = record {
    leaves = λ n b v. each_now (λ n b. IsSome b.koid → (b.left ≡ None) × (b.right ≡ None))
        (λ some. absurd cc)
        (λ some. f.leaves k node (record { at = at; koid = visible }))
        (λ some. (refl, refl))
        (λ n a n_k e some.
        let ends = f.leaves n a (record { at = e; koid = some }) in
        (ap (moved_link k h) ends.0 ∙ moved_link-none k h, ap (moved_link k h) ends.1 ∙ moved_link-none k h))
        n b v.at v.koid;
    pairs = each_now (λ n b. b.koid ≡ None → HasPair now n b)
        (λ hidden. pair_new)
        (λ hidden. absurd (let no = sym visible ∙ ap is_some hidden in cc))
        (λ hidden. absurd cc)
        (λ n a n_k e hidden. pair_now n a (f.pairs n a e hidden));
    below = λ p. each_now (λ n b. b.parent ≡ link_to p → HasAsChild now pair_rank p n b)
        (λ child. below_hidden_at p (f.below p k node at child))
        (λ child. subst (λ (q : ℕ). HasAsChild now pair_rank q k below_at) (link_same child) below_new_left)
        (λ child. subst (λ (q : ℕ). HasAsChild now pair_rank q c snapshot_at) (link_same child) below_new_right)
        (λ n a n_k e child. below_other p n a n_k e (f.below p n a e child));
    own = λ i j a b e g same. own_now i j b.list.0 (subst (Owner i) same (owner i a e)) (owner j b g);
    given = each_now (λ n b. b.list.0 < lists + 2) (omega (arith, f.given k node at)) (omega arith) (omega arith) (λ n a n_k e. omega (arith, f.given n a e));
    ranks = each_now (λ n b. pair_rank n < lists + 2) (omega (arith, f.ranks k node at, rank_h)) (omega (arith, f.ranks k node at, rank_k))
        (omega (arith, f.ranks k node at, rank_c)) (λ n a n_k e. omega (arith, f.ranks n a e, rank_other n a n_k e));
    seen = each_now (λ n b. b.seen ≤ b.count) (f.seen k node at) (omega arith) short (λ n a n_k e. f.seen n a e);
    empty = each_now (λ n b. b.seen ≡ 0 → b.first ≡ 0) (f.empty k node at) (λ none. refl) (window_empty first seen) (λ n a n_k e. f.empty n a e);
    root = each_now (λ n b. b.parent ≡ None → b.seen ≡ 0) (f.root k node at) (λ none. absurd cc) (λ none. absurd cc) (λ n a n_k e. f.root n a e);
  }
