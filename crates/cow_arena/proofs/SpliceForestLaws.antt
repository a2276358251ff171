-- The nodes stay a forest where a leaf and the hidden node above it go.
use Rattle.cow_arena.proofs.Words.{◌≡◌, ◌≢◌, ℕ, ◌+◌, ◌-◌, ◌≤◌, Bool, true, false, cond, Option, None, Some, refl, sym, ap, subst, ◌∙◌, inl}
use Rattle.cow_arena.proofs.Words.{inr, arith, ◌==◌, IsSome, is_some, min, option_map, cases_eq, eqb_is, some_same, some_is, with_key-same}
use Rattle.cow_arena.proofs.Words.{with_key-other, without_key-same, without_key-other, Node, Side, Nodes, AreFamily, link_to, child_on}
use Rattle.cow_arena.proofs.Words.{other_side, side_of, IsForest, IsForestBy, HasPair, IsChild, HasAsChild, window_first, moved_link}
use Rattle.cow_arena.proofs.Words.{spliced, lifted}
use Rattle.cow_arena.proofs.WalkLaws.{link_same}
use Rattle.cow_arena.proofs.LinkLaws.{moved, moved-away, moved_key, moved_key-here, moved_key-other, moved_key-apart, moved_link-none}
use Rattle.cow_arena.proofs.LinkLaws.{moved_link-to, moved_link-here, moved_link-other, relinked_at}
use Rattle.cow_arena.proofs.ForestLaws.{kinds_apart, pair_stays}
use Rattle.cow_arena.proofs.SpliceWalkLaws.{family-side, family-both, family-parent}

-- a window through two windows ends where the upper one does
pub lifted_fits : (first seen above_first above_seen n : ℕ) → above_first + above_seen ≤ n →
    window_first (first + above_first) (min seen (above_seen - first)) + min seen (above_seen - first) ≤ n
lifted_fits first seen above_first above_seen n h = by_test (min seen (above_seen - first) == 0) refl
  where
    by_test : (b : Bool) → (min seen (above_seen - first) == 0) ≡ b → cond b 0 (first + above_first) + min seen (above_seen - first) ≤ n
    by_test true e = omega (arith, eqb_is _ 0 e)
    by_test false e = elim (cases_eq (min seen (above_seen - first)) 0) [
      | inl none ↦ absurd (let yes = ap (λ (m : ℕ). m == 0) none in let no = sym e ∙ yes in cc)
      | inr some ↦ omega arith
    ]

module _ (nodes : Nodes) (lists : ℕ) (rank : ℕ → ℕ) (f : IsForestBy nodes lists rank) (k h s : ℕ) (node parent sibling : Node) (family : AreFamily nodes k h s node parent sibling) where
  abbrev forest : IsForest nodes lists
  forest = record { rank = rank; by = f }

  up_k : HasAsChild nodes rank h k node
  up_k = f.below h k node family.at family.parent_is

  pub parent_is_hidden : parent.koid ≡ None
  parent_is_hidden = ap (λ (x : Node). x.koid) (some_same (sym family.parent_at ∙ up_k.at)) ∙ up_k.hidden

  pub s_k : s ≢ k
  s_k same = apart (side_of parent k) (family-side nodes lists forest k h s node parent sibling family)
    where
      pair : HasPair nodes h parent
      pair = f.pairs h parent family.parent_at parent_is_hidden

      apart : (a : Side) → (child_on parent a ≡ link_to k) × (child_on parent (other_side a) ≡ link_to s) → ⊥
      apart Side.Left both = pair.apart (link_same (sym pair.left_is ∙ both.0) ∙ (sym same ∙ sym (link_same (sym pair.right_is ∙ both.1))))
      apart Side.Right both = pair.apart (link_same (sym pair.left_is ∙ both.1) ∙ (same ∙ sym (link_same (sym pair.right_is ∙ both.0))))

  pub sibling_parent : sibling.parent ≡ link_to h
  sibling_parent = family-parent nodes lists forest k h s node parent sibling family

  up_s : HasAsChild nodes rank h s sibling
  up_s = f.below h s sibling family.sibling_at sibling_parent

  pub s_h : s ≢ h
  s_h same = absurd (omega (arith, up_s.deeper, ap rank same))

  pub k_h : k ≢ h
  k_h same = absurd (omega (arith, up_k.deeper, ap rank same))

  -- nobody else is below h
  not_below : (n : ℕ) (a : Node) → n ≢ s → n ≢ k → nodes n ≡ Some a → a.parent ≢ link_to h
  not_below n a n_s n_k e child =
      elim (family-both nodes lists forest k h s node parent sibling family n a e child) [ inl same ↦ n_k same | inr same ↦ n_s same ]

  -- the parent of h is another node than the three
  module _ (p : ℕ) (e : parent.parent ≡ link_to p) where
    pub up_h : HasAsChild nodes rank p h parent
    up_h = f.below p h parent family.parent_at e

    pub p_h : p ≢ h
    p_h same = absurd (omega (arith, up_h.deeper, ap rank same))

    pub p_s : p ≢ s
    p_s same = absurd (omega (arith, up_h.deeper, up_s.deeper, ap rank same))

  module _ (visible : IsSome node.koid) where
    abbrev pub lifted_at : Node
    lifted_at = lifted parent sibling

    abbrev pub now : Nodes
    now = spliced nodes k h s parent sibling

    -- ---- the nodes one by one

    at_s : now s ≡ Some lifted_at
    unfolding spliced
    at_s = with_key-same _ s lifted_at

    at_k : now k ≡ None
    unfolding spliced
    at_k = with_key-other _ s lifted_at k (λ e. s_k (sym e)) ∙ without_key-same _ k

    at_h : now h ≡ None
    unfolding spliced
    at_h = with_key-other _ s lifted_at h (λ e. s_h (sym e)) ∙ (without_key-other _ k h (λ e. k_h (sym e)) ∙ without_key-same _ h)

    at_other : (n : ℕ) → n ≢ s → n ≢ k → n ≢ h → now n ≡ option_map (moved h s) (nodes n)
    unfolding spliced
    at_other n n_s n_k n_h = with_key-other _ s lifted_at n n_s ∙ (without_key-other _ k n n_k ∙ (without_key-other _ h n n_h ∙ relinked_at nodes lists rank f h parent family.parent_at s n))

    held_now : (n : ℕ) (a : Node) → n ≢ s → n ≢ k → n ≢ h → nodes n ≡ Some a → now n ≡ Some (moved h s a)
    held_now n a n_s n_k n_h e = at_other n n_s n_k n_h ∙ ap (option_map (moved h s)) e

    module _ (P : ℕ → Node → Type 0) (at_sibling : P s lifted_at) (others : (n : ℕ) (a : Node) → n ≢ s → n ≢ k → n ≢ h → nodes n ≡ Some a → P n (moved h s a)) where
      none_at : (m n : ℕ) (b : Node) → now m ≡ None → now n ≡ Some b → n ≡ m → P n b
      none_at m n b none e same = absurd (let no : ◌≡◌ {A = Option Node} None (Some b) = sym none ∙ (ap now (sym same) ∙ e) in cc)

      other_at : (n : ℕ) (b : Node) → n ≢ s → n ≢ k → n ≢ h → (entry : Option Node) → nodes n ≡ entry → ◌≡◌ {A = Option Node} (option_map (moved h s) entry) (Some b) → P n b
      other_at n b n_s n_k n_h None was e = absurd cc
      other_at n b n_s n_k n_h (Some a) was e = subst (P n) (some_same e) (others n a n_s n_k n_h was)

      -- what holds of the sibling in its new place and of the others with their links moved holds of each
      each_now : (n : ℕ) (b : Node) → now n ≡ Some b → P n b
      each_now n b e = elim (cases_eq n s) [
        | inl n_s ↦ subst (λ (m : ℕ). P m b) (sym n_s) (subst (P s) (some_same (sym at_s ∙ (ap now (sym n_s) ∙ e))) at_sibling)
        | inr n_s ↦ elim (cases_eq n k) [
          | inl n_k ↦ none_at k n b at_k e n_k
          | inr n_k ↦ elim (cases_eq n h) [
            | inl n_h ↦ none_at h n b at_h e n_h
            | inr n_h ↦ other_at n b n_s n_k n_h (nodes n) refl (sym (at_other n n_s n_k n_h) ∙ e)
          ]
        ]
      ]

    -- ---- children and parents

    -- a child of another node than h is not one of its two
    child_apart : (n l m : ℕ) (x : Node) → n ≢ h → IsChild nodes n l → nodes m ≡ Some x → x.parent ≡ link_to h → l ≢ m
    child_apart n l m x n_h child there below same =
        n_h (link_same (sym child.parent ∙ (ap (λ (y : Node). y.parent) (some_same (sym child.at ∙ (ap nodes same ∙ there))) ∙ below)))

    child_now : (n l : ℕ) → n ≢ h → IsChild nodes n l → IsChild now n (moved_key h s l)
    child_now n l n_h child = elim (cases_eq l h) [
      | inl same ↦ subst (IsChild now n) (sym (moved_key-here h s l same)) (record {
        node = lifted_at;
        at = at_s;
        parent = ap (λ (x : Node). x.parent) (some_same (sym family.parent_at ∙ (ap nodes (sym same) ∙ child.at))) ∙ child.parent;
      })
      | inr other ↦ subst (IsChild now n) (sym (moved_key-other h s l other)) (record {
        node = moved h s child.node;
        at = held_now l child.node (child_apart n l s sibling n_h child family.sibling_at sibling_parent)
            (child_apart n l k node n_h child family.at family.parent_is) other child.at;
        parent = child.parent;
      })
    ]

    pair_now : (n : ℕ) (a : Node) → n ≢ h → HasPair nodes n a → HasPair now n (moved h s a)
    pair_now n a n_h pair = record {
      left = moved_key h s pair.left;
      right = moved_key h s pair.right;
      left_is = ap (moved_link h s) pair.left_is ∙ moved_link-to h s pair.left;
      right_is = ap (moved_link h s) pair.right_is ∙ moved_link-to h s pair.right;
      apart = moved_key-apart h s pair.left pair.right pair.apart
          (child_apart n pair.left s sibling n_h pair.left_child family.sibling_at sibling_parent)
          (child_apart n pair.right s sibling n_h pair.right_child family.sibling_at sibling_parent);
      left_child = child_now n pair.left n_h pair.left_child;
      right_child = child_now n pair.right n_h pair.right_child;
    }

    -- the sibling does not lead to h
    pair_sibling : HasPair nodes s sibling → HasPair now s lifted_at
    pair_sibling pair =
        let kept = moved-away nodes lists rank f h parent family.parent_at s sibling family.sibling_at (λ e. p_s s e refl) s in
        pair_stays (sym (ap (λ (x : Node). x.left) kept)) (sym (ap (λ (x : Node). x.right) kept)) (λ l child. child) (pair_now s sibling s_h pair)

    above_apart : (p n : ℕ) (a : Node) → (up : HasAsChild nodes rank p n a) → p ≢ k
    above_apart p n a up = kinds_apart nodes p k up.above node up.at family.at up.hidden visible

    below_sibling : (p : ℕ) → parent.parent ≡ link_to p → HasAsChild now rank p s lifted_at
    below_sibling p e = let up = up_h p e in record {
      above = moved h s up.above;
      at = held_now p up.above (p_s p e) (above_apart p h parent up) (p_h p e) up.at;
      hidden = up.hidden;
      side = elim up.side [ inl left ↦ inl (moved_link-here h s up.above.left left) | inr right ↦ inr (moved_link-here h s up.above.right right) ];
      window = lifted_fits sibling.first sibling.seen parent.first parent.seen up.above.count up.window;
      deeper = omega (arith, up.deeper, up_s.deeper);
    }

    -- a node below the sibling, or below another one
    below_other : (p n : ℕ) (a : Node) → n ≢ s → n ≢ k → n ≢ h → nodes n ≡ Some a → a.parent ≡ link_to p → HasAsChild now rank p n (moved h s a)
    below_other p n a n_s n_k n_h e child = let up = f.below p n a e child in elim (cases_eq p s) [
      | inl same ↦
          let one = some_same (sym up.at ∙ (ap nodes same ∙ family.sibling_at)) in
          record {
            above = lifted_at;
            at = ap now same ∙ at_s;
            hidden = ap (λ (x : Node). x.koid) (sym one) ∙ up.hidden;
            side = elim up.side [
              | inl left ↦ inl (ap (λ (x : Node). x.left) (sym one) ∙ left)
              | inr right ↦ inr (ap (λ (x : Node). x.right) (sym one) ∙ right)
            ];
            window = omega (arith, up.window, ap (λ (x : Node). x.count) one);
            deeper = up.deeper;
          }
      | inr p_other ↦ record {
        above = moved h s up.above;
        at = held_now p up.above p_other (above_apart p n a up) (λ same. not_below n a n_s n_k e (child ∙ ap link_to same)) up.at;
        hidden = up.hidden;
        side = elim up.side [ inl left ↦ inl (moved_link-other h s n up.above.left n_h left) | inr right ↦ inr (moved_link-other h s n up.above.right n_h right) ];
        window = up.window;
        deeper = up.deeper;
      }
    ]

    -- each node was there
    pub held_spliced : (n : ℕ) → IsSome (now n) → IsSome (nodes n)
    held_spliced n some =
        let b = some_is (now n) some in
        each_now (λ n b. IsSome (nodes n)) (ap is_some family.sibling_at) (λ n a n_s n_k n_h e. ap is_some e) n b.0 b.1

    -- ---- the forest

    -- each list is that of the node that was there
    pub record IsOwner (n list : ℕ) : Type 0 where
      pub was : Node
      pub held : nodes n ≡ Some was
      pub named : was.list.0 ≡ list

    owner : (n : ℕ) (b : Node) → now n ≡ Some b → IsOwner n b.list.0
    owner = each_now (λ n b. IsOwner n b.list.0)
        (record { was = sibling; held = family.sibling_at; named = refl })
        (λ n a n_s n_k n_h e. record { was = a; held = e; named = refl })

    no_window : parent.parent ≡ None → min sibling.seen (parent.seen - sibling.first) ≡ 0
    no_window none = omega (arith, f.root h parent family.parent_at none)

    pub spliced_by : IsForestBy now lists rank
    spliced_by = record {
      leaves = λ n b v. each_now (λ n b. IsSome b.koid → (b.left ≡ None) × (b.right ≡ None))
          (λ some. f.leaves s sibling (record { at = family.sibling_at; koid = some }))
          (λ n a n_s n_k n_h e some. let ends = f.leaves n a (record { at = e; koid = some }) in
          (ap (moved_link h s) ends.0 ∙ moved_link-none h s, ap (moved_link h s) ends.1 ∙ moved_link-none h s))
          n b v.at v.koid;
      pairs = each_now (λ n b. b.koid ≡ None → HasPair now n b)
          (λ hidden. pair_sibling (f.pairs s sibling family.sibling_at hidden))
          (λ n a n_s n_k n_h e hidden. pair_now n a n_h (f.pairs n a e hidden));
      below = λ p. each_now (λ n b. b.parent ≡ link_to p → HasAsChild now rank p n b) (below_sibling p) (below_other p);
      own = λ i j a b e g same. let v = owner i a e in let w = owner j b g in f.own i j v.was w.was v.held w.held (v.named ∙ (same ∙ sym w.named));
      given = λ n b e. let w = owner n b e in omega (arith, f.given n w.was w.held, w.named);
      ranks = λ n b e. let w = owner n b e in f.ranks n w.was w.held;
      seen = each_now (λ n b. b.seen ≤ b.count) (omega (arith, f.seen s sibling family.sibling_at)) (λ n a n_s n_k n_h e. f.seen n a e);
      empty = each_now (λ n b. b.seen ≡ 0 → b.first ≡ 0) (λ none. rw none refl) (λ n a n_s n_k n_h e. f.empty n a e);
      root = each_now (λ n b. b.parent ≡ None → b.seen ≡ 0) no_window (λ n a n_s n_k n_h e. f.root n a e);
    }
