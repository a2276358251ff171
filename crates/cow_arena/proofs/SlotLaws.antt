-- The nodes as a map from numbers, after a change of one key of their slab.
use Rattle.cow_arena.proofs.Words.{◌≡◌, ◌≢◌, ℕ, Bool, true, false, cond, Option, None, Some, refl, sym, ap, subst, ◌∙◌, inl, inr, ◌==◌}
use Rattle.cow_arena.proofs.Words.{IsSome, IfSome, is_some, option_map, cases_eq, Slab, get, ContainsKey, with_value, Updates, with_key}
use Rattle.cow_arena.proofs.Words.{without_key, with_key-here, with_key-same, with_key-other, without_key-same, without_key-other, eqb_same}
use Rattle.cow_arena.proofs.Words.{eqb_apart, NodeId, Node, Nodes, relinked}
use Rattle.slab.proofs.SlabLemmas.{Updates-with_value}
use Rattle.cow_arena.proofs.LinkLaws.{moved}

pub nodes_with : (old new : Slab Node) (k : ℕ) (node : Node) → Updates old new k (Some node) → get new ≡ with_key (get old) k node
nodes_with old new k node u = λ i n. at n i
  where
    at : (n : ℕ) → get new n ≡ with_key (get old) k node n
    at n = elim (cases_eq n k) [
      | inl same ↦ ap (get new) same ∙ u.changed ∙ sym (with_key-here (get old) k node n same)
      | inr apart ↦ u.others n apart ∙ sym (with_key-other (get old) k node n apart)
    ]

pub nodes_without : (old new : Slab Node) (k : ℕ) → Updates old new k None → get new ≡ without_key (get old) k
nodes_without old new k u = λ i n. at n i
  where
    at : (n : ℕ) → get new n ≡ without_key (get old) k n
    at n = elim (cases_eq n k) [
      | inl same ↦ ap (get new) same ∙ u.changed ∙ sym (ap (without_key (get old) k) same ∙ without_key-same (get old) k)
      | inr apart ↦ u.others n apart ∙ sym (without_key-other (get old) k n apart)
    ]

-- a node that was written in its place
pub nodes_written : (s : Slab Node) (k : ℕ) (node : Node) → ContainsKey s k → get (with_value s k node) ≡ with_key (get s) k node
nodes_written s k node held = nodes_with s (with_value s k node) k node (Updates-with_value s k node held)

pub relinked-none : (nodes : Nodes) (parent : Option NodeId) (k j : ℕ) → parent ≡ None → nodes ≡ relinked nodes parent k j
unfolding relinked
relinked-none nodes parent k j none = rw none refl

-- the parent was written with its links moved
pub relinked-written : (s : Slab Node) (parent : Option NodeId) (h : NodeId) (k j : ℕ) (node : Node) → parent ≡ Some h → get s h.0 ≡ Some node →
    get (with_value s h.0 (moved k j node)) ≡ relinked (get s) parent k j
unfolding relinked
relinked-written s parent h k j node is at = rw is (nodes_written s h.0 (moved k j node) (ap is_some at) ∙ λ i n. each n i)
  where
    each : (n : ℕ) → with_key (get s) h.0 (moved k j node) n ≡ relinked (get s) (Some h) k j n
    each n = elim (cases_eq n h.0) [
      | inl same ↦ with_key-here (get s) h.0 (moved k j node) n same ∙ rw (same, eqb_same h.0, at) refl
      | inr apart ↦ with_key-other (get s) h.0 (moved k j node) n apart ∙ rw (eqb_apart n h.0 apart) refl
    ]

-- ---- the order of what a call does to several nodes

-- the parent of a node is none of the nodes that change for another reason
pub relinked-apart : (nodes : Nodes) (parent : Option NodeId) (k j n : ℕ) → IfSome parent (λ it. n ≢ it.0) → relinked nodes parent k j n ≡ nodes n
unfolding relinked
relinked-apart nodes None k j n apart = refl
relinked-apart nodes (Some h) k j n apart = rw (eqb_apart n h.0 apart) refl

pub relinked-alike : (nodes others : Nodes) (parent : Option NodeId) (k j n : ℕ) → nodes n ≡ others n → relinked nodes parent k j n ≡ relinked others parent k j n
unfolding relinked
relinked-alike nodes others None k j n same = same
relinked-alike nodes others (Some h) k j n same =
    ap (λ (entry : Option Node). cond {A = Option Node} (n == h.0) (option_map (moved k j) entry) entry) same

parent_apart : (nodes : Nodes) (parent : Option NodeId) (n : ℕ) → nodes n ≡ None → IfSome parent (λ it. IsSome (nodes it.0)) → IfSome parent (λ it. n ≢ it.0)
parent_apart nodes None n free held = tt
parent_apart nodes (Some h) n free held = λ same. absurd (let no = sym held ∙ (ap (λ (m : ℕ). is_some (nodes m)) (sym same) ∙ ap is_some free) in cc)

parent_other : (parent : Option NodeId) (k : ℕ) → IfSome parent (λ it. it.0 ≢ k) → IfSome parent (λ it. k ≢ it.0)
parent_other None k apart = tt
parent_other (Some h) k apart = λ same. apart (sym same)

module _ (old one two : Slab Node) (k h c : ℕ) (parent : Option NodeId) (first child hidden below : Node) (put_h : Updates old one h (Some first)) (put_c : Updates one two c (Some child))
    (free_h : get old h ≡ None) (free_c : get one c ≡ None) (held : IsSome (get old k)) (parents : IfSome parent (λ it. IsSome (get old it.0))) (above : IfSome parent (λ it. it.0 ≢ k)) where
  pair_apart : h ≢ c
  pair_apart same = absurd (let no : ◌≡◌ {A = Option Node} None (Some first) = sym free_c ∙ (ap (get one) (sym same) ∙ put_h.changed) in cc)

  pair_free : get old c ≡ None
  pair_free = sym (put_h.others c (λ e. pair_apart (sym e))) ∙ free_c

  k_h : k ≢ h
  k_h same = absurd (let no = sym held ∙ (ap (λ (m : ℕ). is_some (get old m)) same ∙ ap is_some free_h) in cc)

  k_c : k ≢ c
  k_c same = absurd (let no = sym held ∙ (ap (λ (m : ℕ). is_some (get old m)) same ∙ ap is_some pair_free) in cc)

  -- the hidden node is there, and so is the leaf
  held_hidden : IsSome (get two h)
  held_hidden = ap is_some (put_c.others h pair_apart ∙ put_h.changed)

  held_leaf : IsSome (get (with_value two h hidden) k)
  held_leaf = ap is_some ((Updates-with_value two h hidden held_hidden).others k k_h ∙ (put_c.others k k_c ∙ put_h.others k k_h)) ∙ held

  abbrev three : Slab Node
  three = with_value two h hidden

  abbrev pub four : Slab Node
  four = with_value three k below

  put_hidden : Updates two three h (Some hidden)
  put_hidden = Updates-with_value two h hidden held_hidden

  put_leaf : Updates three four k (Some below)
  put_leaf = Updates-with_value three k below held_leaf

  -- the nodes in the order of the call are those in the order of the definition
  pub pair_order : relinked (get four) parent k h ≡ with_key (with_key (with_key (relinked (get old) parent k h) h hidden) k below) c child
  pair_order = λ i n. at n i
    where
      linked : Nodes
      linked = relinked (get old) parent k h

      at : (n : ℕ) → relinked (get four) parent k h n ≡ with_key (with_key (with_key (relinked (get old) parent k h) h hidden) k below) c child n
      at n = elim (cases_eq n c) [
        | inl n_c ↦ subst (λ (m : ℕ). relinked (get four) parent k h m ≡ with_key (with_key (with_key (relinked (get old) parent k h) h hidden) k below) c child m) (sym n_c)
            (relinked-apart (get four) parent k h c (parent_apart (get old) parent c pair_free parents)
            ∙ (put_leaf.others c (λ e. k_c (sym e)) ∙ (put_hidden.others c (λ e. pair_apart (sym e)) ∙ (put_c.changed ∙ sym (with_key-same _ c child)))))
        | inr n_c ↦ elim (cases_eq n k) [
          | inl n_k ↦ subst (λ (m : ℕ). relinked (get four) parent k h m ≡ with_key (with_key (with_key (relinked (get old) parent k h) h hidden) k below) c child m) (sym n_k)
              (relinked-apart (get four) parent k h k (parent_other parent k above) ∙ (put_leaf.changed ∙ sym (with_key-other _ c child k k_c ∙ with_key-same _ k below)))
          | inr n_k ↦ elim (cases_eq n h) [
            | inl n_h ↦ subst (λ (m : ℕ). relinked (get four) parent k h m ≡ with_key (with_key (with_key (relinked (get old) parent k h) h hidden) k below) c child m) (sym n_h)
                (relinked-apart (get four) parent k h h (parent_apart (get old) parent h free_h parents)
                ∙ (put_leaf.others h (λ e. k_h (sym e)) ∙ (put_hidden.changed
                ∙ sym (with_key-other _ c child h pair_apart ∙ (with_key-other _ k below h (λ e. k_h (sym e)) ∙ with_key-same _ h hidden)))))
            | inr n_h ↦ relinked-alike (get four) (get old) parent k h n (put_leaf.others n n_k ∙ (put_hidden.others n n_h ∙ (put_c.others n n_c ∙ put_h.others n n_h)))
                ∙ sym (with_key-other _ c child n n_c ∙ (with_key-other _ k below n n_k ∙ with_key-other _ h hidden n n_h))
          ]
        ]
      ]

-- what is left of the nodes when two go, and the third is written
module _ (old one two three : Slab Node) (k h s : ℕ) (parent : Option NodeId) (node : Node) (linked : get one ≡ relinked (get old) parent h s)
    (less_h : Updates one two h None) (less_k : Updates two three k None) (held : IsSome (get old s)) (s_k : s ≢ k) (s_h : s ≢ h) where
  still_there : (parent : Option NodeId) → IsSome (relinked (get old) parent h s s)
  unfolding relinked
  still_there None = held
  still_there (Some p) = by_entry (s == p.0) (get old s) held
    where
      by_entry : (b : Bool) (entry : Option Node) → IsSome entry → IsSome (cond {A = Option Node} b (option_map (moved h s) entry) entry)
      by_entry true None held = held
      by_entry true (Some a) held = refl
      by_entry false entry held = held

  pub held_sibling : IsSome (get three s)
  held_sibling = ap is_some (less_k.others s s_k ∙ (less_h.others s s_h ∙ ap (λ (map : Nodes). map s) linked)) ∙ still_there parent

  pub splice_order : get (with_value three s node) ≡ with_key (without_key (without_key (relinked (get old) parent h s) h) k) s node
  splice_order =
      nodes_written three s node held_sibling
      ∙ λ i. with_key ((nodes_without two three k less_k ∙ λ i. without_key ((nodes_without one two h less_h ∙ λ i. without_key (linked i) h) i) k) i) s node
