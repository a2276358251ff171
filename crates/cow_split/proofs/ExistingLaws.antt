-- Laws of the search for anyone: whom it leaves to the turn of the parent, and what is ahead of it.
use Rattle.cow_split.proofs.Words.{some_is, ◌≡◌, ℕ, ◌<◌, ◌^◌, true, List, [], ◌∷◌, ◌++◌, Option, None, Some, refl, sym, ap, ◌∙◌, subst}
use Rattle.cow_split.proofs.Words.{IsSome, is_some, append-nil, some_same, NodeId, Node, Side, link_to, child_on, Tree, IsForest}
use Rattle.cow_split.proofs.Words.{viewers_from, has_some, viewers_at, FoundBelow, IsOnward, at_start, IsPassed, GoesOn, IsAhead, hidden_at}
use Rattle.cow_split.proofs.Words.{IsOnwardBelow, Cursor}
use Rattle.cow_arena.proofs.ReachLaws.{hidden-of-child, child-there}
use Rattle.cow_split.proofs.WayLaws.{found-through}

-- who is in one of two lists is in both together
pub some-left : (a b : List ℕ) → has_some a ≡ true → has_some (a ++ b) ≡ true
some-left [] b some = absurd (cc)
some-left (k ∷ a) b some = refl

module _ (t : Tree) (except : Option NodeId) where
  -- a hidden child is left out nowhere, and a visible one always
  pub hidden-same : (k q : ℕ) (node : Node) → t.nodes k ≡ Some node → node.koid ≡ None →
      viewers_at t except (link_to k) q ≡ hidden_at t except (link_to k) q
  hidden-same k q node at none = rw (at, none) refl

  pub visible-none : (k q : ℕ) (node : Node) → t.nodes k ≡ Some node → IsSome node.koid → hidden_at t except (link_to k) q ≡ []
  visible-none k q node at some = rw (at, (some_is node.koid some).1) refl

module _ (t : Tree) (f : IsForest t.nodes t.lists) (except : Option NodeId) where
  -- a node with a right child is hidden
  pub hidden-right : (k q : ℕ) (node : Node) (r : NodeId) → t.nodes k ≡ Some node → node.right ≡ Some r →
      hidden_at t except (link_to k) q ≡ viewers_at t except (link_to k) q
  hidden-right k q node r at right =
      sym (hidden-same t except k q node at (hidden-of-child t.nodes t.lists f k r.0 node Side.Right at right))

  pub child-some : (k c : ℕ) (node : Node) (s : Side) → t.nodes k ≡ Some node → child_on node s ≡ link_to c → IsSome (t.nodes c)
  child-some k c node s at child = ap is_some (child-there t.nodes t.lists f k c node s at child).at

  -- ---- what is met at the children

  module _ (k q : ℕ) (l r : NodeId) (p : ℕ) (node : Node) (at : t.nodes k ≡ Some node) (right : node.right ≡ Some r) (on : IsOnward t k q l.0 p) where
    right-is : on.node.right ≡ link_to r.0
    right-is = ap (λ (n : Node). n.right) (some_same (sym on.through.at ∙ at)) ∙ right

    pub left-some : IsSome (t.nodes l.0)
    left-some = child-some k l.0 on.node Side.Left on.through.at on.left

    both-children : hidden_at t except (link_to k) q ≡ viewers_at t except (link_to l.0) p ++ viewers_at t except (link_to r.0) p
    both-children =
        let children : viewers_at t except on.node.left p ++ viewers_at t except on.node.right p
        ≡ viewers_at t except (link_to l.0) p ++ viewers_at t except (link_to r.0) p
        = λ i. viewers_at t except (on.left i) p ++ viewers_at t except (right-is i) p in
        hidden-right k q node r at right
        ∙ (ap (viewers_at t except (link_to k)) on.page ∙ (found-through t f except k p on.node on.through ∙ children))

    pub children-found : has_some (viewers_at t except (link_to l.0) p ++ viewers_at t except (link_to r.0) p) ≡ true →
        has_some (hidden_at t except (link_to k) q) ≡ true
    children-found some = ap has_some both-children ∙ some

    pub children-left : viewers_at t except (link_to l.0) p ++ viewers_at t except (link_to r.0) p
        ≡ hidden_at t except (link_to l.0) p ++ hidden_at t except (link_to r.0) p → IsOnwardBelow t except k q l.0 p
    children-left none =
        let children : hidden_at t except (link_to l.0) p ++ hidden_at t except (link_to r.0) p
        ≡ hidden_at t except on.node.left p ++ hidden_at t except on.node.right p
        = λ i. hidden_at t except (sym on.left i) p ++ hidden_at t except (sym right-is i) p in
        record { onward = on; children = both-children ∙ (none ∙ children) }

  -- ---- where the search begins, goes on and ends

  pub hidden-begins : (start q : ℕ) → q < 2 ^ 64 → IsSome (t.nodes start) →
      GoesOn t (hidden_at t except) start start q (hidden_at t except (link_to start) q)
  hidden-begins start q fits some =
      let it = some_is (t.nodes start) some in
      record {
        after = [];
        passed = record { whole = q; fits = fits; way = at_start start q [] it.0 it.1 refl refl refl };
        ahead_is = sym (append-nil (hidden_at t except (link_to start) q));
      }

  -- it begins at the child on a side of a node, if there is one
  pub from-child : (side : Side) (h q : ℕ) (above : Node) (c : NodeId) → t.nodes h ≡ Some above → child_on above side ≡ Some c →
      viewers_from t except side h q ≡ viewers_at t except (link_to c.0) q
  from-child side h q above c at child = rw (at, child) refl

module _ (t : Tree) (below : FoundBelow) (start k q : ℕ) (ahead : List ℕ) (here : GoesOn t below start k q ahead) where
  -- someone is found at and below the node
  pub goes-first : has_some (below (link_to k) q) ≡ true → has_some ahead ≡ true
  goes-first some = ap has_some here.ahead_is ∙ some-left (below (link_to k) q) here.after some

  -- nobody is
  pub goes-past : below (link_to k) q ≡ [] → (next : Option Cursor) →
      ((after : List ℕ) → IsPassed t below start k q after → IsAhead t below next after) → IsAhead t below next ahead
  goes-past none next further =
      subst (IsAhead t below next) (sym (here.ahead_is ∙ ap (λ list. list ++ here.after) none)) (further here.after here.passed)
