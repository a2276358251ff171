-- The search for any visible node from which a page is reached: it asks both children of a hidden node before it goes
-- further down.
use Rattle.std.specs.Prelude.{◌≡◌, ℕ, Bool, true, false, List, [], ◌++◌, Option, None, Some, is_none, if◌then◌else◌}
use Rattle.cow_arena.specs.declared.node.NodeId.{NodeId}
use Rattle.cow_arena.specs.declared.node.Node.{Node}
use Rattle.cow_arena.specs.declared.node.Side.{Side}
use Rattle.cow_arena.specs.Nodes.{link_to}
use Rattle.cow_arena.specs.Walk.{Tree}
use Rattle.cow_arena.specs.Ways.{Reaches}
use Rattle.cow_split.specs.Search.{has_some, reached_from}
use Rattle.cow_split.specs.Searching.{viewers_at, IsOnward}
use Rattle.cow_split.specs.declared.viewers.Met.{Met}
use Rattle.cow_split.specs.declared.viewers.Met.TheVariants as met

-- the visible nodes that a search finds below this child, if it is hidden. A visible child is asked when the search
-- enters its parent
abbrev pub hidden_at : Tree → (except child : Option NodeId) → (q : ℕ) → List ℕ
hidden_at t except None q = []
hidden_at t except (Some child) q = hidden_in (t.nodes child.0)
  where
    hidden_in : Option Node → List ℕ
    hidden_in None = []
    hidden_in (Some node) = if is_none node.koid then viewers_at t except (link_to child.0) q else []

-- The search goes on from page q of the parent of node k to page p of k, and enters the left child l of k. No visible
-- child of k counts.
pub record IsOnwardBelow (t : Tree) (except : Option NodeId) (k q l p : ℕ) : Type 0 where
  pub onward : IsOnward t k q l p
  pub children : hidden_at t except (link_to k) q ≡ hidden_at t except onward.node.left p ++ hidden_at t except onward.node.right p

-- what the search meets at the children of node k, which it enters with page q of the node's parent
abbrev pub IsMetBelow : Tree → (except : Option NodeId) → (k q : ℕ) → Met → Type 0
IsMetBelow t except k q met.Viewer = has_some (hidden_at t except (link_to k) q) ≡ true
IsMetBelow t except k q (met.Below left p) = IsOnwardBelow t except k q left.0 p
IsMetBelow t except k q met.Nobody = hidden_at t except (link_to k) q ≡ []

-- If page x of node k goes on to page r of node g, which it enters from this side, the answer says whether page r of g
-- is reached from there other than from k. The answer `false` is right wherever page x goes.
pub record IsReachedByOthers (t : Tree) (k x : ℕ) (from : Side) (g r : ℕ) (answer : Bool) : Type 0 where
  pub others : answer ≡ true → Reaches t k x from g r → reached_from t (link_to k) from g r ≡ true
  pub nobody : answer ≡ false → reached_from t (link_to k) from g r ≡ false
