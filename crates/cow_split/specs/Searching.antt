-- A search below a node, and how far it has come.
use Rattle.std.specs.Prelude.{◌≡◌, ℕ, zero, suc, ◌+◌, ◌-◌, ◌<◌, ◌==◌, ◌&&◌, ◌^◌, Bool, true, false, List, [], ◌∷◌, ◌++◌, length, Option, None, Some, MatchOption}
use Rattle.vm_base.specs.declared.names.Koid.{Koid}
use Rattle.cow_arena.specs.declared.node.NodeId.{NodeId}
use Rattle.cow_arena.specs.declared.node.Node.{Node}
use Rattle.cow_arena.specs.declared.node.Side.{Side}
use Rattle.cow_arena.specs.declared.node.Side.TheVariants as side
use Rattle.cow_arena.specs.Nodes.{Nodes, link_to, child_on, parent_node_in, side_in, IsVisible}
use Rattle.cow_arena.specs.Walk.{Tree, Slots, tree_with}
use Rattle.cow_arena.specs.Ways.{Arrives}
use Rattle.cow_split.specs.Cost.{depth}
use Rattle.cow_split.specs.Search.{viewers_over}
use Rattle.cow_split.specs.Viewers.{IsBelowAll, IsLeastKoid}
use Rattle.cow_split.specs.declared.answers.Holder.{Holder}
use Rattle.cow_split.specs.declared.answers.Holder.TheVariants as holder
use Rattle.cow_split.specs.declared.viewers.Cursor.{Cursor}
use Rattle.cow_split.specs.declared.viewers.Met.{Met}
use Rattle.cow_split.specs.declared.viewers.Met.TheVariants as met

-- the visible nodes at or below this child that reach page q of its parent, other than the one that is excepted
abbrev pub viewers_at : Tree → (except child : Option NodeId) → (q : ℕ) → List ℕ
viewers_at t except child q = viewers_over t.nodes t.slots except t.lists child q

-- the visible nodes that a search finds at and below a child, at a page of the child's parent
abbrev pub FoundBelow : Type 0
FoundBelow = Option NodeId → ℕ → List ℕ

-- page p of the hidden node k is a page of its parent, and the node has no row there: a search goes on below it
pub record IsThrough (t : Tree) (k p : ℕ) (node : Node) : Type 0 where
  pub at : t.nodes k ≡ Some node
  pub hidden : node.koid ≡ None
  pub inside : p < node.seen
  pub free : t.slots node.list.0 p ≡ None

-- a search goes on from page q of the parent of node k to page p of the node, and enters its left child l
pub record IsOnward (t : Tree) (k q l p : ℕ) : Type 0 where
  pub node : Node
  pub through : IsThrough t k p node
  pub page : q ≡ p + node.first
  pub left : node.left ≡ link_to l

-- A search from left to right began at node `start`, with page `whole` of its parent, and may come to node k with page
-- q of the parent of k. After all that is at and below k it finds `after`: what is below the right child of each node
-- at which the way down to k goes to the left.
pub data OnWay (t : Tree) (below : FoundBelow) (start whole : ℕ) : ℕ → ℕ → List ℕ → Type 0 where
  at_start : (k q : ℕ) (after : List ℕ) (node : Node) → t.nodes k ≡ Some node → k ≡ start → q ≡ whole → after ≡ [] →
      OnWay t below start whole k q after
  to_left : (l p : ℕ) (after : List ℕ) (k : ℕ) (node : Node) (rest : List ℕ) → OnWay t below start whole k (p + node.first) rest →
      IsThrough t k p node → node.left ≡ link_to l → after ≡ below node.right p ++ rest → OnWay t below start whole l p after
  to_right : (r p : ℕ) (after : List ℕ) (k : ℕ) (node : Node) → OnWay t below start whole k (p + node.first) after → IsThrough t k p node →
      node.right ≡ link_to r → OnWay t below start whole r p after

-- a search has come to node k, and finds `after` once it is done with all that is at and below k
pub record IsPassed (t : Tree) (below : FoundBelow) (start k q : ℕ) (after : List ℕ) : Type 0 where
  pub whole : ℕ
  pub fits : whole < 2 ^ 64
  pub way : OnWay t below start whole k q after

-- some search has come to node k
pub record IsPassedBySome (nodes : Nodes) (lists start k q : ℕ) : Type 0 where
  pub slots : Slots
  pub below : FoundBelow
  pub after : List ℕ
  pub passed : IsPassed (tree_with nodes lists slots) below start k q after

-- a search goes on at node k, with page q of its parent, and finds `ahead`, at and below k and after it
pub record GoesOn (t : Tree) (below : FoundBelow) (start k q : ℕ) (ahead : List ℕ) : Type 0 where
  pub after : List ℕ
  pub passed : IsPassed t below start k q after
  pub ahead_is : ahead ≡ below (link_to k) q ++ after

-- these are ahead of a search. If the search goes on nowhere, nobody is
abbrev pub IsAhead : Tree → (below : FoundBelow) → Option Cursor → (ahead : List ℕ) → Type 0
IsAhead t below None ahead = ahead ≡ []
IsAhead t below (Some from) ahead = GoesOn t below from.start.0 from.at.0 from.page ahead

-- a search for all visible nodes finds these from there on
abbrev pub Finds : Tree → (except : Option NodeId) → Option Cursor → (ahead : List ℕ) → Type 0
Finds t except from ahead = IsAhead t (viewers_at t except) from ahead

-- a search goes on from there
pub record IsSearch (t : Tree) (except : Option NodeId) (from : Option Cursor) : Type 0 where
  pub ahead : List ℕ
  pub finds : Finds t except from ahead

-- of the nodes `ahead` a search finds node v first, and the others from here on
pub record FindsFirst (t : Tree) (except : Option NodeId) (v : ℕ) (from : Option Cursor) (ahead : List ℕ) : Type 0 where
  pub rest : List ℕ
  pub finds : Finds t except from rest
  pub ahead_is : ahead ≡ v ∷ rest

-- of all these nodes a search has found the first ones, and the others are ahead of it
pub record IsAmid (t : Tree) (except : Option NodeId) (all found : List ℕ) (from : Option Cursor) : Type 0 where
  pub ahead : List ℕ
  pub finds : Finds t except from ahead
  pub all_is : all ≡ found ++ ahead

-- a search has counted the nodes that it found
pub record HasCounted (t : Tree) (except : Option NodeId) (all : List ℕ) (count : ℕ) (from : Option Cursor) : Type 0 where
  pub found : List ℕ
  pub amid : IsAmid t except all found from
  pub count_is : count ≡ length found

-- this is the least koid of the nodes that a search found
pub record HasLeast (t : Tree) (except : Option NodeId) (all : List ℕ) (least : Option Koid) (from : Option Cursor) : Type 0 where
  pub found : List ℕ
  pub amid : IsAmid t except all found from
  pub least_is : MatchOption least (found ≡ []) (λ koid. IsLeastKoid t.nodes found koid)

-- no node that a search found has a koid that is less than this
pub record HasNoneLess (t : Tree) (except : Option NodeId) (all : List ℕ) (koid : Koid) (from : Option Cursor) : Type 0 where
  pub found : List ℕ
  pub amid : IsAmid t except all found from
  pub none : IsBelowAll t.nodes found koid

-- what a search meets at node k, at page q of its parent
abbrev pub IsMet : Tree → (except : Option NodeId) → (k q : ℕ) → Met → Type 0
IsMet t except k q met.Viewer = viewers_at t except (link_to k) q ≡ k ∷ []
IsMet t except k q (met.Below left p) = IsOnward t k q left.0 p
IsMet t except k q met.Nobody = viewers_at t except (link_to k) q ≡ []

-- what a search meets at a visible node, which may be excepted
abbrev pub viewer_met : (excepted : Bool) → Met
viewer_met true = met.Nobody
viewer_met false = met.Viewer

-- the sum of the weights of the nodes from this one up to its root, n at most
unfoldable pub sum_up : Nodes → (ℕ → ℕ) → ℕ → Option NodeId → ℕ
sum_up nodes weight zero at = 0
sum_up nodes weight (suc n) None = 0
sum_up nodes weight (suc n) (Some at) = weight at.0 + sum_up nodes weight n (parent_node_in (nodes at.0))

-- the weight of a node: three times that of a child, and so more than that of all that is below the node
abbrev pub weight : Nodes → (lists k : ℕ) → ℕ
weight nodes lists k = 3 ^ (lists - depth nodes lists k)

-- the weight of the right sibling of a left child
abbrev pub weight_beside : Nodes → (lists k : ℕ) → ℕ
weight_beside nodes lists k = beside (side_in nodes k)
  where
    beside : Option Side → ℕ
    beside (Some side.Left) = weight nodes lists k
    beside (Some side.Right) = 0
    beside None = 0

-- the weight of all that a search from left to right enters after node k and what is below it
abbrev pub weight_after : Nodes → (lists k : ℕ) → ℕ
weight_after nodes lists k = sum_up nodes (weight_beside nodes lists) lists (link_to k)

-- the weight of all that a search enters from node k on
abbrev pub weight_ahead : Nodes → (lists k : ℕ) → ℕ
weight_ahead nodes lists k = weight nodes lists k + weight_after nodes lists k

-- the weight of all that a search enters from here on
abbrev pub weight_from : Nodes → (lists : ℕ) → Option Cursor → ℕ
weight_from nodes lists None = 0
weight_from nodes lists (Some from) = weight_ahead nodes lists from.at.0

-- a walk from page p of node k comes to page q of node h, or begins there
pub record ComesTo (t : Tree) (k p h q : ℕ) : Type 0 where
  pub side : Option Side
  pub way : Arrives t k p side h q

-- what is answered about page p of node k is the row of page q of node h
abbrev pub is_row_of : (k p : ℕ) → Holder → (h q : ℕ) → Bool
is_row_of k p (holder.Own slot) h q = (k == h) && (p == q)
is_row_of k p (holder.Above node page side slot) h q = (node.0 == h) && (page == q)
is_row_of k p holder.Nothing h q = false

-- the child of node h on this side is the visible node k
pub record IsLeafOn (nodes : Nodes) (k : ℕ) (s : Side) (h : ℕ) : Type 0 where
  pub above : Node
  pub above_at : nodes h ≡ Some above
  pub child : child_on above s ≡ link_to k
  pub node : Node
  pub visible : IsVisible nodes k node
