-- A way down from the sibling of a VMO's node that goes. Another VMO shows the pages of the way too.
use Rattle.std.specs.Prelude.{◌≡◌, ◌≢◌, ◌⊎◌, ℕ, ◌+◌, ◌<◌, ◌≤◌, ◌^◌, false, Option, None, Some}
use Rattle.std.specs.Option.{option_or}
use Rattle.balanced_tree.specs.Rows.{Rows}
use Rattle.page_list.specs.declared.row.Row.{Row}
use Rattle.page_list.specs.declared.row.Slot.{Slot}
use Rattle.page_list.specs.Lists.{slots_of}
use Rattle.frame_pool.specs.Pool.{Pool}
use Rattle.cow_arena.specs.declared.node.Node.{Node}
use Rattle.cow_arena.specs.declared.node.NodeId.{NodeId}
use Rattle.cow_arena.specs.declared.node.Side.{Side}
use Rattle.cow_arena.specs.Nodes.{Arena, nodes_of, side_in, link_to}
use Rattle.cow_arena.specs.Walk.{Tree, frame_shown}
use Rattle.cow_arena.specs.Ways.{HasRow, Reaches, Arrives}
use Rattle.cow_split.specs.Trees.{tree_of}
use Rattle.cow_merge.specs.declared.witness.Way.{Way}
use Rattle.cow_merge.specs.declared.ranges.Pages.{Pages}
use Rattle.cow_merge.specs.Ranges.{no_pages, CameTo, IsLeftBare, IsOutside, IsParent, IsSpared}

-- The pages of a way lie in the window of its node, and belong to pages of the leaf from `first` on. The leaf's pages
-- come to pages of its parent `base` further on, below `to`.
pub record IsWayWithin (first base to : ℕ) (node : Node) (way : Way) : Type 0 where
  pub inside : (p : ℕ) → way.from ≤ p → p < way.to → p < node.seen
  pub low : (p : ℕ) → way.from ≤ p → p < way.to → first + base ≤ p + way.shift
  pub high : (p : ℕ) → way.from ≤ p → p < way.to → p + way.shift < to

-- The way goes on to this child: from the pages `from` to below `to` of a node to those of them that lie in the child's
-- window.
pub record IsEntered (node : Node) (child : NodeId) (shift from to : ℕ) (way : Way) : Type 0 where
  pub at : way.at ≡ child
  pub shift_is : shift + node.first < 2 ^ 64 → way.shift ≡ shift + node.first
  pub low : (p : ℕ) → way.from ≤ p → p < way.to → from ≤ node.first + p
  pub high : (p : ℕ) → way.from ≤ p → p < way.to → node.first + p < to
  pub inside : (p : ℕ) → way.from ≤ p → p < way.to → p < node.seen

-- Page q of v comes to page q + base of its parent h. If the way has a page that belongs to q, this page comes to the
-- same page of h, through node e, the parent of the way's node. If the way's page is below `upto`, the way's node has
-- no row there.
pub record ComesBeside (t : Tree) (v q h list base to e : ℕ) (node : Node) (from : Option Side) (way : Way) (upto : ℕ) : Type 0 where
  pub came : CameTo t v q no_pages h list base to to
  pub beside : (p : ℕ) → q + base ≡ p + way.shift → way.from ≤ p → p < way.to → Arrives t e (node.first + p) from h (q + base)
  pub free : (p : ℕ) → q + base ≡ p + way.shift → way.from ≤ p → p < upto → t.slots node.list.0 p ≡ None

-- The way has come, over the child on side s of the node where it began, to a child of node e, in whose window its pages lie.
pub record IsWayPlace (arena : Arena) (first base to : ℕ) (s : Side) (way : Way) : Type 0 where
  pub node : Node
  pub node_at : nodes_of arena way.at.0 ≡ Some node
  pub e : ℕ
  pub up : node.parent ≡ link_to e
  pub from : Option Side
  pub side : option_or from (side_in (nodes_of arena) way.at.0) ≡ Some s
  pub within : IsWayWithin first base to node way

-- The way has come from node h, over the child of h on side s, to this place. Each page of v from `first` on
-- that still shows a frame is held by the spared node, if one is spared, or comes to h, and so does the way's page that
-- belongs to it.
pub record IsBeside (arena : Arena) (rows : Rows Row) (pool : Pool) (v first : ℕ) (spared : Option NodeId) (h : ℕ) (above : Node)
    (base to : ℕ) (s : Side) (way : Way) (upto : ℕ) : Type 0 where
  pub bare : IsLeftBare arena rows pool v first
  pub parent : IsParent spared bare.has.node
  pub at : nodes_of arena h ≡ Some above
  pub place : IsWayPlace arena first base to s way
  pub came : (q tag : ℕ) → first ≤ q → q < bare.has.node.count → bare.has.out v q ≡ false → frame_shown (tree_of arena rows) v q ≡ Some tag →
      IsSpared (nodes_of arena) (slots_of rows) spared bare.has.node q
      ⊎ ComesBeside (tree_of arena rows) v q h above.list.0 base to place.e place.node place.from way upto

-- some way has come so far
pub record IsGoingDown (arena : Arena) (rows : Rows Row) (pool : Pool) (v h base : ℕ) (way : Way) : Type 0 where
  pub first : ℕ
  pub spared : Option NodeId
  pub above : Node
  pub to : ℕ
  pub fits : to < 2 ^ 64
  pub side : Side
  pub beside : IsBeside arena rows pool v first spared h above base to side way way.from

-- page p of v sees a row of node h
pub record SeesRowOf (t : Tree) (v p h : ℕ) : Type 0 where
  pub side : Side
  pub page : ℕ
  pub slot : Slot
  pub way : Reaches t v p side h page
  pub row : HasRow t h page slot

-- page p of v shows no frame but one of node h
abbrev pub ShowsOnlyOf : Tree → (v p h : ℕ) → Type 0
ShowsOnlyOf t v p h = (tag : ℕ) → frame_shown t v p ≡ Some tag → SeesRowOf t v p h

-- the page is not before `first`, and what is outside these pages is outside `more` too, unless it is the page
pub record IsOneMore (first : ℕ) (pages : Pages) (page : ℕ) (more : Pages) : Type 0 where
  pub low : first ≤ page
  pub outside : (q : ℕ) → IsOutside pages q → q ≢ page → IsOutside more q
