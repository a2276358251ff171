-- The ways upwards: from which pages of which nodes a walk comes to a page of a node.
use Rattle.std.specs.Prelude.{◌≡◌, ◌≢◌, ◌⊎◌, ℕ, zero, suc, ◌+◌, ◌<◌, ◌≤◌, Option, None, Some}
use Rattle.std.specs.Option.{option_map}
use Rattle.page_list.specs.declared.row.Slot.{Slot}
use Rattle.cow_arena.specs.declared.node.Node.{Node}
use Rattle.cow_arena.specs.declared.node.Side.{Side}
use Rattle.cow_arena.specs.Nodes.{link_to, side_in}
use Rattle.cow_arena.specs.Walk.{Tree, Slots, Found, frame_in}

-- node h is there, and its list has this row at page q
pub record HasRow (t : Tree) (h q : ℕ) (slot : Slot) : Type 0 where
  pub node : Node
  pub at : t.nodes h ≡ Some node
  pub row : t.slots node.list.0 q ≡ Some slot

-- A walk goes on from page p of node k to page q of its parent h: the node has no row there, and sees the page.
pub record Climbs (t : Tree) (k p h q : ℕ) : Type 0 where
  pub node : Node
  pub at : t.nodes k ≡ Some node
  pub free : t.slots node.list.0 p ≡ None
  pub inside : p < node.seen
  pub parent : node.parent ≡ link_to h
  pub page : q ≡ node.first + p

-- how a walk from page p of node k begins
pub data Begins (t : Tree) (k p : ℕ) : Type 0 where
  -- no such node is there
  absent_node : t.nodes k ≡ None → Begins t k p
  -- it ends at the node's own row
  own_row : (slot : Slot) → HasRow t k p slot → Begins t k p
  -- it ends with nothing: the node has no row there, and doesn't see the page
  past_window : (node : Node) → t.nodes k ≡ Some node → t.slots node.list.0 p ≡ None → node.seen ≤ p → Begins t k p
  -- it goes on at the parent
  on_upwards : (h q : ℕ) → Climbs t k p h q → Begins t k p

-- a walk goes on from page p of node k to page q of node h, which it enters from its child on this side, after n nodes
-- between
abbrev pub ReachesIn : ℕ → Tree → (k p : ℕ) → Side → (h q : ℕ) → Type 0
ReachesIn zero t k p side h q = Climbs t k p h q × (side_in t.nodes k ≡ Some side)
ReachesIn (suc n) t k p side h q = (j : ℕ) × (r : ℕ) × Climbs t k p j r × ReachesIn n t j r side h q

-- a walk goes on from page p of node k, over one node or more, to page q of node h, which it enters from its child on
-- this side
pub record Reaches (t : Tree) (k p : ℕ) (side : Side) (h q : ℕ) : Type 0 where
  pub between : ℕ
  pub way : ReachesIn between t k p side h q

-- a walk from page p of node k comes to page q of node h from this side, or begins there
abbrev pub Arrives : Tree → (k p : ℕ) → Option Side → (h q : ℕ) → Type 0
Arrives t k p None h q = (k ≡ h) × (p ≡ q)
Arrives t k p (Some side) h q = Reaches t k p side h q

-- a walk from page p of node k ends there
pub record Ends (t : Tree) (k p : ℕ) (it : Found) : Type 0 where
  pub way : Arrives t k p it.side it.node it.page
  pub row : HasRow t it.node it.page it.slot

-- two tables of rows are the same at each place but (l, q)
pub record SameElsewhere (old new : Slots) (l q : ℕ) : Type 0 where
  pub same : (m r : ℕ) → (m ≡ l → r ≡ q → ⊥) → new m r ≡ old m r

-- at each place two tables of rows show the same frame: they are equal but for what they say of sides
pub record SameFrames (old new : Slots) : Type 0 where
  pub same : (l p : ℕ) → option_map frame_in (new l p) ≡ option_map frame_in (old l p)

-- the page had a row with the frame of this one
pub record HadRow (old : Slots) (l q : ℕ) (now : Slot) : Type 0 where
  pub row : Slot
  pub at : old l q ≡ Some row
  pub frame : frame_in now ≡ frame_in row

-- rows may be gone, and those that are left have the frames that they had
pub record IsPartOf (old new : Slots) : Type 0 where
  pub had : (l q : ℕ) (row : Slot) → new l q ≡ Some row → HadRow old l q row

-- what was found, but for what its row says of sides
pub record Sight : Type 0 where
  pub node : ℕ
  pub page : ℕ
  pub side : Option Side
  pub frame : Option ℕ

abbrev pub sight_of : Found → Sight
sight_of it = record { node = it.node; page = it.page; side = it.side; frame = frame_in it.slot }

-- page p of node k lies in the node's window, and is page q of its parent h
pub record IsPageAbove (t : Tree) (k p h q : ℕ) : Type 0 where
  pub node : Node
  pub at : t.nodes k ≡ Some node
  pub inside : p < node.seen
  pub parent : node.parent ≡ link_to h
  pub page : q ≡ node.first + p

-- A walk that goes on upwards from page p of node k comes to page q of node h, from this side: node h is the parent, or the walk
-- comes there from the parent's page. Whether node k has a row at page p is not asked.
pub record Rises (t : Tree) (k p : ℕ) (side : Side) (h q : ℕ) : Type 0 where
  pub j : ℕ
  pub r : ℕ
  pub step : IsPageAbove t k p j r
  pub further : ((j ≡ h) × (r ≡ q) × (side_in t.nodes k ≡ Some side)) ⊎ Reaches t j r side h q

-- no list but this one gets a row at a page that had none
pub record KeepsBare (old new : Slots) (list : ℕ) : Type 0 where
  pub bare : (l q : ℕ) → l ≢ list → old l q ≡ None → new l q ≡ None

-- Rows of a hidden node, which was this parent, may be gone or have moved into the list of its child, the sibling: no other list gets a
-- row at a page that had none, and this one none at a page at which the parent had none either.
pub record KeepsBelow (old new : Slots) (parent sibling : Node) : Type 0 where
  pub others : (l q : ℕ) → l ≢ sibling.list.0 → old l q ≡ None → new l q ≡ None
  pub child : (p : ℕ) → old sibling.list.0 p ≡ None → old parent.list.0 (sibling.first + p) ≡ None → new sibling.list.0 p ≡ None
