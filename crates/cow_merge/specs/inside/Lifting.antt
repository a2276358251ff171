-- The rows of a hidden node of which one child goes: each row goes too, or moves into the list of the other child.
use Rattle.std.specs.Prelude.{◌≡◌, ◌↔◌, ℕ, ◌+◌, ◌-◌, ◌<◌, ◌≤◌, ◌==◌, Bool, true, false, not, Option, None, Some, IsSome, IfSome, IsTrue}
use Rattle.balanced_tree.specs.Rows.{Rows}
use Rattle.vm_base.specs.Entries.{passes}
use Rattle.vm_base.specs.declared.names.Tag.{Tag}
use Rattle.page_list.specs.declared.row.Row.{Row}
use Rattle.page_list.specs.declared.row.Slot.{Slot}
use Rattle.page_list.specs.declared.row.Slot.TheVariants as slot
use Rattle.page_list.specs.Lists.{slots_of}
use Rattle.frame_pool.specs.Pool.{Pool, is_taken}
use Rattle.cow_arena.specs.declared.node.Node.{Node}
use Rattle.cow_arena.specs.declared.node.Side.{Side}
use Rattle.cow_arena.specs.declared.node.Side.TheVariants as side
use Rattle.cow_arena.specs.Nodes.{Arena, nodes_of, AreFamily, IsVisible}
use Rattle.cow_arena.specs.Walk.{Slots, Tree, tree_with, frame_in, frame_shown}
use Rattle.cow_arena.specs.Ways.{KeepsBelow}
use Rattle.cow_split.specs.Search.{reached_from}
use Rattle.cow_split.specs.Exact.{IsExact, IsOnlyOf}
use Rattle.cow_merge.specs.Ranges.{bit_on, IsHeldBy}

-- each page of node k that comes to page q of its parent is left out of sight; `node` is k
abbrev pub IsAside : (ℕ → ℕ → Bool) → (k : ℕ) → Node → (q : ℕ) → Type 0
IsAside out k node q = (p : ℕ) → q ≡ node.first + p → p < node.seen → out k p ≡ true

-- the node sees the row of page q of its parent: the page lies in its window, and it has no row of its own there
pub record SeesRow (slots : Slots) (node : Node) (q : ℕ) : Type 0 where
  pub from : node.first ≤ q
  pub inside : q - node.first < node.seen
  pub free : slots node.list.0 (q - node.first) ≡ None

-- page p of node s is reached from one side at least
abbrev pub IsReachedBelow : Tree → (s p : ℕ) → Type 0
IsReachedBelow t s p = (below : Side) × (reached_from t None below s p ≡ true)

-- The row moves to page p of node s, and keeps its frame. In a visible node its bits are false, and in a hidden one
-- each says that no VMO on its side sees the row.
pub record IsMoved (t : Tree) (s p : ℕ) (node : Node) (before after : Slot) : Type 0 where
  pub frame : frame_in after ≡ frame_in before
  pub plain : (tag : Tag) (left right : Bool) → after ≡ slot.Frame tag left right → IsSome node.koid →
      (left ≡ false) × (right ≡ false)
  pub split : (tag : Tag) (left right : Bool) → after ≡ slot.Frame tag left right → node.koid ≡ None →
      (left ≡ not (reached_from t None side.Left s p)) × (right ≡ not (reached_from t None side.Right s p))

-- the slot has the frame t
abbrev pub is_row_of_frame : ℕ → Slot → Bool
is_row_of_frame t slot = passes (λ tag. t == tag) (frame_in slot)

-- k is a VMO's node, h its parent, and s the other child of h
pub record IsFamilyOf (arena : Arena) (k h s : ℕ) : Type 0 where
  pub node : Node
  pub parent : Node
  pub sibling : Node
  pub family : AreFamily (nodes_of arena) k h s node parent sibling
  pub visible : IsVisible (nodes_of arena) k node

-- The tree of these slots is exact with some pages of the VMO's node k left out. The node has no rows, and each other page of it that shows
-- a frame is held by its parent h.
pub record AreLifted (arena : Arena) (slots : Slots) (pool : Pool) (k h : ℕ) (node : Node) : Type 0 where
  pub out : ℕ → ℕ → Bool
  pub exact : IsExact (tree_with (nodes_of arena) arena.lists slots) out (is_taken pool)
  pub only : IsOnlyOf out k
  pub bare : (p : ℕ) → slots node.list.0 p ≡ None
  pub held : (p tag : ℕ) → p < node.count → out k p ≡ false →
      frame_shown (tree_with (nodes_of arena) arena.lists slots) k p ≡ Some tag → IsHeldBy (nodes_of arena) slots h node p

-- Rows of h, the parent of the VMO's node k, may go or move into the list of s, the other child of h.
pub record IsLifting (arena : Arena) (rows : Rows Row) (pool : Pool) (k h s : ℕ) : Type 0 where
  pub of : IsFamilyOf arena k h s
  pub lifted : AreLifted arena (slots_of rows) pool k h of.node

-- Rows of h went or moved so, and those that are left in the list of h are as they were.
pub record KeepsFamily (arena : Arena) (k h s : ℕ) (old new : Slots) : Type 0 where
  pub below : (of : IsFamilyOf arena k h s) → KeepsBelow old new of.parent of.sibling
  pub left : (parent : Node) → nodes_of arena h ≡ Some parent → (p : ℕ) (row : Slot) → new parent.list.0 p ≡ Some row → old parent.list.0 p ≡ Some row

-- the page is below `to`, if there is a `to`
abbrev pub IsBefore : Option ℕ → ℕ → Type 0
IsBefore to p = IfSome to (λ (end : ℕ). p < end)

-- Whether the row of page q of a hidden node is seen through its child on this side. For a row with a frame the bit of
-- the side says so. A zero row is seen through the child if and only if the child itself sees it.
pub record TellsSeen (slots : Slots) (side : Side) (node : Node) (q : ℕ) (row : Slot) (seen : Bool) : Type 0 where
  pub frame : (tag : Tag) (left right : Bool) → row ≡ slot.Frame tag left right → seen ≡ not (bit_on side left right)
  pub zero : row ≡ slot.Zero → IsTrue seen ↔ SeesRow slots node q
