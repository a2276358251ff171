-- The list of a hidden node goes over to one of its children: the hidden node's rows stay in the list, and the child's
-- rows come to them.
use Rattle.std.specs.Prelude.{◌≡◌, ℕ, ◌<◌, ◌≤◌, Bool, false, Option, None, Some, IsSome}
use Rattle.balanced_tree.specs.Rows.{Rows}
use Rattle.vm_base.specs.declared.names.Tag.{Tag}
use Rattle.page_list.specs.declared.row.Row.{Row}
use Rattle.page_list.specs.declared.row.Slot.{Slot}
use Rattle.page_list.specs.declared.row.Slot.TheVariants as slot
use Rattle.page_list.specs.Lists.{slots_of}
use Rattle.frame_pool.specs.Pool.{Pool}
use Rattle.cow_arena.specs.declared.node.Node.{Node}
use Rattle.cow_arena.specs.declared.node.Side.{Side}
use Rattle.cow_arena.specs.Nodes.{Arena, nodes_of, side_of}
use Rattle.cow_arena.specs.Renamed.{exchanged}
use Rattle.cow_arena.specs.Walk.{Slots, tree_with, frame_in}
use Rattle.cow_arena.specs.Ways.{KeepsBelow}
use Rattle.cow_split.specs.Trees.{tree_of}
use Rattle.cow_split.specs.Sight.{ShowsSame}
use Rattle.cow_merge.specs.Ranges.{bit_on, Accounts, IsNotFrom}
use Rattle.cow_merge.specs.inside.Lifting.{IsFamilyOf, AreLifted, IsBefore}
use Rattle.cow_merge.specs.inside.Sharing.{IsReached}

-- the frame of the row that a page has, if it has one
abbrev pub frame_there : Option Slot → Option ℕ
frame_there None = None
frame_there (Some row) = frame_in row

-- no row of the pages `first` to below `end` of the parent, if it has a frame, says that nobody sees it from the side
-- of the child k
pub record AreSeenFrom (slots : Slots) (parent : Node) (k first end : ℕ) : Type 0 where
  pub bit : (q : ℕ) (tag : Tag) (left right : Bool) → first ≤ q → q < end → slots parent.list.0 q ≡ Some (slot.Frame tag left right) →
      bit_on (side_of parent k) left right ≡ false

-- The list of h, the parent of the VMO's node k, goes over to the other child s of h. `slots` is what the rows would be
-- if each row of h below page `from` had moved into the list of s, or each row without a `from`. The tree is exact with
-- `slots`. In fact those rows are still in the list of h, and the rows of s at these pages are too: before `from` the two
-- lists are exchanged.
pub record IsHandingOver (arena : Arena) (old new : Rows Row) (before after : Pool) (k h s : ℕ) (from : Option ℕ) : Type 0 where
  pub of : IsFamilyOf arena k h s
  pub slots : Slots
  pub lifted : AreLifted arena slots after k h of.node
  pub shows : ShowsSame (tree_of arena old) (tree_with (nodes_of arena) arena.lists slots) (IsNotFrom k 0)
  pub below : KeepsBelow (slots_of old) slots of.parent of.sibling
  pub first : of.sibling.first ≡ 0
  pub shared : of.sibling.koid ≡ None → (q : ℕ) → IsSome (slots of.parent.list.0 q) → (side : Side) →
      IsReached (tree_with (nodes_of arena) arena.lists slots) side s q
  pub passed : (l p : ℕ) → IsBefore from p → slots_of new l p ≡ slots (exchanged of.parent.list.0 of.sibling.list.0 l) p
  pub ahead : (l p : ℕ) → (IsBefore from p → ⊥) → slots_of new l p ≡ slots l p
  pub empty : (p : ℕ) → IsBefore from p → slots of.parent.list.0 p ≡ None
  -- both children see the rows of h that are left, unless s has a row of its own there
  pub inside : (q : ℕ) → IsSome (slots of.parent.list.0 q) → q < of.sibling.seen
  pub seen : (end : ℕ) → AreSeenFrom slots of.parent k 0 end
  pub accounts : Accounts old new before after
