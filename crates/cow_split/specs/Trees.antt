-- The clone tree of an arena and the rows of its lists.
use Rattle.std.specs.Prelude.{ℕ, Option, None, Some}
use Rattle.balanced_tree.specs.Rows.{Rows}
use Rattle.balanced_tree.specs.Pairs.{with_pair}
use Rattle.page_list.specs.declared.row.Row.{Row}
use Rattle.page_list.specs.declared.row.Slot.{Slot}
use Rattle.page_list.specs.Lists.{slots_of}
use Rattle.cow_arena.specs.declared.node.Node.{Node}
use Rattle.cow_arena.specs.declared.node.Side.{Side}
use Rattle.cow_arena.specs.Nodes.{Arena, nodes_of}
use Rattle.cow_arena.specs.Walk.{Tree, Found, frame_in}
use Rattle.cow_split.specs.declared.answers.Holder.{Holder}
use Rattle.cow_split.specs.declared.answers.Holder.TheVariants as holder

abbrev pub tree_of : Arena → Rows Row → Tree
tree_of arena lists = record { nodes = nodes_of arena; slots = slots_of lists; lists = arena.lists }

-- the tree with this row, or none, at page q of list l
abbrev pub with_row : Tree → (l q : ℕ) → Option Slot → Tree
with_row t l q row = record t { slots = with_pair t.slots l q row }

-- the number of the list of a node
abbrev pub list_in : Option Node → ℕ
list_in None = 0
list_in (Some node) = node.list.0

-- what a walk found, as it is answered
abbrev pub holder_of : Option Found → Holder
holder_of None = holder.Nothing
holder_of (Some it) = held_at it it.side
  where
    held_at : Found → Option Side → Holder
    held_at it None = holder.Own it.slot
    held_at it (Some side) = holder.Above (record { 0 = it.node }) it.page side it.slot

-- the frame of the row that holds a page
abbrev pub frame_held : Holder → Option ℕ
frame_held (holder.Own row) = frame_in row
frame_held (holder.Above node page side row) = frame_in row
frame_held holder.Nothing = None
