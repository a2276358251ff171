-- A range of pages of one visible node that are left out of sight, and what leaving them out changes.
use Rattle.std.specs.Prelude.{◌≡◌, ◌⊎◌, ℕ, ◌+◌, ◌<◌, ◌≤◌, Bool, true, false, ◌&&◌, ◌||◌, ◌==◌, nat_le, nat_lt, Option, None, Some, IsSome}
use Rattle.vm_base.specs.Search.{HasNone}
use Rattle.balanced_tree.specs.Rows.{Rows}
use Rattle.page_list.specs.declared.row.Row.{Row}
use Rattle.page_list.specs.Lists.{slots_of, has_row, row_count}
use Rattle.frame_pool.specs.Pool.{Pool, taken_frames, links_of, is_taken}
use Rattle.page_list.specs.declared.row.Slot.{Slot}
use Rattle.page_list.specs.declared.row.Slot.TheVariants as slot
use Rattle.cow_arena.specs.declared.node.Node.{Node}
use Rattle.cow_arena.specs.declared.node.Side.{Side}
use Rattle.cow_arena.specs.declared.node.Side.TheVariants as side
use Rattle.cow_arena.specs.declared.node.NodeId.{NodeId}
use Rattle.cow_arena.specs.Nodes.{Arena, Nodes, nodes_of, IsVisible}
use Rattle.cow_arena.specs.Walk.{Slots, Tree, tree_with, frame_shown, frame_in}
use Rattle.cow_arena.specs.Ways.{Reaches, Arrives, IsPartOf}
use Rattle.cow_split.specs.Trees.{tree_of}
use Rattle.cow_split.specs.Sight.{IsPage, ShowsSame}
use Rattle.cow_split.specs.Exact.{IsExact, IsOnlyOf, all_in_sight, leaving_out, without_frame}
use Rattle.cow_merge.specs.declared.ranges.Pages.{Pages}

-- the pages of v from `first` to below `end` are left out too
unfoldable pub leaving_range : (ℕ → ℕ → Bool) → (v first end : ℕ) → ℕ → ℕ → Bool
leaving_range out v first end w q = (w == v) && nat_le first q && nat_lt q end || out w q

-- the backlink of the frame of each row leads to the row
pub record AreLinked (rows : Rows Row) (pool : Pool) : Type 0 where
  pub linked : (l q : ℕ) (row : Slot) (tag : ℕ) → slots_of rows l q ≡ Some row → frame_in row ≡ Some tag →
      links_of pool tag ≡ record { list = l; page = q }

-- some frames that were taken may be free, and no other frame changes
pub record GivesBack (before after : Pool) : Type 0 where
  pub frames : after.frames ≡ before.frames
  pub kept : (t : ℕ) → (taken_frames after t ≡ taken_frames before t) ⊎ (taken_frames after t ≡ None)

-- Rows and frames may be gone. Each backlink that led to the row of its frame does, and there is as much room for rows as before.
pub record Accounts (old new : Rows Row) (before after : Pool) : Type 0 where
  pub gives : GivesBack before after
  pub linked : AreLinked old before → AreLinked new after
  pub spare : old.spare ≤ new.spare
  pub count : row_count new ≤ row_count old

-- page q of w is not left out of sight
abbrev pub IsInSight : (ℕ → ℕ → Bool) → (w q : ℕ) → Type 0
IsInSight out w q = out w q ≡ false

-- page q of w is none of the pages of v from `first` on
abbrev pub IsNotFrom : (v first w q : ℕ) → Type 0
IsNotFrom v first w q = w ≡ v → q < first

-- The rows and the frames change under the same nodes, and `Keeps` says which rows may be there. The pages of v from `first` on may
-- show something else.
pub record Moves (arena : Arena) (old new : Rows Row) (before after : Pool) (v first : ℕ) (Keeps : Slots → Slots → Type 0) : Type 0 where
  pub accounts : Accounts old new before after
  pub shows : ShowsSame (tree_of arena old) (tree_of arena new) (IsNotFrom v first)
  pub keeps : Keeps (slots_of old) (slots_of new)

-- each page of v is left out
abbrev pub IsAllOut : Tree → (ℕ → ℕ → Bool) → ℕ → Type 0
IsAllOut t out v = (p : ℕ) → IsPage t v p → out v p ≡ true

-- if there is a frame, it was taken and is free, and no other frame changes
pub record HasGiven (before after : Pool) (frame : Option ℕ) : Type 0 where
  pub taken : (t : ℕ) → is_taken after t ≡ without_frame (is_taken before) frame t
  pub links : links_of after ≡ links_of before
  pub gives : GivesBack before after

-- Page p of v is left out of sight too: a row that only this page saw is gone, and its frame is given back. Or no page is
-- left out, since this page is spared. Afterwards the pages `now` are out of sight, and the others show what they showed.
pub record HasCutOff (arena : Arena) (old new : Rows Row) (before after : Pool) (v p : ℕ) (Spared : Type 0) (out : ℕ → ℕ → Bool) : Type 0 where
  pub now : ℕ → ℕ → Bool
  pub leaves : (now ≡ leaving_out out v p) ⊎ (now ≡ out) × Spared
  pub exact : IsExact (tree_of arena new) now (is_taken after)
  pub shows : ShowsSame (tree_of arena old) (tree_of arena new) (IsInSight now)
  pub part : IsPartOf (slots_of old) (slots_of new)
  pub accounts : Accounts old new before after

-- the tree is exact with some pages of the visible node v left out, and no others
pub record IsExactFor (arena : Arena) (rows : Rows Row) (pool : Pool) (v : ℕ) : Type 0 where
  pub out : ℕ → ℕ → Bool
  pub exact : IsExact (tree_of arena rows) out (is_taken pool)
  pub only : IsOnlyOf out v
  pub node : Node
  pub visible : IsVisible (nodes_of arena) v node

-- some pages of the visible node v, all from `first` on, are left out, and v has no rows from there to below `end`
pub record IsDropping (arena : Arena) (rows : Rows Row) (pool : Pool) (v : ℕ) (node : Node) (first end : ℕ) : Type 0 where
  pub out : ℕ → ℕ → Bool
  pub exact : IsExact (tree_of arena rows) out (is_taken pool)
  pub only : IsOnlyOf out v
  pub within : (q : ℕ) → out v q ≡ true → first ≤ q
  pub visible : IsVisible (nodes_of arena) v node
  pub bare : HasNone (has_row (slots_of rows node.list.0)) first end

-- the same, with no end
pub record IsLeftBare (arena : Arena) (rows : Rows Row) (pool : Pool) (v first : ℕ) : Type 0 where
  pub has : IsExactFor arena rows pool v
  pub within : (q : ℕ) → has.out v q ≡ true → first ≤ q
  pub bare : (p : ℕ) → first ≤ p → slots_of rows has.node.list.0 p ≡ None

-- the page is none of these
abbrev pub IsOutside : Pages → ℕ → Type 0
IsOutside pages q = (q < pages.from) ⊎ (pages.to ≤ q)

abbrev pub no_pages : Pages
no_pages = record { from = 0; to = 0 }

-- Page q of v, which is not passed over, comes to page q + shift of node h, below `to`. If this page is below `upto`,
-- it has no row in the list of h.
pub record CameTo (t : Tree) (v q : ℕ) (skip : Pages) (h list shift to upto : ℕ) : Type 0 where
  pub side : Option Side
  pub apart : IsOutside skip q
  pub page : ℕ
  pub is : page ≡ q + shift
  pub way : Arrives t v q side h page
  pub below : page < to
  pub free : page < upto → t.slots list page ≡ None

-- page p of this node lies in its window over node h, whose list has a row there
pub record IsHeldBy (nodes : Nodes) (slots : Slots) (h : ℕ) (node : Node) (p : ℕ) : Type 0 where
  pub above : Node
  pub at : nodes h ≡ Some above
  pub row : IsSome (slots above.list.0 (node.first + p))
  pub inside : p < node.seen

-- the page is held by the node that is spared, if one is
abbrev pub IsSpared : Nodes → Slots → Option NodeId → Node → ℕ → Type 0
IsSpared nodes slots None node p = ⊥
IsSpared nodes slots (Some h) node p = IsHeldBy nodes slots h.0 node p

-- the node that is spared, if one is, is the parent of this one
abbrev pub IsParent : Option NodeId → Node → Type 0
IsParent spared node = (h : NodeId) → spared ≡ Some h → node.parent ≡ Some h

-- Each page of v from `first` on that still shows a frame is held by the spared node, if one is spared, or it comes to
-- a page of h below `to`, is not passed over, and comes to no row of h below `upto`.
pub record IsPassing (arena : Arena) (rows : Rows Row) (pool : Pool) (v first : ℕ) (skip : Pages) (spared : Option NodeId)
    (above : Node) (shift to upto : ℕ) : Type 0 where
  pub bare : IsLeftBare arena rows pool v first
  pub parent : IsParent spared bare.has.node
  pub h : ℕ
  pub at : nodes_of arena h ≡ Some above
  pub came : (q tag : ℕ) → first ≤ q → q < bare.has.node.count → bare.has.out v q ≡ false → frame_shown (tree_of arena rows) v q ≡ Some tag →
      IsSpared (nodes_of arena) (slots_of rows) spared bare.has.node q ⊎ CameTo (tree_of arena rows) v q skip h above.list.0 shift to upto

-- Each page of v from `first` on that still shows a frame is held by the node that is spared.
pub record IsSparing (arena : Arena) (rows : Rows Row) (pool : Pool) (v first : ℕ) (spared : Option NodeId) : Type 0 where
  pub bare : IsLeftBare arena rows pool v first
  pub spares : (q tag : ℕ) → first ≤ q → q < bare.has.node.count → bare.has.out v q ≡ false → frame_shown (tree_of arena rows) v q ≡ Some tag →
      IsSpared (nodes_of arena) (slots_of rows) spared bare.has.node q

-- a range of pages of v is on its way up, and some parent may be spared
pub record IsOnItsWayUp (arena : Arena) (rows : Rows Row) (pool : Pool) (v first : ℕ) (skip : Pages) (above : Node) (shift to upto : ℕ) : Type 0 where
  pub spared : Option NodeId
  pub passing : IsPassing arena rows pool v first skip spared above shift to upto

-- The least page of a list, from `from` on and below `to`, that has a row, passing over the pages to which only pages
-- of `skip` come. Page q comes to page q + shift.
pub record IsNextOutside (slots : ℕ → Option Slot) (from to shift : ℕ) (skip : Pages) (row : ℕ) : Type 0 where
  pub least : from ≤ row
  pub below : row < to
  pub there : IsSome (slots row)
  pub none : (q : ℕ) → from ≤ q + shift → q + shift < row → IsOutside skip q → slots (q + shift) ≡ None

-- the tree without its rows, in which pages go up through the windows alone
abbrev pub bare_of : Arena → Tree
bare_of arena = tree_with (nodes_of arena) arena.lists (λ l p. None)

-- the bit of this side
abbrev pub bit_on : Side → (left right : Bool) → Bool
bit_on side.Left left right = left
bit_on side.Right left right = right

-- the row has a frame, and its bit of this side is set
abbrev pub is_split : Side → Slot → Bool
is_split from (slot.Frame tag left right) = bit_on from left right
is_split from slot.Zero = false

-- no page of v but page p comes to page q of node h, and page p comes there from this side alone
pub record IsOnlyWay (t : Tree) (v p : ℕ) (from : Side) (h q : ℕ) : Type 0 where
  pub only : (x : ℕ) (s : Side) → Reaches t v x s h q → (x ≡ p) × (s ≡ from)

-- no walk from page p of v comes to page q of node h
abbrev pub ComesNotTo : Tree → (v p h q : ℕ) → Type 0
ComesNotTo t v p h q = (side : Option Side) → Arrives t v p side h q → ⊥

-- The pages of the visible node v from `first` on are out of sight: the tree is exact with them left out, and v has no
-- rows there.
pub record IsLeftOut (arena : Arena) (rows : Rows Row) (pool : Pool) (v : ℕ) (node : Node) (first : ℕ) : Type 0 where
  pub exact : IsExact (tree_of arena rows) (leaving_range all_in_sight v first node.count) (is_taken pool)
  pub bare : (p : ℕ) → first ≤ p → slots_of rows node.list.0 p ≡ None
