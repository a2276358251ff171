-- How a page of a node is looked for, from the node upwards. From the Zircon notes on hidden parents.
use Rattle.std.specs.Prelude.{ℕ, zero, suc, ◌+◌, nat_lt, if◌then◌else◌, Bool, Option, None, Some, is_some}
use Rattle.std.specs.Option.{option_map, option_or}
use Rattle.page_list.specs.declared.row.Slot.{Slot}
use Rattle.page_list.specs.declared.row.Slot.TheVariants as slot
use Rattle.cow_arena.specs.declared.node.NodeId.{NodeId}
use Rattle.cow_arena.specs.declared.node.Node.{Node}
use Rattle.cow_arena.specs.declared.node.Side.{Side}
use Rattle.cow_arena.specs.Nodes.{Nodes, side_in}

-- the slot of each page of each list, if it has a row
abbrev pub Slots : Type 0
Slots = ℕ → ℕ → Option Slot

-- the nodes, the rows of their lists, and how many lists were given to nodes so far
pub record Tree : Type 0 where
  pub nodes : Nodes
  pub slots : Slots
  pub lists : ℕ

-- the tree of these nodes with these rows
abbrev pub tree_with : Nodes → (lists : ℕ) → Slots → Tree
tree_with nodes lists slots = record { nodes = nodes; slots = slots; lists = lists }

-- Where a walk ends: the node and the page there, the side from which the walk came, if it began below this node, and
-- the slot of the page's row.
pub record Found : Type 0 where
  pub node : ℕ
  pub page : ℕ
  pub side : Option Side
  pub slot : Slot

-- What a walk finds that comes to a node from this side. The second argument is what it finds from the node on.
abbrev pub from_side : Option Side → Option Found → Option Found
from_side side found = option_map (λ (it : Found). record it { side = option_or it.side side }) found

module _ (nodes : Nodes) (slots : Slots) where
  -- the walk goes on as `further` does at page q of the parent, if there is one
  abbrev climbs : (ℕ → ℕ → Option Found) → ℕ → ℕ → Option NodeId → Option Found
  climbs further k q None = None
  climbs further k q (Some parent) = from_side (side_in nodes k) (further parent.0 q)

  -- the walk at page p of this node, whose row there this is
  abbrev looks : (ℕ → ℕ → Option Found) → ℕ → ℕ → Node → Option Slot → Option Found
  looks further k p node (Some slot) = Some (record { node = k; page = p; side = None; slot = slot })
  looks further k p node None = if nat_lt p node.seen then climbs further k (node.first + p) node.parent else None

  abbrev steps : (ℕ → ℕ → Option Found) → ℕ → ℕ → Option Node → Option Found
  steps further k p None = None
  steps further k p (Some node) = looks further k p node (slots node.list.0 p)

  -- The walk from page p of node k, over n nodes at most. If the node has a row of the page, the walk ends there.
  -- Otherwise it goes on at the parent if the page lies in the node's window, and ends with nothing if not.
  unfoldable pub walk_over : ℕ → ℕ → ℕ → Option Found
  walk_over zero k p = None
  walk_over (suc n) k p = steps (walk_over n) k p (nodes k)

-- The walk from page p of node k. No walk passes more nodes than lists were given.
abbrev pub walk : Tree → ℕ → ℕ → Option Found
walk t k p = walk_over t.nodes t.slots t.lists k p

-- the frame of a slot. None if it says that the page is zero
abbrev pub frame_in : Slot → Option ℕ
frame_in (slot.Frame tag left right) = Some tag.0
frame_in slot.Zero = None

abbrev pub frame_found : Option Found → Option ℕ
frame_found None = None
frame_found (Some it) = frame_in it.slot

-- the frame that page p of node k shows. None if the page is zero
abbrev pub frame_shown : Tree → ℕ → ℕ → Option ℕ
frame_shown t k p = frame_found (walk t k p)

-- page p of node k shows a frame
abbrev pub shows_frame : Tree → (k p : ℕ) → Bool
shows_frame t k p = is_some (frame_shown t k p)
