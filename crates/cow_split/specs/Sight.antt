-- Which visible nodes see a row.
use Rattle.std.specs.Prelude.{◌≡◌, ℕ, ◌<◌, Bool, false, Option, Some}
use Rattle.page_list.specs.declared.row.Slot.{Slot}
use Rattle.cow_arena.specs.declared.node.Node.{Node}
use Rattle.cow_arena.specs.declared.node.Side.{Side}
use Rattle.cow_arena.specs.Nodes.{Nodes, IsVisible}
use Rattle.cow_arena.specs.Walk.{Tree, walk, frame_shown}

-- p is a page of the visible node v
pub record IsPage (t : Tree) (v p : ℕ) : Type 0 where
  pub node : Node
  pub visible : IsVisible t.nodes v node
  pub below : p < node.count

-- The visible node v sees the row of page q of node h by its page p: the walk from there ends at the row. `side` says
-- from which side it comes, if h is not v.
pub record Sees (t : Tree) (v p : ℕ) (side : Option Side) (h q : ℕ) : Type 0 where
  pub page : IsPage t v p
  pub slot : Slot
  pub found : walk t v p ≡ Some (record { node = h; page = q; side = side; slot = slot })

-- the visible node v sees the row of page q of node h by some page
pub record IsSeenBy (t : Tree) (v h q : ℕ) : Type 0 where
  pub p : ℕ
  pub side : Option Side
  pub sees : Sees t v p side h q

-- Some visible node sees the row of page q of node h from this side, by a page that is not left out of sight.
pub record IsSeenFrom (t : Tree) (out : ℕ → ℕ → Bool) (side : Side) (h q : ℕ) : Type 0 where
  pub v : ℕ
  pub p : ℕ
  pub sees : Sees t v p (Some side) h q
  pub in_sight : out v p ≡ false

-- no visible node but v shows the frame
abbrev pub IsLastViewer : Tree → (v tag : ℕ) → Type 0
IsLastViewer t v tag = (w p : ℕ) → IsPage t w p → frame_shown t w p ≡ Some tag → w ≡ v

-- each page of a visible node of which this holds shows the frame that it showed before, or is zero as before
abbrev pub ShowsSame : (old new : Tree) → (Holds : ℕ → ℕ → Type 0) → Type 0
ShowsSame old new Holds = (w q : ℕ) → IsPage old w q → Holds w q → frame_shown new w q ≡ frame_shown old w q

-- page q of w is another than page p of v
abbrev pub IsNotPage : (v p w q : ℕ) → Type 0
IsNotPage v p w q = (w ≡ v) × (q ≡ p) → ⊥

-- node w is visible as before, with its koid and its count
pub record StaysVisible (old new : Nodes) (w : ℕ) (node : Node) : Type 0 where
  pub after : Node
  pub at : new w ≡ Some after
  pub koid : after.koid ≡ node.koid
  pub count : after.count ≡ node.count

-- node j was there, with the koid and the list that it has now
pub record CameFrom (old : Nodes) (j : ℕ) (now : Node) : Type 0 where
  pub node : Node
  pub at : old j ≡ Some node
  pub koid : now.koid ≡ node.koid
  pub list : now.list ≡ node.list
