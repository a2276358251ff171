-- The search downwards for the visible nodes that see a page of a hidden one.
use Rattle.std.specs.Prelude.{ℕ, zero, suc, ◌+◌, ◌-◌, Bool, true, false, ◌&&◌, nat_le, nat_lt, if◌then◌else◌, List, [], ◌∷◌, ◌++◌, Option, None, Some}
use Rattle.vm_base.specs.declared.names.Koid.{Koid}
use Rattle.page_list.specs.declared.row.Slot.{Slot}
use Rattle.cow_arena.specs.declared.node.NodeId.{NodeId}
use Rattle.cow_arena.specs.declared.node.Node.{Node}
use Rattle.cow_arena.specs.declared.node.Side.{Side}
use Rattle.cow_arena.specs.Nodes.{Nodes, leads_to, child_on}
use Rattle.cow_arena.specs.Walk.{Slots, Tree}

-- page q of its parent lies in the node's window
abbrev pub in_window : Node → ℕ → Bool
in_window node q = nat_le node.first q && nat_lt q (node.first + node.seen)

module _ (nodes : Nodes) (slots : Slots) (except : Option NodeId) where
  -- node k alone, if it has a koid and is not the excepted one, or the visible nodes that are found below its children,
  -- as `further` says
  abbrev pub ends : (Option NodeId → ℕ → List ℕ) → ℕ → Node → ℕ → Option Koid → List ℕ
  ends further k node p (Some koid) = if leads_to except k then [] else k ∷ []
  ends further k node p None = further node.left p ++ further node.right p

  -- the same at page p of a node; the last argument is the node's row there. A row hides those above it
  abbrev pub meets : (Option NodeId → ℕ → List ℕ) → ℕ → Node → ℕ → Option Slot → List ℕ
  meets further k node p (Some slot) = []
  meets further k node p None = ends further k node p node.koid

  abbrev pub enters : (Option NodeId → ℕ → List ℕ) → ℕ → ℕ → Option Node → List ℕ
  enters further k q None = []
  enters further k q (Some node) = if in_window node q
      then meets further k node (q - node.first) (slots node.list.0 (q - node.first))
      else []

  -- The visible nodes at or below this child of a node that reach page q of the node, through the windows and past no
  -- row, in at most n steps down, from left to right. The node that is excepted does not count.
  unfoldable pub viewers_over : ℕ → Option NodeId → ℕ → List ℕ
  viewers_over zero child q = []
  viewers_over (suc n) None q = []
  viewers_over (suc n) (Some child) q = enters (viewers_over n) child.0 q (nodes child.0)

-- the visible nodes on this side from which page q of node h is reached, other than the one that is excepted
abbrev pub viewers_from : Tree → Option NodeId → Side → ℕ → ℕ → List ℕ
viewers_from t except side h q = viewers_below (t.nodes h)
  where
    viewers_below : Option Node → List ℕ
    viewers_below None = []
    viewers_below (Some node) = viewers_over t.nodes t.slots except t.lists (child_on node side) q

-- the list has a node
abbrev pub has_some : List ℕ → Bool
has_some [] = false
has_some (k ∷ list) = true

-- page q of node h is reached from a visible node on this side, other than the one that is excepted
abbrev pub reached_from : Tree → Option NodeId → Side → ℕ → ℕ → Bool
reached_from t except side h q = has_some (viewers_from t except side h q)
