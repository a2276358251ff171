-- What is asked about the nodes that see a row.
use Rattle.std.specs.Prelude.{◌≡◌, ℕ, ◌<◌, ◌≤◌, nat_lt, if◌then◌else◌, List, Option, None, Some}
use Rattle.std.specs.List.{Contains}
use Rattle.vm_base.specs.declared.names.Koid.{Koid}
use Rattle.cow_arena.specs.declared.node.Node.{Node}
use Rattle.cow_arena.specs.Nodes.{Nodes}

-- node k is the node of the VMO with this koid
pub record HasKoid (nodes : Nodes) (k : ℕ) (koid : Koid) : Type 0 where
  pub node : Node
  pub at : nodes k ≡ Some node
  pub koid_is : node.koid ≡ Some koid

-- no node of the list has a koid that is less
abbrev pub IsBelowAll : Nodes → List ℕ → Koid → Type 0
IsBelowAll nodes list koid = (w : ℕ) (other : Koid) → Contains list w → HasKoid nodes w other → koid.0 ≤ other.0

-- a node of the list has this koid, which is less than the other
pub record HasLesser (nodes : Nodes) (list : List ℕ) (koid less : Koid) : Type 0 where
  pub v : ℕ
  pub inside : Contains list v
  pub has : HasKoid nodes v less
  pub below : less.0 < koid.0

-- the least koid of the nodes of a list
pub record IsLeastKoid (nodes : Nodes) (list : List ℕ) (koid : Koid) : Type 0 where
  pub v : ℕ
  pub inside : Contains list v
  pub has : HasKoid nodes v koid
  pub least : IsBelowAll nodes list koid

-- the lesser of two koids, if there are two
abbrev pub lesser_of : (one other : Option Koid) → Option Koid
lesser_of None other = other
lesser_of (Some one) None = Some one
lesser_of (Some one) (Some other) = if nat_lt other.0 one.0 then Some other else Some one
