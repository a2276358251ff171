-- The founders of hidden nodes, and which VMOs stand below a node that has founders.
use Rattle.std.specs.Prelude.{◌≡◌, ◌⊎◌, ℕ, ◌≤◌, Option, None, Some, slice_index_or}
use Rattle.vm_base.specs.declared.names.Koid.{Koid}
use Rattle.cow_arena.specs.declared.node.Node.{Node}
use Rattle.cow_arena.specs.Nodes.{Nodes, link_to}
use Rattle.cow_forest.specs.declared.founders.Founders.{Founders}
use Rattle.cow_forest.specs.declared.founders.FounderTable.{FounderTable}

-- the founders that the table has for node k
abbrev pub founders_in : FounderTable → ℕ → Option Founders
founders_in table k = slice_index_or table.entries.items k None

abbrev pub koid_or : (other : ℕ) → Option Koid → ℕ
koid_or other None = other
koid_or other (Some koid) = koid.0

-- the koid of the VMO of node k, or that of the elder founder of a hidden node
abbrev pub eldest : (elder : ℕ → ℕ) → (k : ℕ) → Node → ℕ
eldest elder k node = koid_or (elder k) node.koid

-- All that is at and below node k, a child of h, is the elder founder of h or came no sooner than the younger. If the elder is there, the
-- window of k begins at page 0.
abbrev pub IsUnder : (elder younger : ℕ → ℕ) → (h k : ℕ) → Node → Type 0
IsUnder elder younger h k node = ((eldest elder k node ≡ elder h) × (node.first ≡ 0)) ⊎ (younger h ≤ eldest elder k node)

-- These are the koids of the founders of each hidden node.
pub record AreFoundersBy (nodes : Nodes) (next : ℕ) (elder younger : ℕ → ℕ) : Type 0 where
  pub under : (h k : ℕ) (node : Node) → nodes k ≡ Some node → node.parent ≡ link_to h → IsUnder elder younger h k node
  pub later : (h k : ℕ) (node : Node) → nodes k ≡ Some node → node.koid ≡ None → node.parent ≡ link_to h → younger h ≤ younger k
  pub made : (k : ℕ) → younger k ≤ next

-- Each hidden node has founders, which came before the koid `next`, and those that the table has for it are these.
pub record AreFounders (nodes : Nodes) (next : ℕ) (table : FounderTable) : Type 0 where
  pub elder : ℕ → ℕ
  pub younger : ℕ → ℕ
  pub by : AreFoundersBy nodes next elder younger
  pub noted : (k : ℕ) (node : Node) (founders : Founders) → nodes k ≡ Some node → node.koid ≡ None → founders_in table k ≡ Some founders →
      (founders.elder.0 ≡ elder k) × (founders.younger.0 ≡ younger k)

-- of the koids of the VMOs at and below the hidden node k this is the only one that may be below `koid`
pub record IsElderFor (nodes : Nodes) (table : FounderTable) (k : ℕ) (koid elder : Koid) : Type 0 where
  pub node : Node
  pub at : nodes k ≡ Some node
  pub hidden : node.koid ≡ None
  pub founders : Founders
  pub noted : founders_in table k ≡ Some founders
  pub elder_is : elder ≡ founders.elder
  pub before : koid.0 ≤ founders.younger.0
