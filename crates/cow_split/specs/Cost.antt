-- What a walk upwards costs, in rows that are looked at.
use Rattle.std.specs.Prelude.{ℕ, zero, suc, ◌+◌, ◌^◌, ◌≤◌, Option, None, Some}
use Rattle.cow_arena.specs.declared.node.NodeId.{NodeId}
use Rattle.cow_arena.specs.Nodes.{Nodes, link_to, parent_node_in}

-- no look-up in a table of so many rows looks at more rows than this
pub record IsMostOfLookUp (rows most : ℕ) : Type 0 where
  pub most_is : (steps : ℕ) → 2 ^ steps ≤ (rows + 1) ^ 2 → steps ≤ most

-- how many nodes there are from this one up to its root, n at most
unfoldable pub nodes_up : Nodes → ℕ → Option NodeId → ℕ
nodes_up nodes zero at = 0
nodes_up nodes (suc n) None = 0
nodes_up nodes (suc n) (Some at) = suc (nodes_up nodes n (parent_node_in (nodes at.0)))

-- how many nodes there are from node k up to its root. They are not more than the lists that were given
abbrev pub depth : Nodes → (lists k : ℕ) → ℕ
depth nodes lists k = nodes_up nodes lists (link_to k)
