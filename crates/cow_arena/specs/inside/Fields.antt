-- How the fields of the arena are seen, and what holds of them.
use Rattle.std.specs.Prelude.{◌≡◌, ℕ, ◌+◌, ◌<◌, IsSome, is_none}
use Rattle.vm_base.specs.Entries.{entry_count}
use Rattle.cow_arena.specs.declared.arena.CowArena.TheInside.{Inside}
use Rattle.cow_arena.specs.declared.node.Node.{Node}
use Rattle.cow_arena.specs.Nodes.{Arena, nodes_of}
use Rattle.cow_arena.specs.Forest.{IsForest}
use Rattle.cow_arena.specs.Counts.{hidden_count, visible_count}

abbrev pub arena_of : Inside → Arena
arena_of a = record { slots = a.nodes; lists = a.lists }

-- how many nodes have no parent
unfoldable pub root_count : Arena → ℕ
root_count a = entry_count a.slots.capacity (λ (node : Node). is_none node.parent) (nodes_of a)

-- The nodes are a forest, their numbers are below the room of the slab, and the hidden ones are counted.
pub record IsArena (a : Inside) : Type 0 where
  pub forest : IsForest (nodes_of (arena_of a)) a.lists
  pub held : (k : ℕ) → IsSome (nodes_of (arena_of a) k) → k < a.nodes.capacity
  pub hidden : a.hidden ≡ hidden_count (arena_of a)
  pub balance : hidden_count (arena_of a) + root_count (arena_of a) ≡ visible_count (arena_of a)
