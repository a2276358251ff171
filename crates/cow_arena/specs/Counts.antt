-- How many nodes there are of each kind.
use Rattle.std.specs.Prelude.{◌≡◌, ◌⊎◌, ℕ, ◌<◌, is_some, is_none}
use Rattle.vm_base.specs.Entries.{entry_count}
use Rattle.cow_arena.specs.declared.node.Node.{Node}
use Rattle.cow_arena.specs.Nodes.{Arena, nodes_of}

-- how many nodes are hidden
unfoldable pub hidden_count : Arena → ℕ
hidden_count a = entry_count a.slots.capacity (λ (node : Node). is_none node.koid) (nodes_of a)

-- how many nodes are visible
unfoldable pub visible_count : Arena → ℕ
visible_count a = entry_count a.slots.capacity (λ (node : Node). is_some node.koid) (nodes_of a)

-- fewer nodes are hidden than visible, or there are none
abbrev pub HasFewerHidden : Arena → Type 0
HasFewerHidden a = (hidden_count a < visible_count a) ⊎ ((hidden_count a ≡ 0) × (visible_count a ≡ 0))
