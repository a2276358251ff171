-- The same tree under other list numbers.
use Rattle.std.specs.Prelude.{◌≡◌, ℕ, ◌<◌, ◌==◌, if◌then◌else◌}
use Rattle.std.specs.Option.{option_map}
use Rattle.cow_arena.specs.declared.node.Node.{Node}
use Rattle.cow_arena.specs.Nodes.{Nodes}
use Rattle.cow_arena.specs.Walk.{Tree, Slots}

-- the list numbers a and b, each in place of the other
unfoldable pub exchanged : (a b : ℕ) → ℕ → ℕ
exchanged a b l = if l == a then b else if l == b then a else l

-- the node, with the list number that its own is renamed to
abbrev pub renamed_node : (ℕ → ℕ) → Node → Node
renamed_node name node = record node { list = record { 0 = name node.list.0 } }

abbrev pub renamed_nodes : (ℕ → ℕ) → Nodes → Nodes
renamed_nodes name nodes = λ k. option_map (renamed_node name) (nodes k)

-- the tree in which each node has another list number, and the same rows
abbrev pub renamed : (ℕ → ℕ) → Tree → Tree
renamed name t = record { nodes = renamed_nodes name t.nodes; slots = λ l p. t.slots (name l) p; lists = t.lists }

-- a second renaming gives each list its number back, and a list that was given gets the number of one that was given
pub record IsExchange (name : ℕ → ℕ) (lists : ℕ) : Type 0 where
  pub twice : (l : ℕ) → name (name l) ≡ l
  pub below : (l : ℕ) → l < lists → name l < lists

-- the rows of list a stand in list b, and those of b in a
abbrev pub AreExchanged : (old new : Slots) → (a b : ℕ) → Type 0
AreExchanged old new a b = (l p : ℕ) → new l p ≡ old (exchanged a b l) p
