-- How the fields of a table of nodes are seen, and what holds of them.
use Rattle.std.specs.Prelude.{◌≡◌, ℕ, ◌%◌, List, Option, None, Some, slice_index_or}
use Rattle.std.specs.HashMap.{spare}
use Rattle.cow_arena.specs.declared.node.NodeId.{NodeId}
use Rattle.cow_forest.specs.declared.node_table.TheConstants.{PLACES}
use Rattle.cow_forest.specs.declared.node_table.NodeTable.TheInside.{Inside}
use Rattle.cow_forest.specs.Tables.{NodeEntries}

abbrev pub entries_of : Inside → NodeEntries
entries_of a = record { recent = a.recent; displaced = a.displaced.entries; spare = spare a.displaced }

-- each entry of the array stands at the place of its number
pub record IsPlacedByNumber (recent : List (Option (ℕ × NodeId))) : Type 0 where
  pub place : (i n : ℕ) (node : NodeId) → slice_index_or recent i None ≡ Some (n, node) → n % PLACES ≡ i

pub record ArePlacedByNumber (a : Inside) : Type 0 where
  pub placed : IsPlacedByNumber a.recent
