-- Pages of a hidden node to which VMOs come from both of its sides, and a way down to such a VMO.
use Rattle.std.specs.Prelude.{◌≡◌, ℕ, ◌+◌, ◌<◌, ◌≤◌, Option, None, Some, IsSome}
use Rattle.std.specs.Option.{option_or}
use Rattle.cow_arena.specs.declared.node.Node.{Node}
use Rattle.cow_arena.specs.declared.node.Side.{Side}
use Rattle.cow_arena.specs.Nodes.{side_in, link_to}
use Rattle.cow_arena.specs.Forest.{IsForest}
use Rattle.cow_arena.specs.Walk.{Tree}
use Rattle.cow_arena.specs.Ways.{Reaches, Arrives}
use Rattle.cow_split.specs.Sight.{IsPage}
use Rattle.cow_merge.specs.declared.ranges.Pages.{Pages}
use Rattle.cow_merge.specs.declared.witness.Way.{Way}

-- a VMO comes to page q of node s from this side
pub record IsReached (t : Tree) (from : Side) (s q : ℕ) : Type 0 where
  pub v : ℕ
  pub p : ℕ
  pub page : IsPage t v p
  pub way : Reaches t v p from s q

-- These are pages of node s, below `seen`. A VMO comes from this side to each of them that has a row in this list.
pub record AreReached (t : Tree) (list : ℕ) (from : Side) (s seen : ℕ) (pages : Pages) : Type 0 where
  pub below : (q : ℕ) → pages.from ≤ q → q < pages.to → q < seen
  pub reached : (q : ℕ) → pages.from ≤ q → q < pages.to → IsSome (t.slots list q) → IsReached t from s q

-- These are pages that node s, which is `node`, sees of its parent. If s is hidden, VMOs come from both of its sides to
-- each of them that has a row in this list.
pub record AreShared (t : Tree) (list s : ℕ) (node : Node) (pages : Pages) : Type 0 where
  pub below : (q : ℕ) → pages.from ≤ q → q < pages.to → q < node.seen
  pub reached : node.koid ≡ None → (q : ℕ) → pages.from ≤ q → q < pages.to → IsSome (t.slots list q) → (from : Side) → IsReached t from s q

-- The way has come from node s, over the child of s on this side, to a child of node e. Each page of the way comes to a
-- page of s below `seen`, if this page has a row in this list. If the way's page is below `upto`, the way's node has no
-- row there.
pub record IsDown (t : Tree) (list s seen : ℕ) (side : Side) (way : Way) (upto : ℕ) : Type 0 where
  pub node : Node
  pub node_at : t.nodes way.at.0 ≡ Some node
  pub e : ℕ
  pub up : node.parent ≡ link_to e
  pub deeper : (f : IsForest t.nodes t.lists) → f.rank s < f.rank way.at.0
  pub from : Option Side
  pub side_is : option_or from (side_in t.nodes way.at.0) ≡ Some side
  pub inside : (p : ℕ) → way.from ≤ p → p < way.to → p < node.seen
  pub high : (p : ℕ) → way.from ≤ p → p < way.to → p + way.shift < seen
  pub comes : (p : ℕ) → way.from ≤ p → p < way.to → IsSome (t.slots list (p + way.shift)) → Arrives t e (node.first + p) from s (p + way.shift)
  pub free : (p : ℕ) → way.from ≤ p → p < way.to → p < upto → IsSome (t.slots list (p + way.shift)) → t.slots node.list.0 p ≡ None
