-- What it is to shrink a VMO's node, and to close one.
use Rattle.std.specs.Prelude.{◌≡◌, ◌≢◌, ◌⊎◌, ℕ, ◌≤◌, min, None, Some, IsSome}
use Rattle.balanced_tree.specs.Rows.{Rows}
use Rattle.page_list.specs.declared.row.Row.{Row}
use Rattle.vm_base.specs.Entries.{with_key}
use Rattle.frame_pool.specs.Pool.{Pool, is_taken}
use Rattle.cow_arena.specs.declared.node.Node.{Node}
use Rattle.cow_arena.specs.declared.node.Side.{Side}
use Rattle.cow_arena.specs.Nodes.{Arena, Nodes, IsVisible, link_to, sibling_in}
use Rattle.cow_arena.specs.Forest.{IsChild}
use Rattle.cow_arena.specs.Changes.{with_window}
use Rattle.cow_arena.specs.Walk.{Tree, frame_shown}
use Rattle.cow_arena.specs.Ways.{Rises}
use Rattle.cow_split.specs.Trees.{tree_of}
use Rattle.cow_split.specs.Sight.{IsPage, StaysVisible}
use Rattle.cow_split.specs.Exact.{IsExact, all_in_sight}
use Rattle.cow_merge.specs.Ranges.{Accounts}

-- a visible node with `count` pages, and a window that is no longer than that
abbrev pub with_count : Node → ℕ → Node
with_count node count = record (with_window node node.first (min node.seen count)) { count = count }

-- the nodes, where the window of node v, which was `node`, has at most `count` pages
abbrev pub narrowed_nodes : Nodes → (v : ℕ) → Node → (count : ℕ) → Nodes
narrowed_nodes nodes v node count = with_key nodes v (with_window node node.first (min node.seen count))

-- Nodes, pages, rows and frames may be gone. The tree is exact over the frames that are taken, and each page that is left
-- shows what it showed.
pub record KeepsPages (old new : Arena) (rows rows_after : Rows Row) (before after : Pool) : Type 0 where
  pub exact : IsExact (tree_of new rows_after) all_in_sight (is_taken after)
  pub lists : new.lists ≡ old.lists
  pub shows : (w q : ℕ) → IsPage (tree_of new rows_after) w q →
      frame_shown (tree_of new rows_after) w q ≡ frame_shown (tree_of old rows) w q
  pub accounts : Accounts rows rows_after before after

-- node j was there, with the koid that it has now
pub record WasThere (old : Nodes) (j : ℕ) (now : Node) : Type 0 where
  pub node : Node
  pub at : old j ≡ Some node
  pub koid : now.koid ≡ node.koid

-- node j was the other child of the parent of node v, and now has the list of this parent
pub record HasListOfParent (old : Nodes) (v j : ℕ) (now : Node) : Type 0 where
  pub h : ℕ
  pub child : IsChild old h v
  pub parent : Node
  pub parent_at : old h ≡ Some parent
  pub beside : sibling_in old v ≡ link_to j
  pub list : now.list ≡ parent.list

-- node k has its koid and the parent h still. If its window began at page 0, it does
pub record StaysUnder (old : Nodes) (k h : ℕ) (now : Node) : Type 0 where
  pub node : Node
  pub at : old k ≡ Some node
  pub koid : now.koid ≡ node.koid
  pub parent : node.parent ≡ link_to h
  pub first : node.first ≡ 0 → now.first ≡ 0

-- node k has its koid still, and its parent is gone, which was the child of h. If both windows began at page 0, its own does
pub record IsRaised (old : Nodes) (k h : ℕ) (now : Node) : Type 0 where
  pub node : Node
  pub at : old k ≡ Some node
  pub koid : now.koid ≡ node.koid
  pub j : ℕ
  pub between : Node
  pub between_at : old j ≡ Some between
  pub hidden : between.koid ≡ None
  pub below : node.parent ≡ link_to j
  pub parent : between.parent ≡ link_to h
  pub first : node.first ≡ 0 → between.first ≡ 0 → now.first ≡ 0

-- node k, which has the parent h, had it before, or came into the place of its parent
abbrev pub WasUnder : (old : Nodes) → (k h : ℕ) → Node → Type 0
WasUnder old k h now = StaysUnder old k h now ⊎ IsRaised old k h now

-- The visible node v is gone, and its parent too. Each other VMO has its node. Each node has the list that it had, except
-- that the sibling may have the list of the parent.
pub record HasGone (old new : Tree) (v : ℕ) : Type 0 where
  pub gone : new.nodes v ≡ None
  pub stays : (w : ℕ) (node : Node) → w ≢ v → IsVisible old.nodes w node → StaysVisible old.nodes new.nodes w node
  pub no_more : (w : ℕ) (node : Node) → IsVisible new.nodes w node → StaysVisible new.nodes old.nodes w node
  pub came : (k : ℕ) (node : Node) → new.nodes k ≡ Some node → WasThere old.nodes k node
  pub own_lists : (k : ℕ) (was now : Node) → old.nodes k ≡ Some was → new.nodes k ≡ Some now →
      (now.list ≡ was.list) ⊎ HasListOfParent old.nodes v k now
  pub parent_gone : (h : ℕ) → IsChild old.nodes h v → new.nodes h ≡ None
  pub beside : (s : ℕ) → sibling_in old.nodes v ≡ link_to s → IsSome (new.nodes s)
  pub parents : (k h : ℕ) (now : Node) → new.nodes k ≡ Some now → now.parent ≡ link_to h → WasUnder old.nodes k h now
  -- The other nodes are there, and see no more pages of their parents than they did. A page of one of them that rose to a page of
  -- another rises to it.
  pub kept : (k : ℕ) (node : Node) → old.nodes k ≡ Some node → k ≢ v → (IsChild old.nodes k v → ⊥) → IsSome (new.nodes k)
  pub seen : (k : ℕ) (node now : Node) → old.nodes k ≡ Some node → new.nodes k ≡ Some now → now.seen ≤ node.seen
  pub rises : (k p : ℕ) (side : Side) (h q : ℕ) → IsSome (new.nodes k) → IsSome (new.nodes h) → Rises old k p side h q → Rises new k p side h q
