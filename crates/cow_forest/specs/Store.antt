-- The clone tree as the values of its fields, the content that it stands for, and what always holds of it.
use Rattle.std.specs.Prelude.{◌≡◌, ℕ, ◌+◌, ◌*◌, ◌<◌, ◌≤◌, Option, None, Some}
use Rattle.balanced_tree.specs.Rows.{Rows}
use Rattle.vm_base.specs.declared.limits.TheConstants.{VMO_PAGES}
use Rattle.vm_base.specs.declared.names.Koid.{Koid}
use Rattle.vm_model.specs.Contents.Content.{Content, Page, vmos_of}
use Rattle.frame_pool.specs.Pool.{Pool, frame_bytes, is_taken}
use Rattle.page_list.specs.declared.row.Row.{Row}
use Rattle.cow_arena.specs.declared.node.Node.{Node}
use Rattle.cow_arena.specs.declared.node.NodeId.{NodeId}
use Rattle.cow_arena.specs.Nodes.{Arena, Nodes, nodes_of, link_to}
use Rattle.cow_arena.specs.Counts.{visible_count}
use Rattle.cow_arena.specs.Walk.{Tree, frame_shown}
use Rattle.cow_split.specs.Trees.{tree_of}
use Rattle.cow_split.specs.Exact.{IsExact, all_in_sight}
use Rattle.cow_merge.specs.Ranges.{AreLinked}
use Rattle.cow_forest.specs.Tables.{NodeEntries, node_in}

-- the nodes, the rows of their lists, the page frames, the nodes by koid and by list, the next koid, and how many VMOs
-- there are
pub record Forest : Type 0 where
  pub arena : Arena
  pub rows : Rows Row
  pub pool : Pool
  pub nodes : NodeEntries
  pub owners : NodeEntries
  pub next : ℕ
  pub vmos : ℕ

abbrev pub tree : Forest → Tree
tree f = tree_of f.arena f.rows

-- how many pages a node has, if there is one
abbrev pub pages_in : Option Node → Option ℕ
pages_in None = None
pages_in (Some node) = Some node.count

abbrev pub count_from : Nodes → Option NodeId → Option ℕ
count_from nodes None = None
count_from nodes (Some at) = pages_in (nodes at.0)

-- the frame that page p of a node shows, if there is one
abbrev pub frame_from : Tree → Option NodeId → ℕ → Option ℕ
frame_from t None p = None
frame_from t (Some at) p = frame_shown t at.0 p

-- a page with this frame and its bytes
abbrev pub page_with_frame : Pool → ℕ → Page
page_with_frame pool t = record { tag = t; bytes = frame_bytes pool t }

abbrev pub page_showing : Pool → Option ℕ → Option Page
page_showing pool None = None
page_showing pool (Some t) = Some (page_with_frame pool t)

-- A VMO has the pages of its node. A page is held if the walk from there ends at a row with a frame.
abbrev pub forest_content : Forest → Content
forest_content f = record {
  frames = f.pool.frames;
  next = f.next;
  count = λ v. count_from (nodes_of f.arena) (node_in f.nodes v);
  page = λ v p. page_showing f.pool (frame_from (tree f) (node_in f.nodes v) p);
}

-- node k is that of the VMO v
pub record IsNodeOf (nodes : Nodes) (v k : ℕ) (node : Node) : Type 0 where
  pub at : nodes k ≡ Some node
  pub koid : Koid
  pub has_koid : node.koid ≡ Some koid
  pub number : koid.0 ≡ v

-- the VMO v has this node
pub record HasNode (f : Forest) (v k : ℕ) : Type 0 where
  pub node : Node
  pub is : IsNodeOf (nodes_of f.arena) v k node

-- What holds of the forest before and after every call.
pub record IsStore (f : Forest) : Type 0 where
  -- the tree is exact over the frames that are taken, and nothing is left out of sight
  pub exact : IsExact (tree f) all_in_sight (is_taken f.pool)
  -- each frame's backlink leads to its row
  pub linked : AreLinked f.rows f.pool
  -- the visible nodes are those of the VMOs, by koid, and each node is found by its list
  pub named : (v : ℕ) (at : NodeId) → node_in f.nodes v ≡ Some at → HasNode f v at.0
  pub nodes : (v k : ℕ) (node : Node) → IsNodeOf (nodes_of f.arena) v k node → node_in f.nodes v ≡ link_to k
  pub owners : (k : ℕ) (node : Node) → nodes_of f.arena k ≡ Some node → node_in f.owners node.list.0 ≡ link_to k
  -- page counts and koids are in their bounds, and no more than two lists are given for each koid
  pub counts : (v k : ℕ) (node : Node) → IsNodeOf (nodes_of f.arena) v k node → node.count ≤ VMO_PAGES
  pub koids : (v k : ℕ) (node : Node) → IsNodeOf (nodes_of f.arena) v k node → (1 ≤ v) × (v < f.next)
  pub first_koid : 1 ≤ f.next
  pub lists : f.arena.lists + 2 ≤ 2 * f.next
  -- the VMOs are counted
  pub vmos : f.vmos ≡ vmos_of (forest_content f)
  pub visible : visible_count f.arena ≡ f.vmos
