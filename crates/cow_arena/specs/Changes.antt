-- What the calls of the arena make of its nodes.
use Rattle.std.specs.Prelude.{ℕ, ◌+◌, ◌-◌, min, ◌==◌, if◌then◌else◌, Option, None, Some}
use Rattle.std.specs.Option.{option_map}
use Rattle.vm_base.specs.Entries.{with_key, without_key}
use Rattle.vm_base.specs.declared.names.Koid.{Koid}
use Rattle.cow_arena.specs.declared.node.NodeId.{NodeId}
use Rattle.cow_arena.specs.declared.node.Node.{Node}
use Rattle.cow_arena.specs.Nodes.{Nodes, leads_to, link_to}

-- a node of a VMO without a parent
abbrev pub root_node : Koid → (list count : ℕ) → Node
root_node koid list count = record {
  koid = Some koid;
  parent = None;
  left = None;
  right = None;
  list = record { 0 = list };
  count = count;
  first = 0;
  seen = 0;
}

-- where a window of this many pages begins: a window without pages begins at 0
abbrev pub window_first : (first seen : ℕ) → ℕ
window_first first seen = if seen == 0 then 0 else first

-- the node, with this window over its parent
abbrev pub with_window : Node → (first seen : ℕ) → Node
with_window node first seen = record node { first = window_first first seen; seen = seen }

-- a link, changed to lead to node j if it led to node k
abbrev pub moved_link : (k j : ℕ) → Option NodeId → Option NodeId
moved_link k j link = if leads_to link k then link_to j else link

-- the nodes, with node j below the parent in place of the parent's child k
unfoldable pub relinked : Nodes → Option NodeId → (k j : ℕ) → Nodes
relinked nodes None k j = nodes
relinked nodes (Some parent) k j = λ n. if n == parent.0
    then option_map (λ (node : Node). record node { left = moved_link k j node.left; right = moved_link k j node.right }) (nodes n)
    else nodes n

-- the hidden node in the place of a node k, over k and the node c
abbrev pub hidden_over : Node → (k c : ℕ) → Node
hidden_over node k c = record node { koid = None; left = link_to k; right = link_to c }

-- the node of which a snapshot was made, below the hidden node h: it sees all of it
abbrev pub below_hidden : Node → (h list : ℕ) → Node
below_hidden node h list = record node {
  parent = link_to h;
  list = record { 0 = list };
  first = 0;
  seen = node.count;
}

-- the node of a snapshot
abbrev pub snapshot_node : Koid → (h list first seen count : ℕ) → Node
snapshot_node koid h list first seen count =
    with_window (record (root_node koid list count) { parent = link_to h }) first seen

-- The nodes after a snapshot of node k, which was this node. The new node h is hidden and in the place of k, and the
-- new node c is the snapshot's. Both nodes below h have new lists.
unfoldable pub paired : Nodes → (k : ℕ) → Node → (h c lists : ℕ) → Koid → (first seen count : ℕ) → Nodes
paired nodes k node h c lists koid first seen count =
    with_key
    (with_key
    (with_key (relinked nodes node.parent k h) h (hidden_over node k c))
    k
    (below_hidden node h lists))
    c
    (snapshot_node koid h (lists + 1) first seen count)

-- the sibling in the place of its parent: it sees what it saw through both windows
abbrev pub lifted : (parent sibling : Node) → Node
lifted parent sibling = record (with_window sibling (sibling.first + parent.first) (min sibling.seen (parent.seen - sibling.first))) {
  parent = parent.parent;
}

-- the nodes without node k and its parent h. The sibling s of k is in the place of h. `parent` and `sibling` are h and
-- s as they were
unfoldable pub spliced : Nodes → (k h s : ℕ) → (parent sibling : Node) → Nodes
spliced nodes k h s parent sibling =
    with_key (without_key (without_key (relinked nodes parent.parent h s) h) k) s (lifted parent sibling)

-- the same, but the sibling has the list of the parent
unfoldable pub spliced_over : Nodes → (k h s : ℕ) → (parent sibling : Node) → Nodes
spliced_over nodes k h s parent sibling =
    with_key (without_key (without_key (relinked nodes parent.parent h s) h) k) s (record (lifted parent sibling) { list = parent.list })
