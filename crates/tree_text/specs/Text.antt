-- The text of a clone tree: a line that counts, and a line for each node. It is a drawing by indented lines, or a graph.
use Rattle.std.specs.Prelude.{ℕ, zero, suc, ◌^◌, Bool, true, false, List, [], ◌∷◌, ◌++◌, codes, decimal, Option, None, Some}
use Rattle.vm_base.specs.declared.names.Koid.{Koid}
use Rattle.vm_model.specs.Contents.Content.{vmos_of}
use Rattle.vm_model.specs.Language.Text.{field}
use Rattle.page_list.specs.declared.row.Slot.{Slot}
use Rattle.page_list.specs.declared.row.Slot.TheVariants as slot
use Rattle.page_list.specs.Lists.{row_count}
use Rattle.cow_arena.specs.declared.node.Node.{Node}
use Rattle.cow_arena.specs.declared.node.Side.{Side}
use Rattle.cow_arena.specs.declared.node.Side.TheVariants as side
use Rattle.cow_arena.specs.Nodes.{Nodes, node_above}
use Rattle.cow_arena.specs.Counts.{hidden_count}
use Rattle.cow_arena.specs.Walk.{Tree}
use Rattle.cow_forest.specs.Store.{Forest, tree, forest_content}
use Rattle.tree_text.specs.Order.{Place, place_below_parent, climb, all_nodes}
use Rattle.tree_text.specs.declared.lines.Form.{Form}
use Rattle.tree_text.specs.declared.lines.Form.TheVariants as form
use Rattle.tree_text.specs.declared.lines.TheConstants.{LEVELS}

-- ---- rows

-- the split bits that are set
abbrev pub bits_text : (left right : Bool) → List ℕ
bits_text false false = []
bits_text false true = codes "R"
bits_text true false = codes "L"
bits_text true true = codes "LR"

-- the frame and its split bits, or that the page is zero
abbrev pub slot_text : Slot → List ℕ
slot_text (slot.Frame tag left right) = decimal tag.0 ++ bits_text left right
slot_text slot.Zero = codes "zero"

abbrev pub row_text : ℕ → Slot → List ℕ
row_text p row = codes " " ++ decimal p ++ codes ":" ++ slot_text row

abbrev pub text_of_row : ℕ → Option Slot → List ℕ
text_of_row p None = []
text_of_row p (Some row) = row_text p row

-- the rows of a list on n pages from page p on
unfoldable pub rows_text : (ℕ → Option Slot) → (n p : ℕ) → List ℕ
rows_text rows zero p = []
rows_text rows (suc n) p = text_of_row p (rows p) ++ rows_text rows n (suc p)

-- ---- nodes

-- a VMO's node by its koid, and a hidden one by the number of its list
abbrev pub name_text : (list : ℕ) → Option Koid → List ℕ
name_text list None = codes "hidden " ++ decimal list
name_text list (Some koid) = codes "VMO " ++ decimal koid.0

-- the name of a node, how many pages it has, and its window over its parent
abbrev pub node_text : Node → List ℕ
node_text node = name_text node.list.0 node.koid ++ field (codes "pages") node.count ++ field (codes "first") node.first
    ++ field (codes "seen") node.seen ++ codes " ["

-- what stands before the line of a node, and before the lines below it, by the node's side
abbrev pub branch : Side → List ℕ
branch side.Left = codes "|-- "
branch side.Right = codes "`-- "

abbrev pub rail : Side → List ℕ
rail side.Left = codes "|   "
rail side.Right = codes "    "

-- what stands in place of the rails of the node at this place and of those above it, which are left out
abbrev pub rails_cut : Option Place → List ℕ
rails_cut None = []
rails_cut (Some place) = codes "..  "

-- The rails of node k and of the nodes above it, n at most, the uppermost first. Two dots before them say that there are more.
abbrev pub rails : Nodes → (n k : ℕ) → List ℕ
rails nodes n k = climb nodes (λ j. rails_cut (place_below_parent nodes j)) (λ place above. above ++ rail place.1) n k

abbrev pub indented : Nodes → Option Place → List ℕ
indented nodes None = []
indented nodes (Some place) = rails nodes LEVELS place.0.0 ++ branch place.1

-- In a graph the name of a node stands before it, and behind it a line that leads to it from its parent.
abbrev pub before_text : Form → Nodes → (k : ℕ) → Node → List ℕ
before_text form.Drawing nodes k node = codes "#    " ++ indented nodes (place_below_parent nodes k)
before_text form.Graph nodes k node = codes "\"" ++ name_text node.list.0 node.koid ++ codes "\" [label=\""

abbrev pub edge_text : Node → Option Node → List ℕ
edge_text node None = []
edge_text node (Some above) =
    codes "\"" ++ name_text above.list.0 above.koid ++ codes "\" -> \"" ++ name_text node.list.0 node.koid ++ codes "\"\n"

abbrev pub head_text : Form → Nodes → (k : ℕ) → Node → List ℕ
head_text form nodes k node = before_text form nodes k node ++ node_text node

abbrev pub tail_text : Form → Nodes → (k : ℕ) → Node → List ℕ
tail_text form.Drawing nodes k node = codes " ]\n"
tail_text form.Graph nodes k node = codes " ]\"]\n" ++ edge_text node (node_above nodes k)

-- the line of node k, with its rows. A page number is less than 2 ^ 64
abbrev pub text_of_node : Form → Tree → (k : ℕ) → Option Node → List ℕ
text_of_node form t k None = []
text_of_node form t k (Some node) =
    head_text form t.nodes k node ++ rows_text (t.slots node.list.0) (2 ^ 64) 0 ++ tail_text form t.nodes k node

unfoldable pub lines_text : Form → Tree → List ℕ → List ℕ
lines_text form t [] = []
lines_text form t (k ∷ nodes) = text_of_node form t k (t.nodes k) ++ lines_text form t nodes

-- ---- the forest

-- how many VMOs, hidden nodes and rows there are
abbrev pub counts_text : Forest → List ℕ
counts_text f = codes "#" ++ field (codes "vmos") (vmos_of (forest_content f)) ++ field (codes "hidden") (hidden_count f.arena)
    ++ field (codes "rows") (row_count f.rows) ++ codes "\n"

abbrev pub open_text : Form → List ℕ
open_text form.Drawing = []
open_text form.Graph = codes "digraph {\nnode [shape=box]\n"

abbrev pub close_text : Form → List ℕ
close_text form.Drawing = []
close_text form.Graph = codes "}\n"

abbrev pub forest_text : Form → Forest → List ℕ
forest_text form f = (counts_text f ++ open_text form) ++ lines_text form (tree f) (all_nodes f) ++ close_text form
