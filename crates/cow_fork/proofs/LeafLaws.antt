-- What a page of a visible node is, and what a row of its own changes.
use Rattle.cow_fork.proofs.Words.{◌≡◌, ℕ, ◌<◌, Option, Some, sym, ap, ◌∙◌, subst, inl, inr, some_same, Rows, with_pair, Row, Slot, slots_of}
use Rattle.cow_fork.proofs.Words.{Node, Arena, IsVisible, nodes_of, Slots, Tree, IsForest, KeepsBare, tree_of, with_row, IsPage, ShowsSame}
use Rattle.cow_fork.proofs.Words.{IsNotPage}
use Rattle.cow_arena.proofs.AlikeLaws.{with_pair-same, with_pair-other}
use Rattle.cow_split.proofs.ExactLaws.{cases_place}
use Rattle.cow_split.proofs.PartLaws.{bare-put}
use Rattle.cow_split.proofs.RowLaws.{own-shows}

-- p is a page of the visible node v, which is this, in the tree of these rows
pub record IsLeaf (arena : Arena) (rows : Rows Row) (v p : ℕ) (node : Node) : Type 0 where
  pub forest : IsForest (nodes_of arena) arena.lists
  pub visible : IsVisible (nodes_of arena) v node
  pub below : p < node.count

pub leaf-is : (arena : Arena) (rows : Rows Row) (v p : ℕ) (node : Node) → IsForest (nodes_of arena) arena.lists →
    IsPage (tree_of arena rows) v p → nodes_of arena v ≡ Some node → IsLeaf arena rows v p node
leaf-is arena rows v p node forest page at =
    let same = some_same (sym page.visible.at ∙ at) in
    record {
      forest = forest;
      visible = subst (IsVisible (nodes_of arena) v) same page.visible;
      below = subst (λ (n : Node). p < n.count) same page.below;
    }

-- the tree of rows that are these
pub tree-with : (arena : Arena) (old new : Rows Row) (slots : Slots) → slots_of new ≡ slots →
    tree_of arena new ≡ record (tree_of arena old) { slots = slots }
tree-with arena old new slots is = ap (λ (s : Slots). record (tree_of arena old) { slots = s }) is

-- a row that is put where it is
pub with_row-there : (t : Tree) (l p : ℕ) (row : Option Slot) → t.slots l p ≡ row → with_row t l p row ≡ t
with_row-there t l p row there = λ i. record t { slots = λ m r. same m r i }
  where
    same : (m r : ℕ) → with_pair t.slots l p row m r ≡ t.slots m r
    same m r = elim (cases_place l p m r) [
      | inl here ↦ rw (here.0, here.1) (with_pair-same t.slots l p row ∙ sym there)
      | inr apart ↦ with_pair-other t.slots l p row m r (λ list page. apart (list, page))
    ]

-- others show what they showed over two changes
pub others-on : (t u w : Tree) (v p : ℕ) → u.nodes ≡ t.nodes → ShowsSame t u (IsNotPage v p) → ShowsSame u w (IsNotPage v p) → ShowsSame t w (IsNotPage v p)
others-on t u w v p nodes first second k q page differs =
    second k q (record { node = page.node; visible = rw nodes page.visible; below = page.below }) differs ∙ first k q page differs

module _ {arena : Arena} {old : Rows Row} {v p : ℕ} {node : Node} (leaf : IsLeaf arena old v p node) where
  -- other rows do not change what it is
  pub leaf-on : (new : Rows Row) → IsLeaf arena new v p node
  leaf-on new = record { forest = leaf.forest; visible = leaf.visible; below = leaf.below }

  -- the row of the page, by any look-up of the node
  pub leaf-row : (new : Rows Row) (row : Option Slot) → slots_of new node.list.0 p ≡ row →
      (n : Node) → nodes_of arena v ≡ Some n → slots_of new n.list.0 p ≡ row
  leaf-row new row is n at = subst (λ (m : Node). slots_of new m.list.0 p ≡ row) (some_same (sym leaf.visible.at ∙ at)) is

  -- the page has this row, or none, and no other row changed
  module _ (new : Rows Row) (row : Option Slot) (put : slots_of new ≡ with_pair (slots_of old) node.list.0 p row) where
    pub put-tree : tree_of arena new ≡ with_row (tree_of arena old) node.list.0 p row
    put-tree = tree-with arena old new (with_pair (slots_of old) node.list.0 p row) put

    pub put-row : (n : Node) → nodes_of arena v ≡ Some n → slots_of new n.list.0 p ≡ row
    put-row = leaf-row new row (ap (λ (s : Slots). s node.list.0 p) put ∙ with_pair-same (slots_of old) node.list.0 p row)

    pub put-others : ShowsSame (tree_of arena old) (tree_of arena new) (IsNotPage v p)
    put-others = subst (λ (u : Tree). ShowsSame (tree_of arena old) u (IsNotPage v p)) (sym put-tree)
        (own-shows (tree_of arena old) v p node leaf.visible leaf.forest row)

    pub put-rows : (n : Node) → nodes_of arena v ≡ Some n → KeepsBare (slots_of old) (slots_of new) n.list.0
    put-rows n at =
        subst (λ (m : Node). KeepsBare (slots_of old) (slots_of new) m.list.0) (some_same (sym leaf.visible.at ∙ at))
        (subst (λ (s : Slots). KeepsBare (slots_of old) s node.list.0) (sym put) (bare-put (slots_of old) node.list.0 p row))
