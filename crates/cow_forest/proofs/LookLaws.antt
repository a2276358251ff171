-- What a page of a visible node shows, and whether it alone shows it, told by the row that holds the page.
use Rattle.cow_forest.proofs.Words.{◌≡◌, ◌↔◌, ℕ, ◌≤◌, Bool, true, Option, None, Some, IfSome, IfNone, refl, sym, ap, ◌∙◌, subst, arith}
use Rattle.cow_forest.proofs.Words.{some_same, Tag, Rows, Row, Slot, slots_of, Node, NodeId, Side, Arena, nodes_of, IsVisible, IsForest}
use Rattle.cow_forest.proofs.Words.{Tree, walk, frame_shown, frame_found, Arrives, Holder, tree_of, holder_of, frame_held, IsPage}
use Rattle.cow_forest.proofs.Words.{IsLastViewer, IsExact, all_in_sight, look_in, IsLook, ShowsFrameOrNone, tag_in, cut_answer}
use Rattle.cow_forest.proofs.Words.{leaves_frame}
use Rattle.cow_arena.proofs.WalkLaws.{walk-own, walk-past}
use Rattle.cow_arena.proofs.ReachLaws.{reach-hidden, hidden-apart, walk-ends}
use Rattle.cow_split.specs.declared.answers.Cut.{Cut}
use Rattle.cow_split.proofs.RowLaws.{only-none, frame-shown, frame-once}
use Rattle.cow_split.proofs.CutLaws.{cut-last}
use Rattle.cow_fork.proofs.LeafLaws.{IsLeaf, leaf-is}
use Rattle.cow_fork.proofs.HolderLaws.{held-shown, own-row, bare-row}

-- what is no Some is None
pub none-from : {A : Type 0} (o : Option A) → ((x : A) → o ≡ Some x → ⊥) → o ≡ None
none-from None h = refl
none-from (Some x) h = absurd (h x refl)

-- a page past the count of a visible node shows nothing
pub page-past : (t : Tree) → (in_use : ℕ → Bool) × IsExact t all_in_sight in_use → (v : ℕ) (node : Node) → IsVisible t.nodes v node → (p : ℕ) →
    node.count ≤ p → frame_shown t v p ≡ None
page-past t exact v node visible p past =
    let seen = exact.1.forest.by.seen v node visible.at in
    ap frame_found (walk-past t exact.1.forest v p node visible.at (free (t.slots node.list.0 p) refl) (omega arith))
  where
    free : (row : Option Slot) → t.slots node.list.0 p ≡ row → t.slots node.list.0 p ≡ None
    free None is = is
    free (Some row) is = absurd (let below = exact.1.below v p node row visible is in omega arith)

-- an answer that leaves a frame is of a last viewer
leaves-last : (answer : Cut) → leaves_frame answer ≡ true → (tag : Tag) × (answer ≡ Cut.LastViewer tag)
leaves-last (Cut.LastViewer tag) e = (tag, refl)
leaves-last Cut.StillSeen e = absurd (cc)
leaves-last Cut.NothingThere e = absurd (cc)

module _ (arena : Arena) (rows : Rows Row) (v p : ℕ) (exact : (in_use : ℕ → Bool) × IsExact (tree_of arena rows) all_in_sight in_use)
    (page : IsPage (tree_of arena rows) v p) where
  leaf : IsLeaf arena rows v p page.node
  leaf = leaf-is arena rows v p page.node exact.1.forest page page.visible.at

  -- a frame in a row of the node's own list is shown by no other node
  pub own-look : (tag : Tag) (left right : Bool) → Holder.Own (Slot.Frame tag left right) ≡ holder_of (walk (tree_of arena rows) v p) →
      (frame_shown (tree_of arena rows) v p ≡ Some tag.0) × IsLastViewer (tree_of arena rows) v tag.0
  own-look tag left right held = (shown, last)
    where
      shown : frame_shown (tree_of arena rows) v p ≡ Some tag.0
      shown = sym (held-shown (tree_of arena rows) v p _ held)

      found : walk (tree_of arena rows) v p ≡ Some (record { node = v; page = p; side = None; slot = Slot.Frame tag left right })
      found = walk-own (tree_of arena rows) exact.1.forest v p page.node _ page.visible.at (own-row leaf _ held)

      -- a walk from another node comes to hidden ones alone
      from_side : (w q : ℕ) (side : Option Side) (h r : ℕ) → h ≡ v → Arrives (tree_of arena rows) w q side h r → w ≡ v
      from_side w q None h r same way = way.0 ∙ same
      from_side w q (Some side) h r same way =
          let above = reach-hidden (tree_of arena rows) exact.1.forest w q side h r way in
          absurd (hidden-apart (tree_of arena rows) exact.1.forest h v above.0 page.node above.1 above.2 page.visible same)

      last : IsLastViewer (tree_of arena rows) v tag.0
      last w q other shows =
          let it = frame-shown (tree_of arena rows) w q tag.0 shows in
          let one = frame-once (tree_of arena rows) all_in_sight exact.0 exact.1 w q v p tag.0 it.it _ it.found found it.frame refl in
          from_side w q it.it.side it.it.node it.it.page one.0 (walk-ends (tree_of arena rows) exact.1.forest w q it.it it.found).way

  -- a page with a row of its own
  pub row-look : (node : Node) (row : Slot) → nodes_of arena v ≡ Some node → slots_of rows node.list.0 p ≡ Some row → IsLook (tree_of arena rows) v p (look_in row)
  row-look node (Slot.Frame tag left right) at row =
      let it = own-look tag left right (sym (ap holder_of (walk-own (tree_of arena rows) exact.1.forest v p node _ at row))) in
      (it.0, (λ e. it.1, λ last. refl))
  row-look node Slot.Zero at row = ap frame_found (walk-own (tree_of arena rows) exact.1.forest v p node Slot.Zero at row)

  -- one in a row above is shown by no other node exactly where a cut would answer so
  pub above-look : (h : NodeId) (q : ℕ) (side : Side) (tag : Tag) (left right : Bool) →
      Holder.Above h q side (Slot.Frame tag left right) ≡ holder_of (walk (tree_of arena rows) v p) → (answer : Bool) →
      answer ≡ leaves_frame (cut_answer (tree_of arena rows) v p) →
      (frame_shown (tree_of arena rows) v p ≡ Some tag.0) × ((answer ≡ true) ↔ IsLastViewer (tree_of arena rows) v tag.0)
  above-look h q side tag left right held answer is = (shown, (forth, back))
    where
      shown : frame_shown (tree_of arena rows) v p ≡ Some tag.0
      shown = sym (held-shown (tree_of arena rows) v p _ held)

      free : slots_of rows page.node.list.0 p ≡ None
      free = bare-row leaf _ held (λ row e. cc)

      ways : (other : Tag) → (cut_answer (tree_of arena rows) v p ≡ Cut.LastViewer other)
          ↔ ((frame_shown (tree_of arena rows) v p ≡ Some other.0) × IsLastViewer (tree_of arena rows) v other.0)
      ways = cut-last (tree_of arena rows) all_in_sight exact.0 exact.1 v p (only-none v) page.node page.visible free

      forth : answer ≡ true → IsLastViewer (tree_of arena rows) v tag.0
      forth e =
          let leaves = leaves-last (cut_answer (tree_of arena rows) v p) (sym is ∙ e) in
          let both = (ways leaves.0).0 leaves.1 in
          subst (IsLastViewer (tree_of arena rows) v) (some_same (sym both.0 ∙ shown)) both.1

      back : IsLastViewer (tree_of arena rows) v tag.0 → answer ≡ true
      back last = is ∙ ap leaves_frame ((ways tag).1 (shown, last))

-- the frame of a row of a node's own is what the page shows
pub row-frame : (t : Tree) → IsForest t.nodes t.lists → (v p : ℕ) (node : Node) (row : Slot) → t.nodes v ≡ Some node → t.slots node.list.0 p ≡ Some row →
    ShowsFrameOrNone t v p (tag_in row)
row-frame t forest v p node (Slot.Frame tag left right) at row = ap frame_found (walk-own t forest v p node _ at row)
row-frame t forest v p node Slot.Zero at row = ap frame_found (walk-own t forest v p node Slot.Zero at row)

-- the frame of the row that holds a page is what the page shows
pub shows-frame : (t : Tree) (v p : ℕ) (held : Holder) (answer : Option Tag) → frame_held held ≡ frame_shown t v p → IfSome answer (λ tag. frame_held held ≡ Some tag.0) →
    IfNone answer (frame_held held ≡ None) → ShowsFrameOrNone t v p answer
shows-frame t v p held (Some tag) same some none = sym same ∙ some
shows-frame t v p held None same some none = sym same ∙ none
