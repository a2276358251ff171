-- A snapshot: two nodes come, and the rows of the node's list get their bits.
use Rattle.cow_fork.proofs.Words.{◌≡◌, ◌≢◌, ℕ, ◌+◌, ◌≤◌, Bool, None, Some, sym, ap, subst, ◌∙◌, Rows, Koid, some_same, Row, slots_of}
use Rattle.cow_fork.proofs.Words.{row_count, Node, Arena, Nodes, nodes_of, IsVisible, Tree, frame_shown, IsForest, paired, hidden_count}
use Rattle.cow_fork.proofs.Words.{visible_count, tree_of, StaysVisible, IsExact, all_in_sight, split_slots}
use Rattle.cow_arena.specs.declared.node.Pair.{Pair}
use Rattle.cow_fork.specs.Sharing.{HasShared}
use Rattle.cow_fork.proofs.SnapshotLaws.{exact-snapshot, snapshot-stays, snapshot-comes, snapshot-no_more, snapshot-shows, snapshot-child}
use Rattle.cow_fork.proofs.SnapshotLaws.{snapshot-child_past}

-- the tree after a snapshot of node v
abbrev snapshot_tree : Tree → (v : ℕ) → Node → (h c : ℕ) → Koid → (first seen pages : ℕ) → Tree
snapshot_tree t v node h c koid first seen pages = record {
  nodes = paired t.nodes v node h c t.lists koid first seen pages;
  slots = split_slots t.slots node.list.0 first seen;
  lists = t.lists + 2;
}

-- what the arena and the lists say of a snapshot
pub record IsPaired (old new : Arena) (rows rows_after : Rows Row) (v : ℕ) (node : Node) (pair : Pair) (koid : Koid) (first seen pages : ℕ) : Type 0 where
  pub visible : IsVisible (nodes_of old) v node
  pub window : first + seen ≤ node.count
  pub inside : seen ≤ pages
  pub new_hidden : nodes_of old pair.hidden.0 ≡ None
  pub new_child : nodes_of old pair.child.0 ≡ None
  pub apart : pair.hidden.0 ≢ pair.child.0
  pub nodes : nodes_of new ≡ paired (nodes_of old) v node pair.hidden.0 pair.child.0 old.lists koid first seen pages
  pub lists : new.lists ≡ old.lists + 2
  pub hidden : hidden_count new ≡ hidden_count old + 1
  pub visible_more : visible_count new ≡ visible_count old + 1
  pub forest : IsForest (nodes_of new) new.lists
  pub slots : slots_of rows_after ≡ split_slots (slots_of rows) node.list.0 first seen
  pub row_count : row_count rows_after ≡ row_count rows
  pub spare : rows_after.spare ≡ rows.spare

pub shared : (old new : Arena) (rows rows_after : Rows Row) (v : ℕ) (node : Node) (pair : Pair) (koid : Koid) (first seen pages : ℕ) →
    IsPaired old new rows rows_after v node pair koid first seen pages → (in_use : ℕ → Bool) → IsExact (tree_of old rows) all_in_sight in_use →
    HasShared old new rows rows_after v pair koid first seen pages
shared old new rows rows_after v node pair koid first seen pages p in_use exact = record {
  new_hidden = p.new_hidden;
  new_child = p.new_child;
  apart = p.apart;
  nodes = λ other at. p.nodes ∙ ap (λ n. paired (nodes_of old) v n h c old.lists koid first seen pages) (one other at);
  lists = p.lists;
  hidden = p.hidden;
  visible = p.visible_more;
  slots = λ other at. p.slots ∙ ap (λ (n : Node). split_slots (slots_of rows) n.list.0 first seen) (one other at);
  row_count = p.row_count;
  spare = p.spare;
  exact = λ used known. subst (λ u. IsExact u all_in_sight used) (sym is)
      (exact-snapshot (tree_of old rows) used known v node p.visible h c koid first seen pages p.new_hidden p.new_child p.apart p.inside p.window forest);
  stays = λ w other shown. subst (λ (nodes : Nodes). StaysVisible (nodes_of old) nodes w other) (sym p.nodes)
      (snapshot-stays (tree_of old rows) in_use exact v node p.visible h c koid first seen pages p.new_hidden p.new_child p.apart p.inside p.window forest w other shown);
  comes = ap (λ (nodes : Nodes). nodes c) p.nodes
      ∙ snapshot-comes (tree_of old rows) in_use exact v node p.visible h c koid first seen pages p.new_hidden p.new_child p.apart p.inside p.window forest;
  no_more = λ w now shown not_c. subst (λ (nodes : Nodes). StaysVisible nodes (nodes_of old) w now) (sym p.nodes)
      (snapshot-no_more (tree_of old rows) in_use exact v node p.visible h c koid first seen pages p.new_hidden p.new_child p.apart p.inside p.window forest w now
      (subst (λ (nodes : Nodes). IsVisible nodes w now) p.nodes shown) not_c);
  shows = λ w q page. ap (λ u. frame_shown u w q) is
      ∙ snapshot-shows (tree_of old rows) in_use exact v node p.visible h c koid first seen pages p.new_hidden p.new_child p.apart p.inside p.window forest w q page;
  child = λ q below. ap (λ u. frame_shown u c q) is
      ∙ snapshot-child (tree_of old rows) in_use exact v node p.visible h c koid first seen pages p.new_hidden p.new_child p.apart p.inside p.window forest q below;
  child_past = λ q past. ap (λ u. frame_shown u c q) is
      ∙ snapshot-child_past (tree_of old rows) in_use exact v node p.visible h c koid first seen pages p.new_hidden p.new_child p.apart p.inside p.window forest q past;
}
  where
    h : ℕ
    h = pair.hidden.0

    c : ℕ
    c = pair.child.0

    one : (other : Node) → nodes_of old v ≡ Some other → node ≡ other
    one other at = some_same (sym p.visible.at ∙ at)

    is : tree_of new rows_after ≡ snapshot_tree (tree_of old rows) v node h c koid first seen pages
    is = λ i. record { nodes = p.nodes i; slots = p.slots i; lists = p.lists i }

    forest : IsForest (paired (nodes_of old) v node h c old.lists koid first seen pages) (old.lists + 2)
    forest = subst (IsForest (paired (nodes_of old) v node h c old.lists koid first seen pages)) p.lists (subst (λ (nodes : Nodes). IsForest nodes new.lists) p.nodes p.forest)
