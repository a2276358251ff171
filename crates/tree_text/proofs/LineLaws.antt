-- Laws of the lines of nodes.
use Rattle.std.proofs.Common.{◌≡◌, ℕ, zero, suc, ◌+◌, ◌-◌, ◌^◌, ◌<◌, List, [], ◌∷◌, ◌++◌, None, Some, refl, sym, ap, ◌∙◌, arith, append_assoc, append-nil}
use Rattle.cow_arena.specs.declared.node.Node.{Node}
use Rattle.cow_arena.specs.Nodes.{Nodes, nodes_of}
use Rattle.cow_arena.specs.Walk.{Tree}
use Rattle.cow_forest.specs.Store.{Forest, tree}
use Rattle.tree_text.specs.Order.{Place, place_below_parent, root_of, nodes_below, tree_nodes, nodes_from, all_nodes}
use Rattle.tree_text.specs.Text.{rail, rails_cut, rails, head_text, tail_text, rows_text, text_of_node, lines_text, counts_text, open_text, close_text, forest_text}
use Rattle.tree_text.specs.declared.lines.Form.{Form}
use Rattle.tree_text.proofs.PlaceLaws.{climb-zero, climb-root, climb-level}
use Rattle.tree_text.proofs.WalkLaws.{over-none}

-- ---- rails

module _ (nodes : Nodes) (n k : ℕ) (front : List ℕ) where
  abbrev cut : ℕ → List ℕ
  cut j = rails_cut (place_below_parent nodes j)

  -- no level is left
  pub rails-zero : (whole piece : List ℕ) → n ≡ 0 → whole ≡ front ++ piece → piece ≡ rails_cut (place_below_parent nodes k) → whole ≡ front ++ rails nodes n k
  rails-zero whole piece none last text =
      last ∙ ap (λ list. front ++ list) (text ∙ sym (ap (λ m. rails nodes m k) none ∙ climb-zero nodes cut (λ place above. above ++ rail place.1) k))

  -- the node has no parent
  pub rails-root : place_below_parent nodes k ≡ None → front ≡ front ++ rails nodes n k
  rails-root none =
      sym (ap (λ list. front ++ list) (climb-root nodes cut (λ place above. above ++ rail place.1) n k none ∙ ap rails_cut none) ∙ append-nil front)

  -- one level more
  pub rails-more : (place : Place) (whole mid piece : List ℕ) → 0 < n → place_below_parent nodes k ≡ Some place → whole ≡ mid ++ piece →
      mid ≡ front ++ rails nodes (n - 1) place.0.0 → piece ≡ rail place.1 → whole ≡ front ++ rails nodes n k
  rails-more place whole mid piece some is last before text =
      let above = rails nodes (n - 1) place.0.0 in
      last ∙ (ap (λ list. list ++ piece) before ∙ (append_assoc front above piece ∙ (ap (λ list. front ++ (above ++ list)) text
      ∙ ap (λ list. front ++ list) (sym (climb-level nodes cut (λ place above. above ++ rail place.1) n k place some is)))))

-- ---- lines

module _ (form : Form) (t : Tree) where
  pub lines-none : lines_text form t [] ≡ []
  unfolding lines_text
  lines-none = refl

  pub lines-cons : (k : ℕ) (nodes : List ℕ) → lines_text form t (k ∷ nodes) ≡ text_of_node form t k (t.nodes k) ++ lines_text form t nodes
  unfolding lines_text
  lines-cons k nodes = refl

  pub lines-append : (a b : List ℕ) → lines_text form t (a ++ b) ≡ lines_text form t a ++ lines_text form t b
  unfolding lines_text
  lines-append [] b = refl
  lines-append (k ∷ a) b =
      let here = text_of_node form t k (t.nodes k) in
      ap (λ list. here ++ list) (lines-append a b) ∙ sym (append_assoc here (lines_text form t a) (lines_text form t b))

  -- the line of a node is its head, its rows, and what ends it
  pub line-parts : (k : ℕ) (node : Node) (piece last : List ℕ) → t.nodes k ≡ Some node → piece ≡ head_text form t.nodes k node →
      last ≡ tail_text form t.nodes k node → text_of_node form t k (t.nodes k) ≡ piece ++ (rows_text (t.slots node.list.0) (2 ^ 64) 0 ++ last)
  line-parts k node piece last at head tail =
      let rows = rows_text (t.slots node.list.0) (2 ^ 64) 0 in
      let ending = tail_text form t.nodes k node in
      ap (text_of_node form t k) at ∙ (append_assoc (head_text form t.nodes k node) rows ending
      ∙ (ap (λ list. list ++ (rows ++ ending)) (sym head) ∙ ap (λ list. piece ++ (rows ++ list)) (sym tail)))

-- ---- trees

module _ (f : Forest) where
  pub from-none : (n v : ℕ) → n ≡ 0 → nodes_from f n v ≡ []
  unfolding nodes_from
  from-none zero v none = refl
  from-none (suc n) v none = absurd (omega arith)

  pub from-step : (n m v w : ℕ) → n ≡ m + 1 → w ≡ v + 1 → nodes_from f n v ≡ tree_nodes f v ++ nodes_from f m w
  unfolding nodes_from
  from-step zero m v w count next = absurd (omega arith)
  from-step (suc n) m v w count next =
      let one : n ≡ m = omega arith in
      let same : suc v ≡ w = omega arith in
      ap (λ k. tree_nodes f v ++ nodes_from f k (suc v)) one ∙ ap (λ k. tree_nodes f v ++ nodes_from f m k) same

module _ (form : Form) (f : Forest) where
  -- the text of the forest is what opens it, its lines, and what closes it
  pub forest-parts : (piece last : List ℕ) → piece ≡ counts_text f ++ open_text form → last ≡ close_text form →
      forest_text form f ≡ piece ++ (lines_text form (tree f) (all_nodes f) ++ last)
  forest-parts piece last first closing =
      let lines = lines_text form (tree f) (all_nodes f) in
      append_assoc (counts_text f ++ open_text form) lines (close_text form)
      ∙ (ap (λ list. list ++ (lines ++ close_text form)) (sym first) ∙ ap (λ list. piece ++ (lines ++ list)) (sym closing))

  -- no tree begins at this VMO
  pub tree-none : (v : ℕ) → None ≡ root_of f v → [] ≡ lines_text form (tree f) (tree_nodes f v)
  tree-none v none =
      sym (ap (λ o. lines_text form (tree f) (nodes_below (nodes_of f.arena) f.arena.lists o)) (sym none)
      ∙ (ap (lines_text form (tree f)) (over-none (nodes_of f.arena) f.arena.lists) ∙ lines-none form (tree f)))

  -- the lines of one tree more
  pub lines-step : (n m v w : ℕ) → n ≡ m + 1 → w ≡ v + 1 →
      lines_text form (tree f) (nodes_from f n v) ≡ lines_text form (tree f) (tree_nodes f v) ++ lines_text form (tree f) (nodes_from f m w)
  lines-step n m v w count next =
      ap (lines_text form (tree f)) (from-step f n m v w count next) ∙ lines-append form (tree f) (tree_nodes f v) (nodes_from f m w)

  pub lines-end : (n v : ℕ) → n ≡ 0 → lines_text form (tree f) (nodes_from f n v) ≡ []
  lines-end n v none = ap (lines_text form (tree f)) (from-none f n v none) ∙ lines-none form (tree f)
