-- A VMO's node gets fewer pages: first its window, and then its count.
use Rattle.cow_merge.proofs.Words.{◌≡◌, ℕ, ◌+◌, ◌≤◌, min, Bool, true, false, not, Option, None, Some, inl, inr, IsSome, IsSomeAnd, refl}
use Rattle.cow_merge.proofs.Words.{sym, ap, subst, ◌∙◌, arith, is_some, cases_eq, Rows, with_key, some_same, with_key-same, with_key-other}
use Rattle.cow_merge.proofs.Words.{with_key-here, Row, slots_of, Pool, is_taken, Node, NodeId, Arena, Nodes, nodes_of, node_above}
use Rattle.cow_merge.proofs.Words.{IsVisible, Tree, frame_shown, IsForest, window_first, with_window, tree_of}
use Rattle.cow_merge.proofs.Words.{IsPage, IsExact, all_in_sight, IsPartOf, Moves, IsLeftOut, with_count, narrowed_nodes, KeepsPages}
use Rattle.cow_merge.proofs.CountLaws.{narrowed-page, narrowed-shows, exact-narrowed}
use Rattle.cow_split.proofs.CutLaws.{page-over}

-- the tree of other nodes
pub tree-now : (old new : Arena) (rows : Rows Row) (nodes : Nodes) → nodes_of new ≡ nodes → new.lists ≡ old.lists →
    tree_of new rows ≡ record (tree_of old rows) { nodes = nodes }
tree-now old new rows nodes is lists = λ i. record { nodes = is i; slots = slots_of rows; lists = lists i }

-- a key that gets the value that it has
with_key-self : {A : Type 0} (map : ℕ → Option A) (k : ℕ) (a : A) → map k ≡ Some a → with_key map k a ≡ map
with_key-self {A} map k a at = λ i n. here n i
  where
    here : (n : ℕ) → with_key map k a n ≡ map n
    here n = elim (cases_eq n k) [
      | inl same ↦ with_key-here map k a n same ∙ (sym at ∙ ap map (sym same))
      | inr apart ↦ with_key-other map k a n apart
    ]

-- of two values of a key the second stays
with_key-twice : {A : Type 0} (map : ℕ → Option A) (k : ℕ) (a b : A) → with_key (with_key map k a) k b ≡ with_key map k b
with_key-twice {A} map k a b = λ i n. here n i
  where
    here : (n : ℕ) → with_key (with_key map k a) k b n ≡ with_key map k b n
    here n = elim (cases_eq n k) [
      | inl same ↦ with_key-here (with_key map k a) k b n same ∙ sym (with_key-here map k b n same)
      | inr apart ↦
          with_key-other (with_key map k a) k b n apart ∙ (with_key-other map k a n apart ∙ sym (with_key-other map k b n apart))
    ]

-- ---- the window

-- a node without a parent has no window
pub narrowed-root : (arena : Arena) (v : ℕ) (node : Node) (count : ℕ) → IsForest (nodes_of arena) arena.lists →
    nodes_of arena v ≡ Some node → node.parent ≡ None → nodes_of arena ≡ narrowed_nodes (nodes_of arena) v node count
narrowed-root arena v node count f at root =
    let seen = f.by.root v node at root in
    let first = f.by.empty v node at seen in
    let none : min node.seen count ≡ 0 = omega arith in
    let same : with_window node node.first (min node.seen count) ≡ node =
    ap (λ s. with_window node node.first s) none
    ∙ (ap (λ p. record node { first = p; seen = 0 }) (sym first) ∙ ap (λ s. record node { seen = s }) (sym seen)) in
    sym (ap (with_key (nodes_of arena) v) same ∙ with_key-self (nodes_of arena) v node at)

pub narrowed-none : (arena : Arena) (v : ℕ) (own : Node) (count : ℕ) → IsForest (nodes_of arena) arena.lists → nodes_of arena v ≡ Some own →
    (none : Bool) → is_some own.parent ≡ not none → none ≡ true → (node : Node) → nodes_of arena v ≡ Some node → nodes_of arena ≡ narrowed_nodes (nodes_of arena) v node count
narrowed-none arena v own count f at none is told node also =
    subst (λ n. nodes_of arena ≡ narrowed_nodes (nodes_of arena) v n count) (some_same (sym at ∙ also)) (narrowed-root arena v own count f at (go own.parent refl))
  where
    go : (up : Option NodeId) → own.parent ≡ up → own.parent ≡ None
    go None e = e
    go (Some parent) e = let some = ap is_some e in let off = ap not told in absurd (cc)

-- the window still ends inside the parent
pub narrowed-inside : (arena : Arena) (v : ℕ) (node : Node) (count : ℕ) → IsForest (nodes_of arena) arena.lists → nodes_of arena v ≡ Some node →
    (none : Bool) → is_some node.parent ≡ not none → none ≡ false → (first seen : ℕ) → first ≡ window_first node.first seen → seen ≡ min node.seen count →
    IsSomeAnd (node_above (nodes_of arena) v) (λ (above : Node). first + seen ≤ above.count)
narrowed-inside arena v node count f at none is told first seen first_is seen_is = go node.parent refl
  where
    begins : (from pages : ℕ) → window_first from pages ≤ from
    begins from pages = elim (cases_eq pages 0) [
      | inl empty ↦ subst (λ s. window_first from s ≤ from) (sym empty) (omega arith)
      | inr some ↦ grind (arith)
    ]

    go : (up : Option NodeId) → node.parent ≡ up → IsSomeAnd (node_above (nodes_of arena) v) (λ (above : Node). first + seen ≤ above.count)
    go None e = let some = ap is_some e in let on = ap not told in absurd (cc)
    go (Some parent) e =
        let below = f.by.below parent.0 v node at e in
        let fits : first + seen ≤ below.above.count = omega (arith, begins node.first seen, below.window) in
        rw (at, e, below.at) fits

-- ---- the count

-- what a caller of `shrink` says of the node
pub record IsShrinking (arena : Arena) (v count : ℕ) : Type 0 where
  pub node : Node
  pub visible : IsVisible (nodes_of arena) v node
  pub few : count ≤ node.count

pub shrinking-of : (arena : Arena) (v count : ℕ) →
    IsSomeAnd (nodes_of arena v) (λ (node : Node). IsSome node.koid × (count ≤ node.count)) → IsShrinking arena v count
shrinking-of arena v count some = go (nodes_of arena v) refl some
  where
    go : (o : Option Node) → nodes_of arena v ≡ o → IsSomeAnd o (λ (node : Node). IsSome node.koid × (count ≤ node.count)) → IsShrinking arena v count
    go None at some = absurd some
    go (Some node) at some = record { node = node; visible = record { at = at; koid = some.0 }; few = some.1 }

module _ (arena between new : Arena) (v count : ℕ) (node : Node) (visible : IsVisible (nodes_of arena) v node)
    (window : nodes_of between ≡ narrowed_nodes (nodes_of arena) v node count) where
  narrowed-at : nodes_of between v ≡ Some (with_window node node.first (min node.seen count))
  narrowed-at = ap (λ f. f v) window ∙ with_key-same (nodes_of arena) v (with_window node node.first (min node.seen count))

  pub narrowed-ready : IsSomeAnd (nodes_of between v) (λ (node : Node). IsSome node.koid × (node.seen ≤ count))
  narrowed-ready =
      subst
      (λ o. IsSomeAnd o (λ (node : Node). IsSome node.koid × (node.seen ≤ count)))
      (sym narrowed-at)
      (visible.koid, omega arith)

  pub counted-nodes : ((node : Node) → nodes_of between v ≡ Some node → nodes_of new ≡ with_key (nodes_of between) v (record node { count = count })) →
      nodes_of new ≡ with_key (nodes_of arena) v (with_count node count)
  counted-nodes counted =
      counted (with_window node node.first (min node.seen count)) narrowed-at
      ∙ (ap (λ f. with_key f v (with_count node count)) window
      ∙ with_key-twice (nodes_of arena) v (with_window node node.first (min node.seen count)) (with_count node count))

  pub shrunk : (rows late : Rows Row) (before after : Pool) → count ≤ node.count →
      IsLeftOut arena late after v node count → Moves arena rows late before after v count IsPartOf →
      ((node : Node) → nodes_of between v ≡ Some node → nodes_of new ≡ with_key (nodes_of between) v (record node { count = count })) →
      new.lists ≡ arena.lists → IsForest (nodes_of new) new.lists → KeepsPages arena new rows late before after
  shrunk rows late before after few left lost counted lists forest =
      let nodes = counted-nodes counted in
      let t : Tree = tree_of arena late in
      let now = tree-now arena new late (with_key (nodes_of arena) v (with_count node count)) nodes lists in
      let g : IsForest (with_key (nodes_of arena) v (with_count node count)) arena.lists =
      subst (λ l. IsForest (with_key (nodes_of arena) v (with_count node count)) l) lists (subst (λ f. IsForest f new.lists) nodes forest) in
      record {
        exact = subst (λ (u : Tree). IsExact u all_in_sight (is_taken after)) (sym now)
            (exact-narrowed t v count node visible few g (is_taken after) left.exact left.bare);
        lists = lists;
        shows = subst (λ (u : Tree). (w q : ℕ) → IsPage u w q → frame_shown u w q ≡ frame_shown (tree_of arena rows) w q) (sym now)
            (λ w q page.
            let was = narrowed-page t v count node visible few g w q page in
            narrowed-shows t v count node visible few g left.exact.forest w q page ∙ lost.shows w q (page-over t (slots_of rows) w q was.0) was.1);
        accounts = lost.accounts;
      }
