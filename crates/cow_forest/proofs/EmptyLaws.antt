-- A forest with nothing, one that gets its frames, and one with more room for rows.
use Rattle.cow_forest.proofs.Words.{◌≡◌, ℕ, Bool, false, List, Option, None, Some, refl, sym, ap, subst, ◌∙◌, arith, is_some}
use Rattle.cow_forest.proofs.Words.{false_from_ne_true, Rows, value_at, count_below_none, Content, nothing, vmos_of, Pool, taken_frames}
use Rattle.cow_forest.proofs.Words.{is_taken, Row, slots_of, row_functions, slot_of, Node, NodeId, Arena, Nodes, nodes_of, Slots, IsForest}
use Rattle.cow_forest.proofs.Words.{visible_count, tree_of, IsExact, all_in_sight, same_content, node_in, Forest, tree, forest_content}
use Rattle.cow_forest.proofs.Words.{count_from, frame_from, page_showing, IsNodeOf, IsStore}
use Rattle.cow_split.proofs.RowLaws.{exact-in_use_alike}
use Rattle.cow_fork.proofs.RootLaws.{exact-empty}
use Rattle.cow_forest.proofs.ContentLaws.{page-shown, taken-shown}
use Rattle.cow_forest.proofs.StoreLaws.{store-kept}

-- ---- a forest with nothing

-- there are no nodes, no rows and no VMO, and no frame is taken
pub record HasNothing (f : Forest) : Type 0 where
  pub nodes : nodes_of f.arena ≡ λ k. None
  pub lists : f.arena.lists ≡ 0
  pub forest : IsForest (nodes_of f.arena) f.arena.lists
  pub visible : visible_count f.arena ≡ 0
  pub slots : slots_of f.rows ≡ λ l p. None
  pub free : (t : ℕ) → taken_frames f.pool t ≡ None
  pub table : (v : ℕ) → node_in f.nodes v ≡ None
  pub next : f.next ≡ 1
  pub vmos : f.vmos ≡ 0

module _ (f : Forest) (h : HasNothing f) where
  no-node : (k : ℕ) → nodes_of f.arena k ≡ None
  no-node k = ap (λ (nodes : Nodes). nodes k) h.nodes

  no-row : (l p : ℕ) → slots_of f.rows l p ≡ None
  no-row l p = ap (λ (slots : Slots). slots l p) h.slots

  none-named : (v k : ℕ) (node : Node) → IsNodeOf (nodes_of f.arena) v k node → ⊥
  none-named v k node is = let none = no-node k in let some = is.at in absurd cc

  no-count : (v : ℕ) → (forest_content f).count v ≡ None
  no-count v = ap (count_from (nodes_of f.arena)) (h.table v)

  pub store-empty : IsStore f
  unfolding vmos_of
  store-empty = record {
    exact = exact-empty (tree f) all_in_sight (is_taken f.pool) h.forest no-node no-row (λ t. ap is_some (h.free t));
    linked = record { linked = λ l q row tag at frame. let none = no-row l q in absurd cc };
    named = λ v at is. let none = h.table v in absurd cc;
    nodes = λ v k node is. absurd (none-named v k node is);
    owners = λ k node at. let none = no-node k in absurd cc;
    counts = λ v k node is. absurd (none-named v k node is);
    koids = λ v k node is. absurd (none-named v k node is);
    first_koid = omega (arith, h.next);
    lists = omega (arith, h.next, h.lists);
    vmos = h.vmos ∙ sym (count_below_none f.next (λ v. is_some ((forest_content f).count v)) (λ v less. ap is_some (no-count v)));
    visible = h.visible ∙ sym h.vmos;
  }

  pub content-empty : f.pool.frames ≡ 0 → forest_content f ≡ nothing
  unfolding nothing
  content-empty frames = same_content _ _ frames h.next no-count (λ v p. ap (λ (o : Option NodeId). page_showing f.pool (frame_from (tree f) o p)) (h.table v))

-- ---- it gets its frames

showing-none : (pool other : Pool) (o : Option ℕ) → page_showing pool o ≡ None → page_showing other o ≡ page_showing pool o
showing-none pool other None e = refl
showing-none pool other (Some t) e = absurd cc

module _ (f : Forest) (pool : Pool) (s : IsStore f) (empty : forest_content f ≡ nothing) where
  pub no-frames : f.pool.frames ≡ 0
  unfolding nothing
  no-frames = ap (λ (c : Content). c.frames) empty

  none-held : (v p : ℕ) → (forest_content f).page v p ≡ None
  unfolding nothing
  none-held v p = ap (λ (c : Content). c.page v p) empty

  none-taken : (t : ℕ) → is_taken f.pool t ≡ false
  none-taken t = false_from_ne_true (is_taken f.pool t) (λ taken.
      let it = taken-shown f s t taken in
      let shown = page-shown f s it.0 it.1 it.2 t it.3 in
      let none = none-held it.0 it.2 in
      let some = shown.1.page in
      absurd cc)

  pub store-filled : ((t : ℕ) → taken_frames pool t ≡ None) → IsStore (record f { pool = pool })
  store-filled free = store-kept f f.rows pool s
      (exact-in_use_alike (tree f) all_in_sight (is_taken f.pool) (is_taken pool) (λ t. none-taken t ∙ sym (ap is_some (free t))) s.exact)
      (record { linked = λ l q row tag at frame. let none = none-taken tag in let some = s.exact.used l q row tag at frame in absurd cc })

  pub content-filled : (n : ℕ) → pool.frames ≡ n → forest_content (record f { pool = pool }) ≡ record (forest_content f) { frames = n }
  content-filled n frames = same_content _ _ frames refl (λ v. refl) (λ v p. showing-none f.pool pool (frame_from (tree f) (node_in f.nodes v) p) (none-held v p))

-- ---- more room for rows

-- the tree is exact as before
exact-roomy : (arena : Arena) (old new : Rows Row) (in_use : ℕ → Bool) → new.rows ≡ old.rows → IsExact (tree_of arena old) all_in_sight in_use →
    IsExact (tree_of arena new) all_in_sight in_use
exact-roomy arena old new in_use same = subst (λ (r : List Row).
    IsExact (record { nodes = nodes_of arena; slots = value_at row_functions slot_of r; lists = arena.lists }) all_in_sight in_use) (sym same)

pub store-roomy : (f : Forest) (rows : Rows Row) → IsStore f → rows.rows ≡ f.rows.rows → IsStore (record f { rows = rows })
store-roomy f rows s same = store-kept f rows f.pool s (exact-roomy f.arena f.rows rows (is_taken f.pool) same s.exact)
    (record { linked = λ l q row tag at frame. s.linked.linked l q row tag (ap (λ (rs : List Row). value_at row_functions slot_of rs l q) (sym same) ∙ at) frame })
