-- The search downwards is the sight: it finds the visible nodes that see a row.
use Rattle.cow_split.proofs.Words.{some_is, ◌≡◌, ℕ, zero, suc, ◌+◌, ◌-◌, ◌<◌, ◌≤◌, Bool, true, false, List, [], ◌∷◌, ◌++◌, Option, None}
use Rattle.cow_split.proofs.Words.{Some, ◌⊎◌, inl, inr, refl, sym, ap, ◌∙◌, subst, arith, IsSome, if◌then◌else◌, Contains, lt-ltb, le-leb}
use Rattle.cow_split.proofs.Words.{nat_tests, Contains-append_left, Contains-append_right, Contains-append_cases, Contains-push}
use Rattle.cow_split.proofs.Words.{Contains-push_cases, Koid, passes, some_same, eqb_same, Slot, NodeId, Node, Side, Nodes, link_to}
use Rattle.cow_split.proofs.Words.{leads_to, child_on, side_in, Slots, Tree, IsForest, Climbs, Reaches, in_window, ends, meets}
use Rattle.cow_split.proofs.Words.{viewers_over, viewers_from, has_some, reached_from, viewers_at, IsLeafOn, IsPage, Sees}
use Rattle.cow_arena.proofs.ReachLaws.{hidden-of-child, reach-one, reach-each, reach-on, child-there, climb-from-child, side-of-child}
use Rattle.cow_arena.proofs.ReachLaws.{climb-side, found-of-reach, walk-ends}

-- ---- lists of nodes

-- no node is in the empty list, and one alone in a list of one
pub contains-none : (v : ℕ) → Contains [] v → ⊥
contains-none v in_list = let few = in_list.1 in omega arith

pub contains-one : (k v : ℕ) → Contains (k ∷ []) v → k ≡ v
contains-one k v in_list = elim (Contains-push_cases [] k v in_list) [
  | inl none ↦ absurd (contains-none v none)
  | inr same ↦ same
]

-- a list has its first element, and those of its rest
pub contains-first : (k : ℕ) (list : List ℕ) → Contains (k ∷ list) k
contains-first k list = Contains-append_left (k ∷ []) list k (Contains-push [] k)

pub contains-later : (k v : ℕ) (list : List ℕ) → Contains list v → Contains (k ∷ list) v
contains-later k v list = Contains-append_right (k ∷ []) list v

-- a list without elements is empty
pub none-in : (list : List ℕ) → ((v : ℕ) → Contains list v → ⊥) → list ≡ []
none-in [] nobody = refl
none-in (k ∷ list) nobody = absurd (nobody k (contains-first k list))

-- `has_some` says whether there is an element
pub some-in : (list : List ℕ) → has_some list ≡ true → (v : ℕ) × Contains list v
some-in [] some = absurd (cc)
some-in (k ∷ list) some = (k, contains-first k list)

pub some-of : (list : List ℕ) (v : ℕ) → Contains list v → has_some list ≡ true
some-of [] v in_list = absurd (contains-none v in_list)
some-of (k ∷ list) v in_list = refl

-- ---- one step down, over the same fuel

module _ (nodes : Nodes) (slots : Slots) (lists : ℕ) (f : IsForest nodes lists) (except : Option NodeId) where
  abbrev down : ℕ → Option NodeId → ℕ → List ℕ
  down n = viewers_over nodes slots except n

  pub down-none : (n q : ℕ) → down n None q ≡ []
  unfolding viewers_over
  down-none zero q = refl
  down-none (suc n) q = refl

  pub down-absent : (n k q : ℕ) → nodes k ≡ None → down n (link_to k) q ≡ []
  unfolding viewers_over
  down-absent zero k q e = refl
  down-absent (suc n) k q e = rw e refl

  down-some : (n k q : ℕ) (node : Node) → nodes k ≡ Some node →
      down (suc n) (link_to k) q ≡ (if in_window node q then meets nodes slots except (down n) k node (q - node.first) (slots node.list.0 (q - node.first)) else [])
  unfolding viewers_over
  down-some n k q node at = rw at refl

  -- what is met at a node depends on what is found below it alone
  meets-alike : (g h : Option NodeId → ℕ → List ℕ) (k p : ℕ) (node : Node) → nodes k ≡ Some node → (row : Option Slot) →
      ((s : Side) (c : ℕ) → child_on node s ≡ link_to c → g (link_to c) p ≡ h (link_to c) p) →
      meets nodes slots except g k node p row ≡ meets nodes slots except h k node p row
  meets-alike g h k p node at (Some slot) below = refl
  meets-alike g h k p node at None below = with_koid node.koid refl
    where
      with_koid : (o : Option Koid) → node.koid ≡ o → ends nodes slots except g k node p o ≡ ends nodes slots except h k node p o
      with_koid (Some koid) e = refl
      with_koid None e =
          let pair = f.by.pairs k node at e in
          let l : g node.left p ≡ h node.left p = subst (λ c. g c p ≡ h c p) (sym pair.left_is) (below Side.Left pair.left pair.left_is) in
          let r : g node.right p ≡ h node.right p = subst (λ c. g c p ≡ h c p) (sym pair.right_is) (below Side.Right pair.right pair.right_is) in
          ap (λ list. list ++ g node.right p) l ∙ ap (λ list. h node.left p ++ list) r

  -- the rank of a child
  pub deeper-child : (k c : ℕ) (node : Node) (s : Side) → nodes k ≡ Some node → child_on node s ≡ link_to c → f.rank k < f.rank c
  deeper-child k c node s at child =
      let it = child-there nodes lists f k c node s at child in (f.by.below k c it.node it.at it.parent).deeper

  -- as much fuel as there are ranks from the node on is as good as any
  down-enough : (n m k q : ℕ) → lists ≤ n + f.rank k → lists ≤ m + f.rank k → down n (link_to k) q ≡ down m (link_to k) q
  down-enough zero m k q h g = with_node (nodes k) refl
    where
      with_node : (o : Option Node) → nodes k ≡ o → down zero (link_to k) q ≡ down m (link_to k) q
      with_node None e = down-absent zero k q e ∙ sym (down-absent m k q e)
      with_node (Some node) e = absurd (let few = f.by.ranks k node e in omega arith)
  down-enough (suc n) zero k q h g = with_node (nodes k) refl
    where
      with_node : (o : Option Node) → nodes k ≡ o → down (suc n) (link_to k) q ≡ down zero (link_to k) q
      with_node None e = down-absent (suc n) k q e ∙ sym (down-absent zero k q e)
      with_node (Some node) e = absurd (let few = f.by.ranks k node e in omega arith)
  down-enough (suc n) (suc m) k q h g =
      with_node (λ c p less. down-enough n m c p (omega arith) (omega arith)) (nodes k) refl
    where
      with_node : ((c p : ℕ) → f.rank k < f.rank c → down n (link_to c) p ≡ down m (link_to c) p) →
          (o : Option Node) → nodes k ≡ o → down (suc n) (link_to k) q ≡ down (suc m) (link_to k) q
      with_node further None e = down-absent (suc n) k q e ∙ sym (down-absent (suc m) k q e)
      with_node further (Some node) e =
          let p = q - node.first in
          down-some n k q node e
          ∙ (ap (λ list. if in_window node q then list else [])
          (meets-alike (down n) (down m) k p node e (slots node.list.0 p) (λ s c child. further c p (deeper-child k c node s e child)))
          ∙ sym (down-some m k q node e))

  -- one step down
  pub down-step : (k q : ℕ) (node : Node) → nodes k ≡ Some node →
      down lists (link_to k) q ≡ (if in_window node q then meets nodes slots except (down lists) k node (q - node.first) (slots node.list.0 (q - node.first)) else [])
  down-step k q node at = go lists (f.by.ranks k node at) (omega arith)
    where
      go : (n : ℕ) → f.rank k < n → lists ≤ n →
          down n (link_to k) q ≡ (if in_window node q then meets nodes slots except (down n) k node (q - node.first) (slots node.list.0 (q - node.first)) else [])
      go zero below few = absurd (omega arith)
      go (suc n) below few =
          let p = q - node.first in
          down-some n k q node at
          ∙ ap (λ list. if in_window node q then list else [])
          (meets-alike (down n) (down (suc n)) k p node at (slots node.list.0 p)
          (λ s c child.
          let deeper = deeper-child k c node s at child in
          down-enough n (suc n) c p (omega arith) (omega arith)))

-- ---- what a step finds

-- Page q of its parent is a page of this node, which has no row there.
pub record IsOpen (slots : Slots) (node : Node) (q : ℕ) : Type 0 where
  pub from : node.first ≤ q
  pub to : q - node.first < node.seen
  pub free : slots node.list.0 (q - node.first) ≡ None

pub window-true : (node : Node) (q : ℕ) → node.first ≤ q → q - node.first < node.seen → in_window node q ≡ true
window-true node q from to = rw (le-leb node.first q from, lt-ltb q (node.first + node.seen) (omega arith)) refl

window-of-true : (node : Node) (q : ℕ) → in_window node q ≡ true → (node.first ≤ q) × (q - node.first < node.seen)
window-of-true node q e = grind (arith, nat_tests)

module _ (t : Tree) (f : IsForest t.nodes t.lists) (except : Option NodeId) where
  abbrev found : Option NodeId → ℕ → List ℕ
  found child q = viewers_at t except child q

  abbrev met : (k p : ℕ) → Node → List ℕ
  met k p node = meets t.nodes t.slots except found k node p (t.slots node.list.0 p)

  -- what is found at a node and below it, in its window
  pub found-within : (k p : ℕ) (node : Node) → t.nodes k ≡ Some node → p < node.seen → found (link_to k) (p + node.first) ≡ met k p node
  found-within k p node at inside =
      let q = p + node.first in
      let e : q - node.first ≡ p = omega arith in
      let window = window-true node q (omega arith) (omega arith) in
      down-step t.nodes t.slots t.lists f except k q node at ∙ rw window (ap (λ r. met k r node) e)

  -- how node v is found at page q of the parent of node k, there or below it
  pub data Enters (k q : ℕ) (node : Node) (v : ℕ) : Type 0 where
    viewed : IsOpen t.slots node q → IsSome node.koid → leads_to except k ≡ false → k ≡ v → Enters k q node v
    further_down : IsOpen t.slots node q → node.koid ≡ None → (s : Side) (c : ℕ) → child_on node s ≡ link_to c →
        Contains (found (link_to c) (q - node.first)) v → Enters k q node v

  pub enters-of-found : (k q v : ℕ) (node : Node) → t.nodes k ≡ Some node → Contains (found (link_to k) q) v → Enters k q node v
  enters-of-found k q v node at holds =
      with_window (in_window node q) refl
      (subst (λ list. Contains list v) (down-step t.nodes t.slots t.lists f except k q node at) holds)
    where
      on_side : IsOpen t.slots node q → node.koid ≡ None →
          Contains (found node.left (q - node.first)) v ⊎ Contains (found node.right (q - node.first)) v → Enters k q node v
      on_side opened none way =
          let pair = f.by.pairs k node at none in
          elim way [
            | inl l ↦ further_down opened none Side.Left pair.left pair.left_is (subst (λ c. Contains (found c (q - node.first)) v) pair.left_is l)
            | inr r ↦ further_down opened none Side.Right pair.right pair.right_is (subst (λ c. Contains (found c (q - node.first)) v) pair.right_is r)
          ]

      with_except : IsOpen t.slots node q → IsSome node.koid → (b : Bool) → leads_to except k ≡ b → Contains (if b then [] else k ∷ []) v → Enters k q node v
      with_except opened some true e in_list = absurd (contains-none v in_list)
      with_except opened some false e in_list = viewed opened some e (contains-one k v in_list)

      with_koid : IsOpen t.slots node q → (o : Option Koid) → node.koid ≡ o → Contains (ends t.nodes t.slots except found k node (q - node.first) o) v → Enters k q node v
      with_koid opened (Some koid) e in_list = with_except opened (subst IsSome (sym e) refl) (leads_to except k) refl in_list
      with_koid opened None e in_list = on_side opened e (Contains-append_cases (found node.left (q - node.first)) (found node.right (q - node.first)) v in_list)

      with_row : (node.first ≤ q) × (q - node.first < node.seen) → (o : Option Slot) → t.slots node.list.0 (q - node.first) ≡ o →
          Contains (meets t.nodes t.slots except found k node (q - node.first) o) v → Enters k q node v
      with_row window (Some slot) e in_list = absurd (contains-none v in_list)
      with_row window None e in_list = with_koid (record { from = window.0; to = window.1; free = e }) node.koid refl in_list

      with_window : (b : Bool) → in_window node q ≡ b → Contains (if b then met k (q - node.first) node else []) v → Enters k q node v
      with_window false e in_list = absurd (contains-none v in_list)
      with_window true e in_list = with_row (window-of-true node q e) (t.slots node.list.0 (q - node.first)) refl in_list

  -- what is met at a visible node on the way, which has no row there: the node, or nobody, where it is excepted
  pub met-leaf : (k p : ℕ) (node : Node) → IsSome node.koid → t.slots node.list.0 p ≡ None → met k p node ≡ (if leads_to except k then [] else k ∷ [])
  met-leaf k p node some free = rw (free, (some_is node.koid some).1) refl

  -- what is met at a hidden node is what is found below its children
  pub met-through : (k p : ℕ) (node : Node) → node.koid ≡ None → t.slots node.list.0 p ≡ None → met k p node ≡ found node.left p ++ found node.right p
  met-through k p node none free = rw (free, none) refl

  -- who is found below a child of it is met there
  pub met-below : (k p v : ℕ) (node : Node) (s : Side) (c : ℕ) → node.koid ≡ None → child_on node s ≡ link_to c → Contains (found (link_to c) p) v →
      t.slots node.list.0 p ≡ None → Contains (met k p node) v
  met-below k p v node s c none child holds free = subst (λ list. Contains list v) (sym (met-through k p node none free)) (on_side s child)
    where
      on_side : (s : Side) → child_on node s ≡ link_to c → Contains (found node.left p ++ found node.right p) v
      on_side Side.Left e = Contains-append_left (found node.left p) (found node.right p) v (subst (λ o. Contains (found o p) v) (sym e) holds)
      on_side Side.Right e = Contains-append_right (found node.left p) (found node.right p) v (subst (λ o. Contains (found o p) v) (sym e) holds)

  -- who is met at a page is found at its parent
  found-of-met : (k p h q v : ℕ) (c : Climbs t k p h q) → Contains (met k p c.node) v → Contains (found (link_to k) q) v
  found-of-met k p h q v c in_list =
      let e : p + c.node.first ≡ q = let page = c.page in omega arith in
      subst (λ list. Contains list v) (sym (found-within k p c.node c.at c.inside) ∙ ap (found (link_to k)) e) in_list

-- Page q of node h is reached from the visible node v, which counts, and through the child on this side.
pub record IsReachedBy (t : Tree) (except : Option NodeId) (side : Side) (h q v : ℕ) : Type 0 where
  pub p : ℕ
  pub page : IsPage t v p
  pub counts : leads_to except v ≡ false
  pub way : Reaches t v p side h q

-- the row of page q of node h is seen from this side, by a node that counts
pub record IsSeenBut (t : Tree) (except : Option NodeId) (side : Side) (h q : ℕ) : Type 0 where
  pub v : ℕ
  pub p : ℕ
  pub sees : Sees t v p (Some side) h q
  pub counts : leads_to except v ≡ false

module _ (t : Tree) (f : IsForest t.nodes t.lists) (except : Option NodeId) where
  -- a step of a walk out of a child that is open
  climb-open : (h k q : ℕ) (above node : Node) (s : Side) → t.nodes h ≡ Some above → child_on above s ≡ link_to k → t.nodes k ≡ Some node →
      IsOpen t.slots node q → Climbs t k (q - node.first) h q
  climb-open h k q above node s above_at child at o =
      let there : node.first + (q - node.first) ≡ q = let from = o.from in omega arith in
      subst (Climbs t k (q - node.first) h) there (climb-from-child t f h k (q - node.first) above node s above_at child at o.free o.to)

  -- from whatever the search finds below a child the page is reached
  pub way-down : (h k q v : ℕ) (above : Node) (s : Side) → t.nodes h ≡ Some above → child_on above s ≡ link_to k →
      Contains (viewers_at t except (link_to k) q) v → IsReachedBy t except s h q v
  way-down h k q v above s above_at child holds = go t.lists h k q above s above_at child holds (omega arith)
    where
      go : (n h k q : ℕ) (above : Node) (s : Side) → t.nodes h ≡ Some above → child_on above s ≡ link_to k →
          Contains (viewers_at t except (link_to k) q) v → t.lists ≤ n + f.rank k → IsReachedBy t except s h q v
      go zero h k q above s above_at child holds few =
          let it = child-there t.nodes t.lists f h k above s above_at child in
          absurd (let most = f.by.ranks k it.node it.at in omega arith)
      go (suc n) h k q above s above_at child holds few =
          let it = child-there t.nodes t.lists f h k above s above_at child in
          let side_is = side-of-child t.nodes t.lists f h k above s above_at child in
          let p = q - it.node.first in
          elim (enters-of-found t f except k q v it.node it.at holds) [
            | viewed o some counts same ↦ subst (IsReachedBy t except s h q) same (record {
              p = p;
              page = record {
                node = it.node;
                visible = record { at = it.at; koid = some };
                below = let most = f.by.seen k it.node it.at in let to = o.to in omega arith;
              };
              counts = counts;
              way = reach-one t k p s h q (climb-open h k q above it.node s above_at child it.at o) side_is;
            })
            | further_down o none u c on lower ↦
                let deeper = deeper-child t.nodes t.slots t.lists f except k c it.node u it.at on in
                let found = go n k c p it.node u it.at on lower (omega arith) in
                record {
                  p = found.p;
                  page = found.page;
                  counts = found.counts;
                  way = reach-on t v found.p u k p s h q found.way (climb-open h k q above it.node s above_at child it.at o) side_is;
                }
          ]

  -- who is found below a child is found from the node
  found-of-child : (side : Side) (h q c v : ℕ) (above : Node) → t.nodes h ≡ Some above → child_on above side ≡ link_to c →
      Contains (viewers_at t except (link_to c) q) v → Contains (viewers_from t except side h q) v
  found-of-child side h q c v above at child holds = rw (at, child) holds

  way-of-found : (side : Side) (h q v : ℕ) (above : Node) → t.nodes h ≡ Some above → Contains (viewers_from t except side h q) v → IsReachedBy t except side h q v
  way-of-found side h q v above at holds = with_child (child_on above side) refl (rw at at holds)
    where
      with_child : (o : Option NodeId) → child_on above side ≡ o → Contains (viewers_at t except (child_on above side) q) v → IsReachedBy t except side h q v
      with_child None e r =
          absurd (contains-none v (subst (λ list. Contains list v) (down-none t.nodes t.slots t.lists f except t.lists q) (subst (λ c. Contains (viewers_at t except c q) v) e r)))
      with_child (Some c) e r = way-down h c.0 q v above side at e (subst (λ o. Contains (viewers_at t except o q) v) e r)

  -- from whatever the search finds the page is reached
  pub reached-of-found : (side : Side) (h q v : ℕ) → Contains (viewers_from t except side h q) v → IsReachedBy t except side h q v
  reached-of-found side h q v holds = with_node (t.nodes h) refl
    where
      with_node : (o : Option Node) → t.nodes h ≡ o → IsReachedBy t except side h q v
      with_node None e = absurd (contains-none v (rw e at holds))
      with_node (Some above) e = way-of-found side h q v above e holds

  -- where v is met at page p of node k, it is found from node h
  abbrev LeadsTo : Side → (h q v k p : ℕ) → Type 0
  LeadsTo side h q v k p = (node : Node) → t.nodes k ≡ Some node →
      (t.slots node.list.0 p ≡ None → Contains (met t f except k p node) v) → Contains (viewers_from t except side h q) v

  leads-last : (side : Side) (h q v k p : ℕ) → Climbs t k p h q → side_in t.nodes k ≡ Some side → LeadsTo side h q v k p
  leads-last side h q v k p c is node at there =
      let from = climb-side t f k p h q c in
      let same : node ≡ c.node = some_same (sym at ∙ c.at) in
      let side_is : from.1 ≡ side = some_same (sym from.4 ∙ is) in
      let free : t.slots node.list.0 p ≡ None = subst (λ (n : Node). t.slots n.list.0 p ≡ None) (sym same) c.free in
      let here = subst (λ (n : Node). Contains (met t f except k p n) v) same (there free) in
      found-of-child side h q k v from.0 from.2 (ap (child_on from.0) (sym side_is) ∙ from.3) (found-of-met t f except k p h q v c here)

  leads-more : (side : Side) (h q v k p j r : ℕ) → Climbs t k p j r → Reaches t j r side h q → LeadsTo side h q v j r → LeadsTo side h q v k p
  leads-more side h q v k p j r c way further node at there =
      let from = climb-side t f k p j r c in
      let same : node ≡ c.node = some_same (sym at ∙ c.at) in
      let free : t.slots node.list.0 p ≡ None = subst (λ (n : Node). t.slots n.list.0 p ≡ None) (sym same) c.free in
      let here = subst (λ (n : Node). Contains (met t f except k p n) v) same (there free) in
      let below = found-of-met t f except k p j r v c here in
      further from.0 from.2 (λ none. met-below t f except j r v from.0 from.1 k
      (hidden-of-child t.nodes t.lists f j k from.0 from.1 from.2 from.3) from.3 below none)

  -- from where the page is reached, that the search finds
  pub found-of-reached : (side : Side) (h q v : ℕ) → IsReachedBy t except side h q v → Contains (viewers_from t except side h q) v
  found-of-reached side h q v way =
      reach-each t side h q (LeadsTo side h q v) (leads-last side h q v) (leads-more side h q v) v way.p way.way way.page.node way.page.visible.at
      (λ free. subst (λ list. Contains list v) (sym (met-leaf t f except v way.p way.page.node way.page.visible.koid free ∙ ap (λ (b : Bool). if b then [] else v ∷ []) way.counts)) (contains-first v []))

  -- what the search finds out is seen
  pub reached-seen : (side : Side) (h q : ℕ) (node : Node) (row : Slot) → t.nodes h ≡ Some node → t.slots node.list.0 q ≡ Some row →
      reached_from t except side h q ≡ true → IsSeenBut t except side h q
  reached-seen side h q node row at has holds =
      let some = some-in (viewers_from t except side h q) holds in
      let it = reached-of-found side h q some.0 some.1 in
      record {
        v = some.0;
        p = it.p;
        sees = record { page = it.page; slot = row; found = found-of-reach t f some.0 it.p side h q node row it.way at has };
        counts = it.counts;
      }

  -- who sees a row from this side, and counts, the search finds
  pub seen-found : (v p : ℕ) (side : Side) (h q : ℕ) → Sees t v p (Some side) h q → leads_to except v ≡ false → Contains (viewers_from t except side h q) v
  seen-found v p side h q s counts =
      let end = walk-ends t f v p (record { node = h; page = q; side = Some side; slot = s.slot }) s.found in
      found-of-reached side h q v (record { p = p; page = s.page; counts = counts; way = end.way })

  -- what is seen the search finds out
  pub seen-reached : (v p : ℕ) (side : Side) (h q : ℕ) → Sees t v p (Some side) h q → leads_to except v ≡ false → reached_from t except side h q ≡ true
  seen-reached v p side h q s counts = some-of (viewers_from t except side h q) v (seen-found v p side h q s counts)

-- ---- rows that the search does not look at

module _ (nodes : Nodes) (lists : ℕ) (f : IsForest nodes lists) (except : Option NodeId) (old new : Slots) (P : ℕ → Type 0)
    (under : (k c : ℕ) (node : Node) (s : Side) → P k → nodes k ≡ Some node → child_on node s ≡ link_to c → P c)
    (same : (k p : ℕ) (node : Node) → P k → nodes k ≡ Some node → new node.list.0 p ≡ old node.list.0 p) where
  -- below a node of which P holds, as it does below each such node, and in whose rows nothing changes
  over-kept : (n k q : ℕ) → P k → viewers_over nodes new except n (link_to k) q ≡ viewers_over nodes old except n (link_to k) q
  unfolding viewers_over
  over-kept zero k q h = refl
  over-kept (suc n) k q h = with_node (λ c p g. over-kept n c p g) (nodes k) refl
    where
      with_node : ((c p : ℕ) → P c → viewers_over nodes new except n (link_to c) p ≡ viewers_over nodes old except n (link_to c) p) →
          (o : Option Node) → nodes k ≡ o → viewers_over nodes new except (suc n) (link_to k) q ≡ viewers_over nodes old except (suc n) (link_to k) q
      with_node further None e = down-absent nodes new lists f except (suc n) k q e ∙ sym (down-absent nodes old lists f except (suc n) k q e)
      with_node further (Some node) e =
          let p = q - node.first in
          let g = viewers_over nodes new except n in
          down-some nodes new lists f except n k q node e
          ∙ (ap (λ row. if in_window node q then meets nodes new except g k node p row else []) (same k p node h e)
          ∙ (ap (λ list. if in_window node q then list else [])
          (meets-alike nodes old lists f except g (viewers_over nodes old except n) k p node e (old node.list.0 p)
          (λ s c child. further c p (under k c node s h e child)))
          ∙ sym (down-some nodes old lists f except n k q node e)))

-- The search below a node on a side finds the same, where the rows of all nodes there are the same: of a `P` that holds
-- of the child on this side, and of the children of each node of which it holds.
pub viewers-kept : (t : Tree) → IsForest t.nodes t.lists → (new : Slots) (except : Option NodeId) (side : Side) (h q : ℕ) (above : Node) →
    t.nodes h ≡ Some above → (P : ℕ → Type 0) → ((c : ℕ) → child_on above side ≡ link_to c → P c) →
    ((k c : ℕ) (node : Node) (s : Side) → P k → t.nodes k ≡ Some node → child_on node s ≡ link_to c → P c) →
    ((k p : ℕ) (node : Node) → P k → t.nodes k ≡ Some node → new node.list.0 p ≡ t.slots node.list.0 p) →
    viewers_from (record t { slots = new }) except side h q ≡ viewers_from t except side h q
viewers-kept t f new except side h q above at P first under same = rw at (with_child (child_on above side) refl)
  where
    with_child : (o : Option NodeId) → child_on above side ≡ o →
        viewers_over t.nodes new except t.lists o q ≡ viewers_over t.nodes t.slots except t.lists o q
    with_child None e = down-none t.nodes new t.lists f except t.lists q ∙ sym (down-none t.nodes t.slots t.lists f except t.lists q)
    with_child (Some c) e = over-kept t.nodes t.lists f except t.slots new P under same t.lists c.0 q (first c.0 e)

pub reached-kept : (t : Tree) → IsForest t.nodes t.lists → (new : Slots) (except : Option NodeId) (side : Side) (h q : ℕ) (above : Node) →
    t.nodes h ≡ Some above → (P : ℕ → Type 0) → ((c : ℕ) → child_on above side ≡ link_to c → P c) →
    ((k c : ℕ) (node : Node) (s : Side) → P k → t.nodes k ≡ Some node → child_on node s ≡ link_to c → P c) →
    ((k p : ℕ) (node : Node) → P k → t.nodes k ≡ Some node → new node.list.0 p ≡ t.slots node.list.0 p) →
    reached_from (record t { slots = new }) except side h q ≡ reached_from t except side h q
reached-kept t f new except side h q above at P first under same =
    ap has_some (viewers-kept t f new except side h q above at P first under same)

-- ---- a leaf that is the child on a side

leads_here : (k : ℕ) → leads_to (link_to k) k ≡ true
unfolding passes
leads_here k = eqb_same k

-- nobody else is on that side
pub leaf-alone : (t : Tree) → IsForest t.nodes t.lists → (k h q : ℕ) (s : Side) → IsLeafOn t.nodes k s h → reached_from t (link_to k) s h q ≡ false
leaf-alone t f k h q s leaf =
    let nobody = down-step t.nodes t.slots t.lists f (link_to k) k q leaf.node leaf.visible.at ∙ outside (in_window leaf.node q) (met (t.slots leaf.node.list.0 (q - leaf.node.first))) in
    rw (leaf.above_at, leaf.child) (ap has_some nobody)
  where
    met : (row : Option Slot) → meets t.nodes t.slots (link_to k) (viewers_over t.nodes t.slots (link_to k) t.lists) k leaf.node (q - leaf.node.first) row ≡ []
    met (Some slot) = refl
    met None = rw (some_is leaf.node.koid leaf.visible.koid).1 (ap (λ b. if b then [] else k ∷ []) (leads_here k))

    outside : {list : List ℕ} (inside : Bool) → list ≡ [] → (if inside then list else []) ≡ []
    outside true none = none
    outside false none = refl
