-- Who is found by a search: the visible nodes that see a row from a side, each of them once.
use Rattle.cow_split.proofs.Words.{◌≡◌, ℕ, zero, suc, ◌+◌, ◌-◌, ◌<◌, ◌≤◌, Bool, true, false, List, [], ◌∷◌, ◌++◌, length, Option, None}
use Rattle.cow_split.proofs.Words.{Some, refl, sym, ◌∙◌, subst, arith, ◌↔◌, IsSome, if◌then◌else◌, All, Contains, IsDistinct, All-append}
use Rattle.cow_split.proofs.Words.{All-weaker, All-contains_itself, All-from_recursion, recursion_from_All, IsDistinct-cons}
use Rattle.cow_split.proofs.Words.{IsDistinct-head, IsDistinct-tail, ne_eqb, eqb-true, passes, Koid, some_same, Slot, NodeId, Node, Side}
use Rattle.cow_split.proofs.Words.{IsVisible, link_to, leads_to, child_on, Tree, IsForest, HasRow, in_window, ends, meets, viewers_from}
use Rattle.cow_split.proofs.Words.{viewers_at, Sees}
use Rattle.std.proofs.Math.Dec.{eqb}
use Rattle.std.proofs.lemmas.Map.Views.{Contains-from_any}
use Rattle.std.proofs.lemmas.Map.Steps.{length-le_from_distinct_below}
use Rattle.cow_arena.proofs.ReachLaws.{reach-once, found-of-reach}
use Rattle.cow_split.proofs.SearchLaws.{contains-first, contains-later, down-none, down-absent, down-step, deeper-child, way-down}
use Rattle.cow_split.proofs.SearchLaws.{reached-of-found, seen-found}

-- two lists without a common element, in each of which no element stands twice
pub distinct-append : (xs ys : List ℕ) → IsDistinct eqb xs → IsDistinct eqb ys → ((v : ℕ) → Contains xs v → Contains ys v → ⊥) → IsDistinct eqb (xs ++ ys)
distinct-append [] ys one two apart = two
distinct-append (x ∷ xs) ys one two apart =
    let here : All (λ y. eqb x y ≡ false) xs = All-from_recursion (λ y. eqb x y ≡ false) xs (IsDistinct-head eqb x xs one) in
    let there : All (λ y. eqb x y ≡ false) ys =
    All-weaker (Contains ys) (λ y. eqb x y ≡ false) (λ y in_ys. ne_eqb x y (λ same. apart x (contains-first x xs) (subst (Contains ys) (sym same) in_ys))) ys
    (All-contains_itself ys) in
    IsDistinct-cons eqb x (xs ++ ys) (recursion_from_All (λ y. eqb x y ≡ false) (xs ++ ys) (All-append (λ y. eqb x y ≡ false) xs ys here there))
    (distinct-append xs ys (IsDistinct-tail eqb x xs one) two (λ v in_xs in_ys. apart v (contains-later x v xs in_xs) in_ys))

-- the shortest lists
distinct-none : IsDistinct eqb []
unfolding IsDistinct
distinct-none = tt

pub distinct-one : (k : ℕ) → IsDistinct eqb (k ∷ [])
distinct-one k = IsDistinct-cons eqb k [] (recursion_from_All (λ y. eqb k y ≡ false) [] (λ i d few. absurd (omega arith))) distinct-none

module _ (t : Tree) (f : IsForest t.nodes t.lists) where
  -- ---- who is found

  -- who is found is visible
  pub viewer-visible : (except : Option NodeId) (side : Side) (h q v : ℕ) → Contains (viewers_from t except side h q) v → (node : Node) × IsVisible t.nodes v node
  viewer-visible except side h q v found = let it = reached-of-found t f except side h q v found in (it.page.node, it.page.visible)

  -- so its node has a koid
  pub viewer-koid : (except : Option NodeId) (side : Side) (h q v : ℕ) (node : Node) → Contains (viewers_from t except side h q) v →
      t.nodes v ≡ Some node → IsSome node.koid
  viewer-koid except side h q v node found at =
      let it = viewer-visible except side h q v found in subst (λ (n : Node). IsSome n.koid) (some_same (sym it.1.at ∙ at)) it.1.koid

  -- where there is a row, those who see it from this side are found, and no one else
  pub viewer-sees : (side : Side) (h q : ℕ) (slot : Slot) → HasRow t h q slot →
      (v : ℕ) → Contains (viewers_from t None side h q) v ↔ ((p : ℕ) × Sees t v p (Some side) h q)
  unfolding passes
  viewer-sees side h q slot row v = (
    λ found.
        let it = reached-of-found t f None side h q v found in
        (it.p, record { page = it.page; slot = slot; found = found-of-reach t f v it.p side h q row.node slot it.way row.at row.row }),
    λ seen. seen-found t f None v seen.0 side h q seen.1 refl,
  )

  -- nobody is found on both sides
  pub viewer-side : (h q v : ℕ) → Contains (viewers_from t None Side.Left h q) v → Contains (viewers_from t None Side.Right h q) v → ⊥
  viewer-side h q v left right =
      let one = reached-of-found t f None Side.Left h q v left in
      let two = reached-of-found t f None Side.Right h q v right in
      let sides = (reach-once t f v one.p two.p Side.Left Side.Right h q one.way two.way).1 in
      cc

  module _ (except : Option NodeId) where
    abbrev found : Option NodeId → ℕ → List ℕ
    found child q = viewers_at t except child q

    -- nobody is found below both children of a node
    below-apart : (k p l r v : ℕ) (node : Node) → t.nodes k ≡ Some node → node.left ≡ link_to l → node.right ≡ link_to r →
        Contains (found (link_to l) p) v → Contains (found (link_to r) p) v → ⊥
    below-apart k p l r v node at left right in_left in_right =
        let one = way-down t f except k l p v node Side.Left at left in_left in
        let two = way-down t f except k r p v node Side.Right at right in_right in
        let sides = (reach-once t f v one.p two.p Side.Left Side.Right k p one.way two.way).1 in
        cc

    -- nobody is found twice below a node
    found-distinct : (n k q : ℕ) → t.lists ≤ n + f.rank k → IsDistinct eqb (found (link_to k) q)
    found-distinct zero k q few = with_node (t.nodes k) refl
      where
        with_node : (o : Option Node) → t.nodes k ≡ o → IsDistinct eqb (found (link_to k) q)
        with_node None e = rw (down-absent t.nodes t.slots t.lists f except t.lists k q e) distinct-none
        with_node (Some node) e = absurd (let most = f.by.ranks k node e in omega arith)
    found-distinct (suc n) k q few = with_node (λ c p deeper. found-distinct n c p (omega arith)) (t.nodes k) refl
      where
        with_except : (b : Bool) → IsDistinct eqb (if b then [] else k ∷ [])
        with_except true = distinct-none
        with_except false = distinct-one k

        with_koid : (node : Node) → t.nodes k ≡ Some node → ((c p : ℕ) → f.rank k < f.rank c → IsDistinct eqb (found (link_to c) p)) →
            (o : Option Koid) → node.koid ≡ o → (p : ℕ) → IsDistinct eqb (ends t.nodes t.slots except found k node p o)
        with_koid node at further (Some koid) e p = with_except (leads_to except k)
        with_koid node at further None e p =
            let pair = f.by.pairs k node at e in
            let l = deeper-child t.nodes t.slots t.lists f except k pair.left node Side.Left at pair.left_is in
            let r = deeper-child t.nodes t.slots t.lists f except k pair.right node Side.Right at pair.right_is in
            let both = distinct-append (found (link_to pair.left) p) (found (link_to pair.right) p) (further pair.left p l) (further pair.right p r)
            (λ v in_left in_right. below-apart k p pair.left pair.right v node at pair.left_is pair.right_is in_left in_right) in
            subst (λ c. IsDistinct eqb (found c p ++ found node.right p)) (sym pair.left_is)
            (subst (λ c. IsDistinct eqb (found (link_to pair.left) p ++ found c p)) (sym pair.right_is) both)

        with_row : (node : Node) → t.nodes k ≡ Some node → ((c p : ℕ) → f.rank k < f.rank c → IsDistinct eqb (found (link_to c) p)) →
            (o : Option Slot) → (p : ℕ) → IsDistinct eqb (meets t.nodes t.slots except found k node p o)
        with_row node at further (Some slot) p = distinct-none
        with_row node at further None p = with_koid node at further node.koid refl p

        with_window : (node : Node) → t.nodes k ≡ Some node → ((c p : ℕ) → f.rank k < f.rank c → IsDistinct eqb (found (link_to c) p)) →
            (b : Bool) (p : ℕ) → IsDistinct eqb (if b then meets t.nodes t.slots except found k node p (t.slots node.list.0 p) else [])
        with_window node at further false p = distinct-none
        with_window node at further true p = with_row node at further (t.slots node.list.0 p) p

        with_node : ((c p : ℕ) → f.rank k < f.rank c → IsDistinct eqb (found (link_to c) p)) → (o : Option Node) → t.nodes k ≡ o → IsDistinct eqb (found (link_to k) q)
        with_node further None e = rw (down-absent t.nodes t.slots t.lists f except t.lists k q e) distinct-none
        with_node further (Some node) e =
            rw (down-step t.nodes t.slots t.lists f except k q node e) (with_window node e further (in_window node q) (q - node.first))

    -- nobody is found twice
    pub viewers-distinct : (side : Side) (h q : ℕ) → IsDistinct eqb (viewers_from t except side h q)
    viewers-distinct side h q = with_node (t.nodes h) refl
      where
        with_child : (o : Option NodeId) → IsDistinct eqb (found o q)
        with_child None = rw (down-none t.nodes t.slots t.lists f except t.lists q) distinct-none
        with_child (Some c) = found-distinct t.lists c.0 q (omega arith)

        with_node : (o : Option Node) → t.nodes h ≡ o → IsDistinct eqb (viewers_from t except side h q)
        with_node None e = rw e distinct-none
        with_node (Some node) e = rw e (with_child (child_on node side))

    -- there are not more of them than there are numbers for nodes
    pub viewers-few : (side : Side) (h q room : ℕ) → ((k : ℕ) → IsSome (t.nodes k) → k < room) →
        length (viewers_from t except side h q) ≤ room
    viewers-few side h q room below =
        length-le_from_distinct_below (viewers_from t except side h q) room (viewers-distinct side h q)
        (λ v any.
        let it = viewer-visible except side h q v (Contains-from_any eqb-true v (viewers_from t except side h q) any) in
        below v (subst IsSome (sym it.1.at) refl))
