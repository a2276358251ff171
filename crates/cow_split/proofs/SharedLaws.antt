-- Laws of pages that another VMO shows too: who comes to the page of a leaf's parent to which the leaf comes sees each row
-- further up that the leaf sees there. So such pages are left out of sight at once, and no row changes.
use Rattle.cow_split.proofs.Words.{◌≡◌, ℕ, Bool, true, false, None, Some, inl, inr, sym, ap, ◌∙◌, subst, arith, is_some, cases_Bool}
use Rattle.cow_split.proofs.Words.{some_same, Tag, Slot, Node, Side, Tree, IsForest, HasRow, Climbs, Reaches, IsSeenFrom, Sees, IsExact}
use Rattle.cow_arena.proofs.ReachLaws.{reach-cases, climbs-same}
use Rattle.cow_split.proofs.ExactLaws.{exact-seen_alike}
use Rattle.cow_arena.proofs.RisesLaws.{reach-then}

-- Page x of k comes to page q of its parent h, which has no row there. Who comes there too comes to the row to which k goes on.
pub beside-way : (t : Tree) (f : IsForest t.nodes t.lists) (k x h q : ℕ) (above : Node) → t.nodes h ≡ Some above → t.slots above.list.0 q ≡ None →
    Climbs t k x h q → (w p : ℕ) (s from : Side) (g r : ℕ) (slot : Slot) → Reaches t w p s h q → Reaches t k x from g r → HasRow t g r slot →
    Reaches t w p from g r
beside-way t f k x h q above at free step w p s from g r slot way up row = elim (reach-cases t k x from g r up) [
  | inl one ↦
      let same = climbs-same t f k x h q x g r step one.0 in
      let page : r ≡ q = omega (arith, same.1) in
      let node : row.node ≡ above = some_same (sym row.at ∙ (ap t.nodes (sym same.0) ∙ at)) in
      absurd (let none = ap is_some (sym (ap (λ (n : Node). t.slots n.list.0 r) node ∙ ap (t.slots above.list.0) page) ∙ row.row) in let bare = ap is_some free in cc)
  | inr on ↦
      let same = climbs-same t f k x h q x on.0 on.1 step on.2 in
      let page : on.1 ≡ q = omega (arith, same.1) in
      reach-then t w p s h q from g r way
      (subst (λ i. Reaches t i q from g r) (sym same.0) (subst (λ y. Reaches t on.0 y from g r) page on.3))
]

-- Where each row that a page saw which goes out of sight is seen from the same side by another in sight, the tree stays exact.
pub exact-shared : (t : Tree) (out now : ℕ → ℕ → Bool) (in_use : ℕ → Bool) → IsExact t out in_use →
    ((v x : ℕ) → out v x ≡ true → now v x ≡ true) →
    ((v x : ℕ) (from : Side) (g r : ℕ) (node : Node) (tag : Tag) (left right : Bool) → out v x ≡ false → now v x ≡ true → t.nodes g ≡ Some node →
    t.slots node.list.0 r ≡ Some (Slot.Frame tag left right) → Sees t v x (Some from) g r → IsSeenFrom t now from g r) →
    IsExact t now in_use
exact-shared t out now in_use exact more shared = exact-seen_alike t out now in_use exact
    (λ k r node tag left right at hidden row side. (
      λ seen. elim (cases_Bool (now seen.v seen.p)) [
        | inl gone ↦ shared seen.v seen.p side k r node tag left right seen.in_sight gone at row seen.sees
        | inr sight ↦ record { v = seen.v; p = seen.p; sees = seen.sees; in_sight = sight }
      ],
      λ seen. record { v = seen.v; p = seen.p; sees = seen.sees; in_sight = stays seen.v seen.p seen.in_sight },
    ))
  where
    stays : (v x : ℕ) → now v x ≡ false → out v x ≡ false
    stays v x sight = elim (cases_Bool (out v x)) [
      | inl gone ↦ absurd (let also = more v x gone in cc)
      | inr seen ↦ seen
    ]
