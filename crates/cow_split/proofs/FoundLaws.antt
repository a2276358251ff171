-- Laws of a search that goes on: who was found so far, how many they are, and the least of their koids.
use Rattle.cow_split.proofs.Words.{some_is, ◌≡◌, ℕ, ◌+◌, ◌<◌, ◌≤◌, Bool, true, false, List, [], ◌∷◌, ◌++◌, length, Option, None, Some, inl}
use Rattle.cow_split.proofs.Words.{inr, refl, sym, ap, ◌∙◌, subst, append_assoc, arith, IsSome, MatchOption, nat_lt, if◌then◌else◌}
use Rattle.cow_split.proofs.Words.{Contains, nat_tests, append-nil, length-append, Contains-append_left, Contains-push, Contains-push_cases}
use Rattle.cow_split.proofs.Words.{Koid, some_same, NodeId, Node, Nodes, Tree, Cursor, HasKoid, HasLesser, IsBelowAll, IsLeastKoid}
use Rattle.cow_split.proofs.Words.{lesser_of, Finds, FindsFirst, IsAmid, HasCounted, HasLeast, HasNoneLess}
use Rattle.cow_split.proofs.SearchLaws.{contains-none}

module _ (t : Tree) (except : Option NodeId) (all : List ℕ) where
  -- one more is found
  amid-next : (found : List ℕ) (from next : Option Cursor) (v : ℕ) → IsAmid t except all found from →
      ((ahead : List ℕ) → Finds t except from ahead → FindsFirst t except v next ahead) → IsAmid t except all (found ++ v ∷ []) next
  amid-next found from next v h first =
      let it = first h.ahead h.finds in
      record { ahead = it.rest; finds = it.finds; all_is = h.all_is ∙ (ap (λ list. found ++ list) it.ahead_is ∙ sym (append_assoc found (v ∷ []) it.rest)) }

  -- nobody is left
  amid-end : (found : List ℕ) (from : Option Cursor) → IsAmid t except all found from →
      ((ahead : List ℕ) → Finds t except from ahead → ahead ≡ []) → all ≡ found
  amid-end found from h last = h.all_is ∙ (ap (λ list. found ++ list) (last h.ahead h.finds) ∙ append-nil found)

  -- who was found is one of them
  amid-has : (found : List ℕ) (from : Option Cursor) (v : ℕ) → IsAmid t except all (found ++ v ∷ []) from → Contains all v
  amid-has found from v h = subst (λ list. Contains list v) (sym h.all_is) (Contains-append_left (found ++ v ∷ []) h.ahead v (Contains-push found v))

  -- ---- how many they are

  pub count-next : (count : ℕ) (from next : Option Cursor) (v : ℕ) → HasCounted t except all count from →
      ((ahead : List ℕ) → Finds t except from ahead → FindsFirst t except v next ahead) → HasCounted t except all (count + 1) next
  count-next count from next v h first = record {
    found = h.found ++ v ∷ [];
    amid = amid-next h.found from next v h.amid first;
    count_is = let one = length-append h.found (v ∷ []) in let before = h.count_is in omega arith;
  }

  pub count-most : (count : ℕ) (from : Option Cursor) → HasCounted t except all count from → count ≤ length all
  count-most count from h =
      let parts = length-append h.found h.amid.ahead in let same = ap length h.amid.all_is in let count_is = h.count_is in omega arith

  -- ---- the least koid

  pub least-has : (least : Option Koid) (from next : Option Cursor) (v : ℕ) → HasLeast t except all least from →
      ((ahead : List ℕ) → Finds t except from ahead → FindsFirst t except v next ahead) → Contains all v
  least-has least from next v h first = amid-has h.found next v (amid-next h.found from next v h.amid first)

pub koid-once : (nodes : Nodes) (w : ℕ) (one other : Koid) → HasKoid nodes w one → HasKoid nodes w other → one ≡ other
koid-once nodes w one other a b =
    some_same (sym a.koid_is ∙ (ap (λ (n : Node). n.koid) (some_same (sym a.at ∙ b.at)) ∙ b.koid_is))

module _ (nodes : Nodes) (found : List ℕ) (v : ℕ) (koid : Koid) (has : HasKoid nodes v koid) where
  -- a koid that is not above those of a list, and not above one more
  below-more : (least : Koid) → ((w : ℕ) (other : Koid) → Contains found w → HasKoid nodes w other → least.0 ≤ other.0) → least.0 ≤ koid.0 →
      IsBelowAll nodes (found ++ v ∷ []) least
  below-more least before now w other inside other_has = elim (Contains-push_cases found v w inside) [
    | inl there ↦ before w other there other_has
    | inr same ↦ (
        omega (arith, ap (λ (k : Koid). k.0) (koid-once nodes w koid other (subst (λ k. HasKoid nodes k koid) same has) other_has)))
  ]

  least-new : (list : List ℕ) → list ≡ found ++ v ∷ [] →
      ((w : ℕ) (other : Koid) → Contains found w → HasKoid nodes w other → koid.0 ≤ other.0) → IsLeastKoid nodes list koid
  least-new list is before = subst (λ list. IsLeastKoid nodes list koid) (sym is)
      (record { v = v; inside = Contains-push found v; has = has; least = below-more koid before (omega arith) })

  least-more : (least : Option Koid) → MatchOption least (found ≡ []) (λ koid. IsLeastKoid nodes found koid) →
      MatchOption (lesser_of least (Some koid)) (found ++ v ∷ [] ≡ []) (λ koid. IsLeastKoid nodes (found ++ v ∷ []) koid)
  least-more None none = least-new (found ++ v ∷ []) refl
      (λ w other inside other_has. absurd (contains-none w (subst (λ list. Contains list w) none inside)))
  least-more (Some one) h = with_test (nat_lt koid.0 one.0) refl
    where
      with_test : (b : Bool) → nat_lt koid.0 one.0 ≡ b →
          MatchOption (if b then Some koid else Some one) (found ++ v ∷ [] ≡ []) (λ koid. IsLeastKoid nodes (found ++ v ∷ []) koid)
      with_test true e =
          let less : koid.0 < one.0 = grind (arith, nat_tests) in
          least-new (found ++ v ∷ []) refl (λ w other inside other_has. let above = h.least w other inside other_has in omega arith)
      with_test false e =
          let most : one.0 ≤ koid.0 = grind (arith, nat_tests) in
          record { v = h.v; inside = Contains-append_left found (v ∷ []) h.v h.inside; has = h.has; least = below-more one h.least most }

module _ (t : Tree) (except : Option NodeId) (all : List ℕ) where
  -- one more is found, whose node is this
  pub least-next : (least : Option Koid) (from next : Option Cursor) (v : ℕ) (node : Node) → HasLeast t except all least from →
      ((ahead : List ℕ) → Finds t except from ahead → FindsFirst t except v next ahead) → t.nodes v ≡ Some node → IsSome node.koid →
      HasLeast t except all (lesser_of least node.koid) next
  least-next least from next v node h first at some = record {
    found = h.found ++ v ∷ [];
    amid = amid-next t except all h.found from next v h.amid first;
    least_is =
        let koid = some_is node.koid some in
        rw koid.1 (least-more t.nodes h.found v koid.0 (record { node = node; at = at; koid_is = koid.1 }) least h.least_is);
  }

  -- ---- a koid that is less than another

  pub none_less-has : (koid : Koid) (from next : Option Cursor) (v : ℕ) → HasNoneLess t except all koid from →
      ((ahead : List ℕ) → Finds t except from ahead → FindsFirst t except v next ahead) → Contains all v
  none_less-has koid from next v h first = amid-has t except all h.found next v (amid-next t except all h.found from next v h.amid first)

  -- the node that is found next has a koid that is not less, or one that is
  pub none_less-next : (koid : Koid) (from next : Option Cursor) (v : ℕ) (node : Node) → HasNoneLess t except all koid from →
      ((ahead : List ℕ) → Finds t except from ahead → FindsFirst t except v next ahead) → t.nodes v ≡ Some node → IsSome node.koid →
      ((other : Koid) → node.koid ≡ Some other → koid.0 ≤ other.0) → HasNoneLess t except all koid next
  none_less-next koid from next v node h first at some most =
      let other = some_is node.koid some in
      record {
        found = h.found ++ v ∷ [];
        amid = amid-next t except all h.found from next v h.amid first;
        none = below-more t.nodes h.found v other.0 (record { node = node; at = at; koid_is = other.1 }) koid h.none (most other.0 other.1);
      }

  pub none_less-found : (koid less : Koid) (from next : Option Cursor) (v : ℕ) (node : Node) → HasNoneLess t except all koid from →
      ((ahead : List ℕ) → Finds t except from ahead → FindsFirst t except v next ahead) → t.nodes v ≡ Some node → node.koid ≡ Some less →
      less.0 < koid.0 → HasLesser t.nodes all koid less
  none_less-found koid less from next v node h first at named below = record {
    v = v;
    inside = none_less-has koid from next v h first;
    has = record { node = node; at = at; koid_is = named };
    below = below;
  }

  pub none_less-end : (koid : Koid) (from : Option Cursor) → HasNoneLess t except all koid from →
      ((ahead : List ℕ) → Finds t except from ahead → ahead ≡ []) → IsBelowAll t.nodes all koid
  none_less-end koid from h last =
      subst (λ list. IsBelowAll t.nodes list koid) (sym (amid-end t except all h.found from h.amid last)) h.none
