-- What a node says after another node took the place of one of its children.
use Rattle.cow_arena.proofs.Words.{◌≡◌, ◌≢◌, ℕ, Option, None, Some, inl, inr, refl, sym, ap, subst, ◌∙◌, cases_eq, some_same, eqb_same}
use Rattle.cow_arena.proofs.Words.{eqb_apart, NodeId, Node, Side, Nodes, link_to, child_on, relinked}
use Rattle.cow_arena.proofs.LinkLaws.{moved, moved_link-here, moved_link-other}

-- the node but for its links, of which those to other nodes than k stay
pub record IsRelinked (k : ℕ) (old new : Node) : Type 0 where
  pub koid : new.koid ≡ old.koid
  pub list : new.list ≡ old.list
  pub parent : new.parent ≡ old.parent
  pub count : new.count ≡ old.count
  pub first : new.first ≡ old.first
  pub seen : new.seen ≡ old.seen
  pub child : (s : Side) (l : ℕ) → l ≢ k → child_on old s ≡ link_to l → child_on new s ≡ link_to l

relinked-same : (k : ℕ) (a : Node) → IsRelinked k a a
relinked-same k a = record { koid = refl; list = refl; parent = refl; count = refl; first = refl; seen = refl; child = λ s l apart e. e }

relinked-moved : (k j : ℕ) (a : Node) → IsRelinked k a (moved k j a)
relinked-moved k j a = record { koid = refl; list = refl; parent = refl; count = refl; first = refl; seen = refl; child = child }
  where
    child : (s : Side) (l : ℕ) → l ≢ k → child_on a s ≡ link_to l → child_on (moved k j a) s ≡ link_to l
    child Side.Left l apart e = moved_link-other k j l a.left apart e
    child Side.Right l apart e = moved_link-other k j l a.right apart e

-- a node after node j came below the parent in place of its child k
pub relinked-stays : (nodes : Nodes) (parent : Option NodeId) (k j n : ℕ) (a : Node) → nodes n ≡ Some a → (b : Node) × (relinked nodes parent k j n ≡ Some b) × IsRelinked k a b
unfolding relinked
relinked-stays nodes None k j n a at = (a, at, relinked-same k a)
relinked-stays nodes (Some parent) k j n a at = elim (cases_eq n parent.0) [
  | inl here ↦ (moved k j a, rw (here, eqb_same parent.0, sym (ap nodes here) ∙ at) refl, relinked-moved k j a)
  | inr there ↦ (a, rw (eqb_apart n parent.0 there) at, relinked-same k a)
]

-- the parent has node j where it had k
pub relinked-here : (nodes : Nodes) (k j n : ℕ) (a : Node) (s : Side) → nodes n ≡ Some a → child_on a s ≡ link_to k →
    (b : Node) × (relinked nodes (link_to n) k j n ≡ Some b) × (child_on b s ≡ link_to j)
unfolding relinked
relinked-here nodes k j n a s at e = (moved k j a, rw (eqb_same n, at) refl, child s e)
  where
    child : (s : Side) → child_on a s ≡ link_to k → child_on (moved k j a) s ≡ link_to j
    child Side.Left e = moved_link-here k j a.left e
    child Side.Right e = moved_link-here k j a.right e

-- a key without a node stays without one
pub relinked-absent : (nodes : Nodes) (parent : Option NodeId) (k j n : ℕ) → nodes n ≡ None → relinked nodes parent k j n ≡ None
unfolding relinked
relinked-absent nodes None k j n e = e
relinked-absent nodes (Some parent) k j n e = elim (cases_eq n parent.0) [
  | inl here ↦ rw (here, eqb_same parent.0, sym (ap nodes here) ∙ e) refl
  | inr there ↦ rw (eqb_apart n parent.0 there) e
]

-- a node that is there after a node took the place of another was there before
pub relinked-was : (nodes : Nodes) (parent : Option NodeId) (k j n : ℕ) (b : Node) → relinked nodes parent k j n ≡ Some b →
    (a : Node) × (nodes n ≡ Some a) × IsRelinked k a b
relinked-was nodes parent k j n b at = was (nodes n) refl
  where
    was : (o : Option Node) → nodes n ≡ o → (a : Node) × (nodes n ≡ Some a) × IsRelinked k a b
    was None e = absurd (let none = relinked-absent nodes parent k j n e in cc)
    was (Some a) e =
        let now = relinked-stays nodes parent k j n a e in
        (a, e, subst (IsRelinked k a) (some_same (sym now.1 ∙ at)) now.2)
