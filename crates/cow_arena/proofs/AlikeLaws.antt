-- Walks over other rows: they stay where the rows to which they come stay, and are alike where the rows show the same frames.
use Rattle.cow_arena.proofs.Words.{◌≡◌, ℕ, ◌&&◌, ◌==◌, Bool, true, false, Option, None, Some, inl, inr, refl, sym, ap, ◌∙◌, subst, ◌<◌}
use Rattle.cow_arena.proofs.Words.{arith, option_map, option_or, cases_eq, cond-false, cond-true, some_same, eqb_same, eqb_apart, Slot}
use Rattle.cow_arena.proofs.Words.{Node, Side, IsVisible, side_in, Slots, Tree, Found, from_side, walk, frame_in, frame_found, frame_shown}
use Rattle.cow_arena.proofs.Words.{IsForest, Climbs, Reaches, Arrives, SameElsewhere, SameFrames, Sight, sight_of, absent_node, own_row}
use Rattle.cow_arena.proofs.Words.{past_window, on_upwards, with_pair}
use Rattle.cow_arena.proofs.WalkLaws.{climbs-bare, up-each, begins, walk-absent, walk-row, walk-past, walk-climbs}
use Rattle.cow_arena.proofs.ReachLaws.{reach-one, reach-more, reach-each, reach-hidden, reach-deeper, hidden-apart, arrives-on}

-- a value at another pair stays
pub with_pair-other : {V : Type 0} (map : ℕ → ℕ → Option V) (a b : ℕ) (v : Option V) (k q : ℕ) → (k ≡ a → q ≡ b → ⊥) → with_pair map a b v k q ≡ map k q
unfolding with_pair
with_pair-other map a b v k q apart = elim (cases_eq k a) [
  | inl here ↦
      let off : ((k == a) && (q == b)) ≡ false = ap (λ (c : Bool). c && (q == b)) (ap (λ i. k == i) (sym here) ∙ eqb_same k) ∙ eqb_apart q b (apart here) in
      cond-false _ _ _ off
  | inr there ↦
      let off : ((k == a) && (q == b)) ≡ false = ap (λ (c : Bool). c && (q == b)) (eqb_apart k a there) in
      cond-false _ _ _ off
]

-- the pair has its new value
pub with_pair-same : {V : Type 0} (map : ℕ → ℕ → Option V) (a b : ℕ) (v : Option V) → with_pair map a b v a b ≡ v
unfolding with_pair
with_pair-same map a b v =
    let on : ((a == a) && (b == b)) ≡ true = ap (λ (c : Bool). c && (b == b)) (eqb_same a) ∙ eqb_same b in
    cond-true _ _ _ on

pub with_pair-elsewhere : (map : Slots) (l q : ℕ) (slot : Option Slot) → SameElsewhere map (with_pair map l q slot) l q
with_pair-elsewhere map l q slot = record { same = λ m r apart. with_pair-other map l q slot m r apart }

-- in the other direction
pub elsewhere-back : {old new : Slots} {l q : ℕ} → SameElsewhere old new l q → SameElsewhere new old l q
elsewhere-back but = record { same = λ m r apart. sym (but.same m r apart) }

module _ (t : Tree) (f : IsForest t.nodes t.lists) where
  -- the walk stays where each row to which it comes stays
  pub walk-kept : (slots : Slots) (k p : ℕ) →
      ((side : Option Side) (h q : ℕ) (node : Node) → t.nodes h ≡ Some node → Arrives t k p side h q → slots node.list.0 q ≡ t.slots node.list.0 q) →
      walk (record t { slots = slots }) k p ≡ walk t k p
  walk-kept slots = up-each t f (λ k p.
      ((side : Option Side) (h q : ℕ) (node : Node) → t.nodes h ≡ Some node → Arrives t k p side h q → slots node.list.0 q ≡ t.slots node.list.0 q) →
      walk (record t { slots = slots }) k p ≡ walk t k p)
      (λ k p ih stays. elim (begins t f k p) [
        | absent_node e ↦ walk-absent (record t { slots = slots }) f k p e ∙ sym (walk-absent t f k p e)
        | own_row slot r ↦
            let row = stays None k p r.node r.at (refl, refl) ∙ r.row in
            walk-row (record t { slots = slots }) f k p slot (record { node = r.node; at = r.at; row = row }) ∙ sym (walk-row t f k p slot r)
        | past_window node at free outside ↦
            walk-past (record t { slots = slots }) f k p node at (stays None k p node at (refl, refl) ∙ free) outside
            ∙ sym (walk-past t f k p node at free outside)
        | on_upwards h q c ↦
            walk-climbs (record t { slots = slots }) f k p h q (climbs-bare slots c (stays None k p c.node c.at (refl, refl) ∙ c.free))
            ∙ (ap (from_side (side_in t.nodes k)) (ih h q c (λ side j r node at w. stays (option_or side (side_in t.nodes k)) j r node at (arrives-on t f k p h q side j r c w)))
            ∙ sym (walk-climbs t f k p h q c))
      ])

  -- a walk that doesn't come to a place stays whatever row the place gets
  pub walk-but : (slots : Slots) (l q k p : ℕ) → SameElsewhere t.slots slots l q →
      ((side : Option Side) (h : ℕ) (node : Node) → t.nodes h ≡ Some node → node.list.0 ≡ l → Arrives t k p side h q → ⊥) →
      walk (record t { slots = slots }) k p ≡ walk t k p
  walk-but slots l q k p but apart = walk-kept slots k p (λ side h r node at w.
      but.same node.list.0 r (λ list page. apart side h node at list (subst (Arrives t k p side h) page w)))

  pub walk-elsewhere : (l q : ℕ) (slot : Option Slot) (k p : ℕ) →
      ((side : Option Side) (h : ℕ) (node : Node) → t.nodes h ≡ Some node → node.list.0 ≡ l → Arrives t k p side h q → ⊥) →
      walk (record t { slots = with_pair t.slots l q slot }) k p ≡ walk t k p
  walk-elsewhere l q slot k p apart = walk-but (with_pair t.slots l q slot) l q k p (with_pair-elsewhere t.slots l q slot) apart

  -- a walk still comes to a place that gets another row
  pub arrives-but : (slots : Slots) (h q : ℕ) (node : Node) → t.nodes h ≡ Some node → SameElsewhere t.slots slots node.list.0 q →
      (k p : ℕ) (side : Option Side) → Arrives t k p side h q → Arrives (record t { slots = slots }) k p side h q
  arrives-but slots h q node at but k p None w = w
  arrives-but slots h q node at but k p (Some side) w = reach-each t side h q (λ k p. Reaches (record t { slots = slots }) k p side h q)
      (λ k p c is. reach-one (record t { slots = slots }) k p side h q (climbs k p h q c (reach-deeper t f k p side h q (reach-one t k p side h q c is))) is)
      (λ k p j r c on ih. reach-more (record t { slots = slots }) k p j r side h q (climbs k p j r c (reach-deeper t f k p side h q (reach-more t k p j r side h q c on))) ih) k p w
    where
      climbs : (k p j r : ℕ) → Climbs t k p j r → f.rank h < f.rank k → Climbs (record t { slots = slots }) k p j r
      climbs k p j r c deeper = climbs-bare slots c
          (but.same c.node.list.0 p (λ list _. let same = ap f.rank (f.by.own k h c.node node c.at at list) in absurd (omega arith)) ∙ c.free)

  -- a row of a visible node is nothing to another node, nor to another page
  pub walk-beside : (l q : ℕ) (leaf : Node) (slot : Option Slot) (k p : ℕ) → IsVisible t.nodes l leaf → (k ≡ l → p ≡ q → ⊥) →
      walk (record t { slots = with_pair t.slots leaf.list.0 q slot }) k p ≡ walk t k p
  walk-beside l q leaf slot k p leaf_is apart = walk-elsewhere leaf.list.0 q slot k p (λ side h node at list w. off side h node at (f.by.own h l node leaf at leaf_is.at list) w)
    where
      off : (side : Option Side) (h : ℕ) (node : Node) → t.nodes h ≡ Some node → h ≡ l → Arrives t k p side h q → ⊥
      off None h node at same w = apart (w.0 ∙ same) w.1
      off (Some side) h node at same w =
          let above = reach-hidden t f k p side h q w in
          hidden-apart t f h l above.0 leaf above.1 above.2 leaf_is same

-- ---- rows that show the same frames

module _ {old new : Slots} (alike : SameFrames old new) where
  pub none-alike : (l p : ℕ) → old l p ≡ None → new l p ≡ None
  none-alike l p e = none (new l p) (alike.same l p ∙ ap (option_map frame_in) e)
    where
      none : (o : Option Slot) → option_map frame_in o ≡ None → o ≡ None
      none None e = refl
      none (Some slot) e = absurd (cc)

  pub some-alike : (l p : ℕ) (slot : Slot) → old l p ≡ Some slot → (now : Slot) × (new l p ≡ Some now) × (frame_in now ≡ frame_in slot)
  some-alike l p slot e = some (new l p) refl (alike.same l p ∙ ap (option_map frame_in) e)
    where
      some : (o : Option Slot) → new l p ≡ o → option_map frame_in o ≡ Some (frame_in slot) → (now : Slot) × (new l p ≡ Some now) × (frame_in now ≡ frame_in slot)
      some None is e = absurd (cc)
      some (Some now) is e = (now, is, some_same e)

-- in the other direction
pub frames-back : {old new : Slots} → SameFrames old new → SameFrames new old
frames-back alike = record { same = λ l p. sym (alike.same l p) }

from_side-alike : (side : Option Side) (a b : Option Found) → option_map sight_of a ≡ option_map sight_of b →
    option_map sight_of (from_side side a) ≡ option_map sight_of (from_side side b)
from_side-alike side a b e = sided a ∙ (ap (option_map (λ (it : Sight). record it { side = option_or it.side side })) e ∙ sym (sided b))
  where
    sided : (o : Option Found) → option_map sight_of (from_side side o) ≡ option_map (λ (it : Sight). record it { side = option_or it.side side }) (option_map sight_of o)
    sided None = refl
    sided (Some it) = refl

module _ (t : Tree) (slots : Slots) (alike : SameFrames t.slots slots) where
  pub climbs-alike : (k p h q : ℕ) → Climbs t k p h q → Climbs (record t { slots = slots }) k p h q
  climbs-alike k p h q c = climbs-bare slots c (none-alike alike c.node.list.0 p c.free)

  -- walks find the same but for what the row says of sides
  pub walk-alike : IsForest t.nodes t.lists → (k p : ℕ) → option_map sight_of (walk (record t { slots = slots }) k p) ≡ option_map sight_of (walk t k p)
  walk-alike f = up-each t f (λ k p. option_map sight_of (walk (record t { slots = slots }) k p) ≡ option_map sight_of (walk t k p))
      (λ k p ih. elim (begins t f k p) [
        | absent_node e ↦ ap (option_map sight_of) (walk-absent (record t { slots = slots }) f k p e ∙ sym (walk-absent t f k p e))
        | own_row slot r ↦
            let now = some-alike alike r.node.list.0 p slot r.row in
            ap (option_map sight_of) (walk-row (record t { slots = slots }) f k p now.0 (record { node = r.node; at = r.at; row = now.1 }))
            ∙ (ap (λ (frame : Option ℕ). Some (sight k p frame)) now.2 ∙ sym (ap (option_map sight_of) (walk-row t f k p slot r)))
        | past_window node at free outside ↦
            ap (option_map sight_of)
            (walk-past (record t { slots = slots }) f k p node at (none-alike alike node.list.0 p free) outside ∙ sym (walk-past t f k p node at free outside))
        | on_upwards h q c ↦
            ap (option_map sight_of) (walk-climbs (record t { slots = slots }) f k p h q (climbs-alike k p h q c))
            ∙ (from_side-alike (side_in t.nodes k) (walk (record t { slots = slots }) h q) (walk t h q) (ih h q c)
            ∙ sym (ap (option_map sight_of) (walk-climbs t f k p h q c)))
      ])
    where
      sight : (k p : ℕ) → Option ℕ → Sight
      sight k p frame = record { node = k; page = p; side = None; frame = frame }

  -- what is found then
  pub found-alike : IsForest t.nodes t.lists → (k p : ℕ) (it : Found) → walk t k p ≡ Some it →
      (slot : Slot) × (walk (record t { slots = slots }) k p ≡ Some (record it { slot = slot })) × (frame_in slot ≡ frame_in it.slot)
  found-alike f k p it e = found (walk (record t { slots = slots }) k p) (walk-alike f k p ∙ ap (option_map sight_of) e)
    where
      found : (o : Option Found) → option_map sight_of o ≡ Some (sight_of it) → (slot : Slot) × (o ≡ Some (record it { slot = slot })) × (frame_in slot ≡ frame_in it.slot)
      found None e = absurd (cc)
      found (Some now) e =
          let same : sight_of now ≡ sight_of it = some_same e in
          (now.slot, (λ i. Some (record { node = (same i).node; page = (same i).page; side = (same i).side; slot = now.slot })), ap (λ (s : Sight). s.frame) same)

  pub frame-alike : IsForest t.nodes t.lists → (k p : ℕ) → frame_shown (record t { slots = slots }) k p ≡ frame_shown t k p
  frame-alike f k p = frame (walk (record t { slots = slots }) k p) (walk t k p) (walk-alike f k p)
    where
      shown : Option Sight → Option ℕ
      shown None = None
      shown (Some it) = it.frame

      seen : (o : Option Found) → frame_found o ≡ shown (option_map sight_of o)
      seen None = refl
      seen (Some it) = refl

      frame : (a b : Option Found) → option_map sight_of a ≡ option_map sight_of b → frame_found a ≡ frame_found b
      frame a b e = seen a ∙ (ap shown e ∙ sym (seen b))
