-- The jumps stay right where a VMO's node gets rows, where a VMO comes, changes its page count or goes, and where a snapshot is made.
use Rattle.cow_forest.proofs.Words.{◌≡◌, ◌≢◌, ◌⊎◌, min, ℕ, ◌+◌, None, Some, IsSome, inl, inr, refl, sym, ap, subst, ◌∙◌, arith, ◌<◌, ◌≤◌}
use Rattle.cow_forest.proofs.Words.{is_some, if◌then◌else◌, ◌==◌, Bool, true, false, option_map, cases_Bool, cases_eq, Koid, with_key}
use Rattle.cow_forest.proofs.Words.{eqb_apart, some_same, some_is, none_is, with_key-same, with_key-other, Rows, Row, slots_of, Pool}
use Rattle.cow_forest.proofs.Words.{is_taken, Node, Pair, Arena, Nodes, nodes_of, IsVisible, Tree, Slots, tree_with, IsForest, root_node}
use Rattle.cow_forest.proofs.Words.{paired, KeepsBare, tree_of, HasShared, split_slots, split_row, is_taken_in, with_count, KeepsPages, IsPartOf}
use Rattle.cow_forest.proofs.Words.{jump_in, serial_in, IsCurrentJump, IsJump, AreJumps, AreMovedUp, ArePairRetired, Forest, tree, HasNode}
use Rattle.cow_forest.proofs.Words.{IsStore, HasZeroed, HasGone}
use Rattle.cow_arena.proofs.PairWalkLaws.{paired_tree, leaf-at, hidden-at, other-at}
use Rattle.cow_arena.proofs.RelinkLaws.{relinked-stays, relinked-was}
use Rattle.cow_arena.proofs.RisesLaws.{rises-stays, rises-changed, rises-paired, rises-hidden}
use Rattle.cow_arena.proofs.MovedLaws.{IsChangeOf}
use Rattle.cow_arena.proofs.WindowWalkLaws.{node-added, leaf-changed}
use Rattle.cow_split.proofs.PartLaws.{bare-part}
use Rattle.cow_jump.specs.declared.jumps.Jump.{Jump}
use Rattle.cow_jump.specs.declared.jumps.JumpTable.{JumpTable}
use Rattle.cow_jump.proofs.JumpLaws.{jump-carried}
use Rattle.cow_jump.proofs.JumpRowLaws.{jumps-alike, jump-bare, jumps-bare, taken-retired, less-retired}
use Rattle.cow_forest.proofs.ContentLaws.{node-visible}

-- rows with room for more
pub jumps-roomy : (arena : Arena) (old new : Rows Row) → new.rows ≡ old.rows → (next : ℕ) (table : JumpTable) → AreJumps (tree_of arena old) next table →
    AreJumps (tree_of arena new) next table
jumps-roomy arena old new rows next table are =
    jumps-alike (tree_of arena old) (tree_of arena new) next table (λ i. tree_of arena (record new { rows = sym rows i })) are

-- ---- rows go, and a VMO's node gets some

pub jumps-rows : (f : Forest) (s : IsStore f) (rows : Rows Row) (v k : ℕ) (h : HasNode f v k) →
    ((node : Node) → nodes_of f.arena k ≡ Some node → KeepsBare (slots_of f.rows) (slots_of rows) node.list.0) → (next : ℕ) (table : JumpTable) →
    AreJumps (tree f) next table → AreJumps (tree_of f.arena rows) next table
jumps-rows f s rows v k h keeps next table are =
    jumps-bare (tree f) s.exact.forest (slots_of rows) k h.node (node-visible f s v k h) (keeps h.node h.is.at) next table are

-- no place but places of one list got a row
places-bare : (old new : Slots) (list : ℕ) (Is : ℕ → Type 0) → ((l q : ℕ) → IsSome (new l q) → IsSome (old l q) ⊎ ((l ≡ list) × Is q)) →
    KeepsBare old new list
places-bare old new list Is places = record {
  bare = λ l q apart none. elim (cases_Bool (is_some (new l q))) [
    | inl some ↦ absurd (elim (places l q some) [
      | inl had ↦ let no = ap is_some none in absurd (cc)
      | inr here ↦ apart here.0
    ])
    | inr free ↦ none_is (new l q) free
  ];
}

-- some pages of a VMO's node were made zero, by which no place but places of its list gets a row
pub jumps-zeroed : (arena : Arena) (old new : Rows Row) (before after : Pool) (v a b : ℕ) → IsForest (nodes_of arena) arena.lists →
    (node : Node) → IsVisible (nodes_of arena) v node → HasZeroed arena old new before after v a b → (next : ℕ) (table : JumpTable) →
    AreJumps (tree_of arena old) next table → AreJumps (tree_of arena new) next table
jumps-zeroed arena old new before after v a b forest node visible zeroed =
    jumps-bare (tree_of arena old) forest (slots_of new) v node visible
    (places-bare (slots_of old) (slots_of new) node.list.0 (λ q. (a ≤ q) × (q < b)) (λ l q some. elim (zeroed.places node visible.at l q some) [
      | inl had ↦ inl had
      | inr here ↦ inr (here.0, (here.1, here.2))
    ]))

-- ---- a VMO comes

pub jumps-root : (f : Forest) (s : IsStore f) (arena : Arena) (k : ℕ) (koid count : ℕ) → nodes_of f.arena k ≡ None →
    nodes_of arena ≡ with_key (nodes_of f.arena) k (root_node (record { 0 = koid }) f.arena.lists count) → IsForest (nodes_of arena) arena.lists →
    (next : ℕ) (table : JumpTable) → AreJumps (tree f) next table → AreJumps (tree_of arena f.rows) (next + 1) table
jumps-root f s arena k koid count free nodes forest next table are = record {
  jumps = λ j jump has taken. elim (cases_eq j k) [
    | inl here ↦ subst (λ i. IsJump (tree_of arena f.rows) i jump) (sym here) (root jump)
    | inr apart ↦ other j jump apart (are.jumps j jump has taken)
  ];
  made = λ j jump has. let made = are.made j jump has in omega arith;
  serials = λ j. let was = are.serials j in omega arith;
}
  where
    root_at : nodes_of arena k ≡ Some (root_node (record { 0 = koid }) f.arena.lists count)
    root_at = ap (λ (n : Nodes). n k) nodes ∙ with_key-same (nodes_of f.arena) k (root_node (record { 0 = koid }) f.arena.lists count)

    unseen : (node : Node) → nodes_of arena k ≡ Some node → node.seen ≡ 0
    unseen node at = ap (λ (n : Node). n.seen) (some_same (sym at ∙ root_at))

    -- the new node sees no page
    root : (jump : Jump) → IsJump (tree_of arena f.rows) k jump
    root jump = record {
      there = λ node at some. let none = unseen node at in absurd (omega arith);
      rises = λ p node at inside below clear. let none = unseen node at in absurd (omega arith);
    }

    stay : (j : ℕ) (node : Node) → nodes_of f.arena j ≡ Some node → nodes_of arena j ≡ Some node
    stay j node at = ap (λ (n : Nodes). n j) nodes
        ∙ (with_key-other (nodes_of f.arena) k (root_node (record { 0 = koid }) f.arena.lists count) j
        (λ same. let none = ap (nodes_of f.arena) same ∙ free in absurd (cc)) ∙ at)

    was : (j : ℕ) (node : Node) → j ≢ k → nodes_of arena j ≡ Some node → nodes_of f.arena j ≡ Some node
    was j node apart at = sym (ap (λ (n : Nodes). n j) nodes ∙ with_key-other (nodes_of f.arena) k (root_node (record { 0 = koid }) f.arena.lists count) j apart) ∙ at

    held : (j : ℕ) → IsSome (nodes_of f.arena j) → IsSome (nodes_of arena j)
    held j some = let it = some_is (nodes_of f.arena j) some in ap is_some (stay j it.0 it.1)

    other : (j : ℕ) (jump : Jump) → j ≢ k → IsJump (tree f) j jump → IsJump (tree_of arena f.rows) j jump
    other j jump apart = jump-carried (tree f) (tree_of arena f.rows) j j jump (λ node at. (node, was j node apart at, omega arith))
        (held jump.to.0)
        (λ p node at inside.
        rises-stays (tree f) (nodes_of arena) arena.lists k s.exact.forest forest
        (subst (λ (n : Nodes). IsChangeOf (nodes_of f.arena) n k) (sym nodes) (node-added (nodes_of f.arena) k (root_node (record { 0 = koid }) f.arena.lists count) free))
        j p jump.side jump.to.0 (p + jump.shift) apart)

-- ---- a snapshot is made

-- a row that is split is there where it was
split-bare : (slots : Slots) (l first seen list : ℕ) → KeepsBare slots (split_slots slots l first seen) list
unfolding split_slots
split-bare slots l first seen list = record { bare = λ m q apart none. still m q (m == l) none }
  where
    still : (m q : ℕ) (b : Bool) → slots m q ≡ None →
        (if b then option_map (split_row (is_taken_in first seen q)) (slots m q) else slots m q) ≡ None
    still m q true none = ap (option_map (split_row (is_taken_in first seen q))) none
    still m q false none = none

module _ (t : Tree) (f : IsForest t.nodes t.lists) (v : ℕ) (leaf : Node) (visible : IsVisible t.nodes v leaf) (h c : ℕ) (koid : Koid) (first seen count : ℕ)
    (no_h : t.nodes h ≡ None) (no_c : t.nodes c ≡ None) (apart : h ≢ c) (g : IsForest (paired t.nodes v leaf h c t.lists koid first seen count) (t.lists + 2))
    (next : ℕ) (old new : JumpTable) (are : AreJumps t next old) (moved : AreMovedUp old new v h c next) where
  abbrev after : Tree
  after = paired_tree t v leaf h c koid first seen count

  -- a node that is there is one that was, with the same window, or it is one of the three
  was : (k : ℕ) (node : Node) → k ≢ v → k ≢ h → k ≢ c → after.nodes k ≡ Some node → (before : Node) × (t.nodes k ≡ Some before) × (node.seen ≡ before.seen)
  unfolding paired
  was k node k_v k_h k_c at =
      let it = relinked-was t.nodes leaf.parent v h k node
      (sym (with_key-other _ c _ k k_c ∙ (with_key-other _ v _ k k_v ∙ with_key-other _ h _ k k_h)) ∙ at) in
      (it.0, it.1, it.2.seen)

  held : (k : ℕ) → IsSome (t.nodes k) → IsSome (after.nodes k)
  held k some =
      let it = some_is (t.nodes k) some in
      elim (cases_eq k v) [
        | inl here ↦ subst (λ i. IsSome (after.nodes i)) (sym here) (ap is_some (leaf-at t f v leaf visible h c koid first seen count no_h no_c apart g))
        | inr other ↦ ap is_some (other-at t f v leaf visible h c koid first seen count no_h no_c apart g k it.0 it.1 other
            ∙ (relinked-stays t.nodes leaf.parent v h k it.0 it.1).1)
      ]

  jump-other : (k : ℕ) (jump : Jump) → k ≢ v → k ≢ h → k ≢ c → IsJump t k jump → IsJump after k jump
  jump-other k jump k_v k_h k_c = jump-carried t after k k jump
      (λ node at. let it = was k node k_v k_h k_c at in (it.0, it.1, omega (arith, it.2))) (held jump.to.0)
      (λ p node at inside.
      rises-paired t f v leaf visible h c koid first seen count no_h no_c apart g k p jump.side jump.to.0 (p + jump.shift) k_v)

  -- the hidden node has the window of the leaf
  jump-hidden : (jump : Jump) → IsJump t v jump → IsJump after h jump
  jump-hidden jump = jump-carried t after v h jump
      (λ node at.
      let same = ap (λ (n : Node). n.seen) (some_same (sym at ∙ hidden-at t f v leaf visible h c koid first seen count no_h no_c apart g)) in
      (leaf, visible.at, omega arith))
      (held jump.to.0)
      (λ p node at inside. rises-hidden t f v leaf visible h c koid first seen count no_h no_c apart g p jump.side jump.to.0 (p + jump.shift))

  -- a jump that is to be taken leads to no node that is new
  taken-was : (jump : Jump) → jump.serial < next → IsCurrentJump new jump → IsCurrentJump old jump
  taken-was jump less taken = elim (cases_eq jump.to.0 h) [
    | inl here ↦ absurd (no moved.now (ap (serial_in new) (sym here) ∙ taken.same))
    | inr other ↦ record { some = taken.some; same = sym (moved.serials jump.to.0 other) ∙ taken.same }
  ]
    where
      no : (serial_in new h ≡ next) ⊎ (serial_in new h ≡ 0) → serial_in new h ≡ jump.serial → ⊥
      no (inl is) same = absurd (omega arith)
      no (inr is) same = let some = taken.some in absurd (omega arith)

  pub jumps-paired : AreJumps after (next + 1) new
  jumps-paired = record {
    jumps = λ k jump has taken. elim (cases_eq k h) [
      | inl here ↦
          let mine = moved.hidden jump (ap (jump_in new) (sym here) ∙ has) in
          subst (λ i. IsJump after i jump) (sym here) (jump-hidden jump (are.jumps v jump mine.0 mine.1))
      | inr k_h ↦ elim (cases_eq k v) [
        | inl here ↦ absurd (let none = ap (jump_in new) here ∙ moved.leaf in cc)
        | inr k_v ↦ elim (cases_eq k c) [
          | inl here ↦ absurd (let none = ap (jump_in new) here ∙ moved.child in cc)
          | inr k_c ↦
              let was = sym (moved.others k k_v k_h k_c) ∙ has in
              jump-other k jump k_v k_h k_c (are.jumps k jump was (taken-was jump (are.made k jump was) taken))
        ]
      ]
    ];
    made = λ k jump has. let less = less-made k jump has in omega arith;
    serials = λ k. elim (cases_eq k h) [
      | inl here ↦ let same = ap (serial_in new) here in new-less same moved.now
      | inr other ↦ let was = are.serials k in let same = moved.serials k other in omega arith
    ];
  }
    where
      new-less : {n : ℕ} → n ≡ serial_in new h → (serial_in new h ≡ next) ⊎ (serial_in new h ≡ 0) → n < next + 1
      new-less same (inl is) = omega arith
      new-less same (inr is) = omega arith

      less-made : (k : ℕ) (jump : Jump) → jump_in new k ≡ Some jump → jump.serial < next
      less-made k jump has = elim (cases_eq k h) [
        | inl here ↦ are.made v jump (moved.hidden jump (ap (jump_in new) (sym here) ∙ has)).0
        | inr k_h ↦ elim (cases_eq k v) [
          | inl here ↦ absurd (let none = ap (jump_in new) here ∙ moved.leaf in cc)
          | inr k_v ↦ elim (cases_eq k c) [
            | inl here ↦ absurd (let none = ap (jump_in new) here ∙ moved.child in cc)
            | inr k_c ↦ are.made k jump (sym (moved.others k k_v k_h k_c) ∙ has)
          ]
        ]
      ]

pub jumps-shared : (f : Forest) (s : IsStore f) (arena : Arena) (rows : Rows Row) (v k : ℕ) (pair : Pair) (koid : Koid) (first seen count : ℕ) (h : HasNode f v k) →
    HasShared f.arena arena f.rows rows k pair koid first seen count → (next : ℕ) (old new : JumpTable) → AreJumps (tree f) next old →
    AreMovedUp old new k pair.hidden.0 pair.child.0 next → AreJumps (tree_of arena rows) (next + 1) new
jumps-shared f s arena rows v k pair koid first seen count h shared next old new are moved =
    let visible = node-visible f s v k h in
    let nodes = shared.nodes h.node h.is.at in
    let now = (shared.exact (is_taken f.pool) s.exact).forest in
    let g : IsForest (paired (nodes_of f.arena) k h.node pair.hidden.0 pair.child.0 f.arena.lists koid first seen count) (f.arena.lists + 2) =
    subst (λ (n : Nodes). IsForest n (f.arena.lists + 2)) nodes (subst (IsForest (nodes_of arena)) shared.lists now) in
    let pairs = jumps-paired (tree f) s.exact.forest k h.node visible pair.hidden.0 pair.child.0 koid first seen count shared.new_hidden shared.new_child shared.apart g
    next old new are moved in
    let same : paired_tree (tree f) k h.node pair.hidden.0 pair.child.0 koid first seen count ≡ tree_with (nodes_of arena) arena.lists (slots_of f.rows) =
    λ i. record { nodes = sym nodes i; slots = slots_of f.rows; lists = sym shared.lists i } in
    let leaf = shared.stays k h.node visible in
    jumps-bare (tree_with (nodes_of arena) arena.lists (slots_of f.rows)) now (slots_of rows) k leaf.after
    (record { at = leaf.at; koid = subst IsSome (sym leaf.koid) visible.koid })
    (subst (λ (slots : Slots). KeepsBare (slots_of f.rows) slots leaf.after.list.0) (sym (shared.slots h.node h.is.at))
    (split-bare (slots_of f.rows) h.node.list.0 first seen leaf.after.list.0))
    (next + 1) new (jumps-alike _ _ (next + 1) new same pairs)

-- ---- a VMO changes its page count

module _ (f : Forest) (s : IsStore f) (arena : Arena) (rows : Rows Row) (pool : Pool) (v k count : ℕ) (h : HasNode f v k)
    (kept : KeepsPages f.arena arena f.rows rows f.pool pool) (part : IsPartOf (slots_of f.rows) (slots_of rows))
    (nodes : nodes_of arena ≡ with_key (nodes_of f.arena) k (with_count h.node count)) where
  abbrev mid : Tree
  mid = tree_with (nodes_of f.arena) f.arena.lists (slots_of rows)

  visible : IsVisible (nodes_of f.arena) k h.node
  visible = node-visible f s v k h

  change : IsChangeOf (nodes_of f.arena) (nodes_of arena) k
  change = subst (λ (n : Nodes). IsChangeOf (nodes_of f.arena) n k) (sym nodes) (leaf-changed (nodes_of f.arena) k h.node (with_count h.node count) visible)

  now_at : nodes_of arena k ≡ Some (with_count h.node count)
  now_at = ap (λ (n : Nodes). n k) nodes ∙ with_key-same (nodes_of f.arena) k (with_count h.node count)

  node-was : (j : ℕ) (node : Node) → j ≢ k → nodes_of arena j ≡ Some node → nodes_of f.arena j ≡ Some node
  node-was j node apart at = sym (ap (λ (n : Nodes). n j) nodes ∙ with_key-other (nodes_of f.arena) k (with_count h.node count) j apart) ∙ at

  still-there : (j : ℕ) → IsSome (nodes_of f.arena j) → IsSome (nodes_of arena j)
  still-there j some = elim (cases_eq j k) [
    | inl here ↦ subst (λ i. IsSome (nodes_of arena i)) (sym here) (ap is_some now_at)
    | inr apart ↦ let it = some_is (nodes_of f.arena j) some in ap is_some (change.stay j it.0 it.1 apart)
  ]

  bare : (j : ℕ) (jump : Jump) → IsJump (tree f) j jump → IsJump mid j jump
  bare j jump = jump-bare (tree f) s.exact.forest (slots_of rows) k h.node visible (bare-part (slots_of f.rows) (slots_of rows) h.node.list.0 part) j jump

  -- of the node itself, at the pages of the window that it has now
  own : (jump : Jump) → IsJump mid k jump → IsJump (tree_of arena rows) k jump
  own jump = jump-carried mid (tree_of arena rows) k k jump
      (λ node at. let seen = ap (λ (n : Node). n.seen) (some_same (sym at ∙ now_at)) in (h.node, h.is.at, omega arith)) (still-there jump.to.0)
      (λ p node at inside.
      let seen = ap (λ (n : Node). n.seen) (some_same (sym at ∙ now_at)) in
      rises-changed mid (nodes_of arena) arena.lists k s.exact.forest kept.exact.forest change p jump.side jump.to.0 (p + jump.shift)
      h.node (with_count h.node count) h.is.at now_at refl (rw (eqb_apart (min h.node.seen count) 0 (λ none. absurd (omega arith))) refl) (omega arith))

  other : (j : ℕ) (jump : Jump) → j ≢ k → IsJump mid j jump → IsJump (tree_of arena rows) j jump
  other j jump apart = jump-carried mid (tree_of arena rows) j j jump (λ node at. (node, node-was j node apart at, omega arith)) (still-there jump.to.0)
      (λ p node at inside.
      rises-stays mid (nodes_of arena) arena.lists k s.exact.forest kept.exact.forest change j p jump.side jump.to.0 (p + jump.shift) apart)

  pub jumps-resized : (next : ℕ) (table : JumpTable) → AreJumps (tree f) next table → AreJumps (tree_of arena rows) next table
  jumps-resized next table are = record {
    jumps = λ j jump has taken. elim (cases_eq j k) [
      | inl here ↦
          subst (λ i. IsJump (tree_of arena rows) i jump) (sym here)
          (own jump (subst (λ i. IsJump mid i jump) here (bare j jump (are.jumps j jump has taken))))
      | inr apart ↦ other j jump apart (bare j jump (are.jumps j jump has taken))
    ];
    made = are.made;
    serials = are.serials;
  }

-- ---- a VMO closes

pub jumps-closed : (t u : Tree) (next v : ℕ) (old new : JumpTable) → AreJumps t next old → ArePairRetired t.nodes old new v → HasGone t u v →
    AreJumps u next new
jumps-closed t u next v old new are retired gone = record {
  jumps = λ k jump has taken. jump-closed k jump taken (are.jumps k jump (sym (retired.jumps k) ∙ has) (taken-retired t.nodes v old new retired jump taken));
  made = λ k jump has. are.made k jump (sym (retired.jumps k) ∙ has);
  serials = less-retired t.nodes v next old new retired are.serials;
}
  where
    -- a jump that is to be taken leads to a node that stays
    numbered : (jump : Jump) → IsCurrentJump new jump → (k : ℕ) → jump.to.0 ≡ k → serial_in new k ≡ 0 → ⊥
    numbered jump taken k here none = let some = taken.some in let same = taken.same in let at = ap (serial_in new) here in absurd (omega arith)

    stays : (jump : Jump) → IsCurrentJump new jump → IsSome (t.nodes jump.to.0) → IsSome (u.nodes jump.to.0)
    stays jump taken some =
        let it = some_is (t.nodes jump.to.0) some in
        gone.kept jump.to.0 it.0 it.1 (λ same. numbered jump taken v same retired.leaf) (λ child. numbered jump taken jump.to.0 refl (retired.parent jump.to.0 child))

    jump-closed : (k : ℕ) (jump : Jump) → IsCurrentJump new jump → IsJump t k jump → IsJump u k jump
    jump-closed k jump taken is = jump-carried t u k k jump
        (λ now at. let was = gone.came k now at in let seen = gone.seen k was.node now was.at at in (was.node, was.at, omega arith)) (stays jump taken)
        (λ p now at inside.
        let was = gone.came k now at in
        let seen = gone.seen k was.node now was.at at in
        gone.rises k p jump.side jump.to.0 (p + jump.shift) (ap is_some at) (stays jump taken (is.there was.node was.at (omega arith)))) is
