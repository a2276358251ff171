-- The jumps stay right where rows go, and where a VMO's node gets rows.
use Rattle.cow_jump.proofs.Words.{◌≡◌, ◌+◌, ℕ, Option, None, Some, sym, subst, ◌∙◌, arith, inl, inr, ◌<◌, Nodes, IsVisible, Tree, Slots}
use Rattle.cow_jump.proofs.Words.{KeepsBare, IsPartOf, serial_in, IsCurrentJump, IsJump, AreJumps, MayJump, ArePairRetired, Node, IsForest}
use Rattle.cow_jump.proofs.Words.{Jump, JumpTable}
use Rattle.cow_arena.proofs.RisesLaws.{rises-bare, rises-fewer}
use Rattle.cow_split.proofs.PartLaws.{bare-part}
use Rattle.cow_jump.proofs.JumpLaws.{jump-carried}

-- the same tree has the same jumps
pub jumps-alike : (t u : Tree) (next : ℕ) (table : JumpTable) → t ≡ u → AreJumps t next table → AreJumps u next table
jumps-alike t u next table same are = subst (λ (x : Tree). AreJumps x next table) same are

pub jump-bare : (t : Tree) (f : IsForest t.nodes t.lists) (slots : Slots) (v : ℕ) (leaf : Node) (visible : IsVisible t.nodes v leaf) →
    KeepsBare t.slots slots leaf.list.0 → (k : ℕ) (jump : Jump) → IsJump t k jump → IsJump (record { nodes = t.nodes; slots = slots; lists = t.lists }) k jump
jump-bare t f slots v leaf visible keeps k jump = jump-carried t _ k k jump (λ node at. (node, at, omega arith)) (λ some. some)
    (λ p node at inside. rises-bare t f slots v leaf visible keeps k p jump.side jump.to.0 (p + jump.shift))

pub jumps-bare : (t : Tree) (f : IsForest t.nodes t.lists) (slots : Slots) (v : ℕ) (leaf : Node) (visible : IsVisible t.nodes v leaf) →
    KeepsBare t.slots slots leaf.list.0 → (next : ℕ) (table : JumpTable) → AreJumps t next table →
    AreJumps (record { nodes = t.nodes; slots = slots; lists = t.lists }) next table
jumps-bare t f slots v leaf visible keeps next table are = record {
  jumps = λ k jump has taken. jump-bare t f slots v leaf visible keeps k jump (are.jumps k jump has taken);
  made = are.made;
  serials = are.serials;
}

pub may-jump_bare : (t : Tree) (f : IsForest t.nodes t.lists) (slots : Slots) (v : ℕ) (leaf : Node) (visible : IsVisible t.nodes v leaf) →
    KeepsBare t.slots slots leaf.list.0 → (jumps : Option JumpTable) → MayJump t jumps → MayJump (record { nodes = t.nodes; slots = slots; lists = t.lists }) jumps
may-jump_bare t f slots v leaf visible keeps None can = tt
may-jump_bare t f slots v leaf visible keeps (Some table) can = (can.0, jumps-bare t f slots v leaf visible keeps can.0 table can.1)

-- rows went, and those that are left have the frames that they had
pub may-jump_part : (t : Tree) (f : IsForest t.nodes t.lists) (slots : Slots) (v : ℕ) (leaf : Node) (visible : IsVisible t.nodes v leaf) →
    IsPartOf t.slots slots → (jumps : Option JumpTable) → MayJump t jumps → MayJump (record { nodes = t.nodes; slots = slots; lists = t.lists }) jumps
may-jump_part t f slots v leaf visible part = may-jump_bare t f slots v leaf visible (bare-part t.slots slots leaf.list.0 part)

-- no page got a row that had none
pub jumps-fewer : (t : Tree) (slots : Slots) → ((l q : ℕ) → t.slots l q ≡ None → slots l q ≡ None) → (next : ℕ) (table : JumpTable) → AreJumps t next table →
    AreJumps (record { nodes = t.nodes; slots = slots; lists = t.lists }) next table
jumps-fewer t slots fewer next table are = record {
  jumps = λ k jump has taken. jump-carried t _ k k jump (λ node at. (node, at, omega arith)) (λ some. some)
      (λ p node at inside. rises-fewer t slots fewer k p jump.side jump.to.0 (p + jump.shift)) (are.jumps k jump has taken);
  made = are.made;
  serials = are.serials;
}

-- ---- two nodes lose their serial numbers

-- a jump that is to be taken was
pub taken-retired : (nodes : Nodes) (v : ℕ) (old new : JumpTable) → ArePairRetired nodes old new v → (jump : Jump) → IsCurrentJump new jump → IsCurrentJump old jump
taken-retired nodes v old new retired jump taken = elim (retired.others jump.to.0) [
  | inl same ↦ record { some = taken.some; same = sym same ∙ taken.same }
  | inr none ↦ absurd (let some = taken.some in let same = taken.same in omega arith)
]

-- each number is one of before, or 0
pub less-retired : (nodes : Nodes) (v next : ℕ) (old new : JumpTable) → ArePairRetired nodes old new v → ((k : ℕ) → serial_in old k < next) →
    (k : ℕ) → serial_in new k < next
less-retired nodes v next old new retired serials k = elim (retired.others k) [
  | inl same ↦ (let was = serials k in omega arith)
  | inr none ↦ (let was = serials k in omega arith)
]

pub jumps-retired : (t : Tree) (next v : ℕ) (old new : JumpTable) → AreJumps t next old → ArePairRetired t.nodes old new v → AreJumps t next new
jumps-retired t next v old new are retired = record {
  jumps = λ k jump has taken. are.jumps k jump (sym (retired.jumps k) ∙ has) (taken-retired t.nodes v old new retired jump taken);
  made = λ k jump has. are.made k jump (sym (retired.jumps k) ∙ has);
  serials = less-retired t.nodes v next old new retired are.serials;
}
