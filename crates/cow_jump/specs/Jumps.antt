-- Ways upwards over many nodes at once: what the table of jumps has, and that each jump says what the tree says.
use Rattle.std.specs.Prelude.{◌≡◌, ◌≢◌, ◌⊎◌, ℕ, ◌+◌, ◌%◌, ◌<◌, ◌≤◌, Option, None, Some, IsSome, IfSome, slice_index_or}
use Rattle.std.specs.Int.{bit_at}
use Rattle.cow_arena.specs.declared.node.Node.{Node}
use Rattle.cow_arena.specs.Nodes.{Nodes}
use Rattle.cow_arena.specs.Walk.{Tree}
use Rattle.cow_arena.specs.Forest.{IsChild}
use Rattle.cow_arena.specs.Ways.{Rises}
use Rattle.cow_jump.specs.declared.jumps.Jump.{Jump}
use Rattle.cow_jump.specs.declared.jumps.JumpTable.{JumpTable}

-- the jump of node k
abbrev pub jump_in : JumpTable → ℕ → Option Jump
jump_in table k = slice_index_or table.entries.items k None

-- the serial number of node k, or 0
abbrev pub serial_in : JumpTable → ℕ → ℕ
serial_in table k = slice_index_or table.serials.items k 0

-- the jump is one that is to be taken: the node to which it leads has its serial number still
pub record IsCurrentJump (table : JumpTable) (jump : Jump) : Type 0 where
  pub some : 1 ≤ jump.serial
  pub same : serial_in table jump.to.0 ≡ jump.serial

-- The node to which the jump leads is there, if node k sees any page. From each page of node k that the jump serves, a walk that goes
-- on upwards comes to the page of that node, from the side that the jump says.
pub record IsJump (t : Tree) (k : ℕ) (jump : Jump) : Type 0 where
  pub there : (node : Node) → t.nodes k ≡ Some node → 0 < node.seen → IsSome (t.nodes jump.to.0)
  pub rises : (p : ℕ) (node : Node) → t.nodes k ≡ Some node → p < node.seen → p < jump.end → bit_at jump.barred (p % 64) ≡ 0 →
      Rises t k p jump.side jump.to.0 (p + jump.shift)

-- Every jump of the table that is to be taken is one of its node. The serial numbers are less than this koid.
pub record AreJumps (t : Tree) (next : ℕ) (table : JumpTable) : Type 0 where
  pub jumps : (k : ℕ) (jump : Jump) → jump_in table k ≡ Some jump → IsCurrentJump table jump → IsJump t k jump
  pub made : (k : ℕ) (jump : Jump) → jump_in table k ≡ Some jump → jump.serial < next
  pub serials : (k : ℕ) → serial_in table k < next

-- a walk may go by these jumps, if there are any
abbrev pub MayJump : Tree → Option JumpTable → Type 0
MayJump t jumps = IfSome jumps (λ table. (next : ℕ) × AreJumps t next table)

-- node h has the jump of node v, if that is to be taken, or none, and this serial number, or 0; v and c have no jump, and the others
-- have theirs
pub record AreMovedUp (old new : JumpTable) (v h c serial : ℕ) : Type 0 where
  pub hidden : (jump : Jump) → jump_in new h ≡ Some jump → (jump_in old v ≡ Some jump) × IsCurrentJump old jump
  pub leaf : jump_in new v ≡ None
  pub child : jump_in new c ≡ None
  pub others : (k : ℕ) → k ≢ v → k ≢ h → k ≢ c → jump_in new k ≡ jump_in old k
  pub now : (serial_in new h ≡ serial) ⊎ (serial_in new h ≡ 0)
  pub serials : (k : ℕ) → k ≢ h → serial_in new k ≡ serial_in old k

-- node v and its parent, if it has one, have no serial number; the others have theirs or none, and all nodes their jumps
pub record ArePairRetired (nodes : Nodes) (old new : JumpTable) (v : ℕ) : Type 0 where
  pub leaf : serial_in new v ≡ 0
  pub parent : (h : ℕ) → IsChild nodes h v → serial_in new h ≡ 0
  pub others : (j : ℕ) → (serial_in new j ≡ serial_in old j) ⊎ (serial_in new j ≡ 0)
  pub jumps : (j : ℕ) → jump_in new j ≡ jump_in old j
