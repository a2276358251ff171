-- What the table of jumps answers and how an entry changes, and which jumps may be put into it.
use Rattle.std.specs.Prelude.{◌≡◌, ◌≢◌, ◌⊎◌, ℕ, ◌+◌, ◌%◌, ◌<◌, Option, None, Some}
use Rattle.std.specs.Int.{bit_at}
use Rattle.cow_arena.specs.Walk.{Tree}
use Rattle.cow_jump.specs.declared.jumps.Jump.{Jump}
use Rattle.cow_jump.specs.declared.jumps.Place.{Place}
use Rattle.cow_jump.specs.declared.jumps.JumpTable.{JumpTable}
use Rattle.cow_jump.specs.Jumps.{jump_in, serial_in, IsCurrentJump, IsJump}

-- the jump is one of node k, and has the serial number of the node to which it leads
pub record IsNewJump (t : Tree) (table : JumpTable) (k : ℕ) (jump : Jump) : Type 0 where
  pub is : IsJump t k jump
  pub serial : serial_in table jump.to.0 ≡ jump.serial

-- the jump of node k serves page p, and leads here
pub record IsServedByJump (table : JumpTable) (k p : ℕ) (place : Place) : Type 0 where
  pub jump : Jump
  pub has : jump_in table k ≡ Some jump
  pub taken : IsCurrentJump table jump
  pub below : p < jump.end
  pub open_page : bit_at jump.barred (p % 64) ≡ 0
  pub node : place.node ≡ jump.to
  pub page : place.page ≡ p + jump.shift
  pub side : place.side ≡ jump.side

-- node k has this jump, where there is room for it, or none
abbrev pub IsGiven : JumpTable → (k : ℕ) → Option Jump → Type 0
IsGiven table k jump = (jump_in table k ≡ jump) ⊎ (jump_in table k ≡ None)

-- node k has no serial number; the others have theirs, and all nodes their jumps
pub record AreRetired (old new : JumpTable) (k : ℕ) : Type 0 where
  pub gone : serial_in new k ≡ 0
  pub others : (j : ℕ) → j ≢ k → serial_in new j ≡ serial_in old j
  pub jumps : (j : ℕ) → jump_in new j ≡ jump_in old j
