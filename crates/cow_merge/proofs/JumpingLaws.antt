-- A walk may go by the same jumps where rows went.
use Rattle.cow_merge.proofs.Words.{ℕ, Option, Rows, Row, slots_of, Pool, Arena, tree_of, IsPartOf, Moves, IsExactFor}
use Rattle.cow_jump.specs.declared.jumps.JumpTable.{JumpTable}
use Rattle.cow_jump.specs.Jumps.{MayJump}
use Rattle.cow_jump.proofs.JumpRowLaws.{may-jump_part}

pub jumps-left : {arena : Arena} {old new : Rows Row} {before after : Pool} {v first : ℕ} → IsExactFor arena new after v →
    Moves arena old new before after v first IsPartOf → (jumps : Option JumpTable) → MayJump (tree_of arena old) jumps → MayJump (tree_of arena new) jumps
jumps-left {arena} {old} {new} {before} {after} {v} {first} has lost =
    may-jump_part (tree_of arena old) has.exact.forest (slots_of new) v has.node has.visible lost.keeps
