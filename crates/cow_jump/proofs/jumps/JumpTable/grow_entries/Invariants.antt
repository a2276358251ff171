use Rattle.cow_jump.proofs.Words.{◌≡◌, ℕ, ◌-◌, jump_in, vec_len}
use Rattle.cow_jump.proofs.jumps.JumpTable.grow_entries.Given as goal

abbrev pub invariant-loop-self : goal.invariant-loop-self
invariant-loop-self l = record { jumps : (k : ℕ) → jump_in l.self k ≡ jump_in l.fn.self k; serials : l.self.serials ≡ l.fn.self.serials }

abbrev pub decreases-loop-self : goal.decreases-loop-self
decreases-loop-self l = l.nodes - vec_len l.self.entries
