use Rattle.cow_jump.proofs.Words.{◌≡◌, ℕ, ◌-◌, serial_in, vec_len}
use Rattle.cow_jump.proofs.jumps.JumpTable.grow_serials.Given as goal

abbrev pub invariant-loop-self : goal.invariant-loop-self
invariant-loop-self l = record { entries : l.self.entries ≡ l.fn.self.entries; serials : (k : ℕ) → serial_in l.self k ≡ serial_in l.fn.self k }

abbrev pub decreases-loop-self : goal.decreases-loop-self
decreases-loop-self l = l.nodes - vec_len l.self.serials
