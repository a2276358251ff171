use Rattle.cow_forest.proofs.Words.{◌≡◌, ℕ, ◌-◌, founders_in}
use Rattle.std.specs.Vec.{vec_len}
use Rattle.cow_forest.proofs.founders.FounderTable.grow.Given as goal

abbrev pub invariant-loop-self : goal.invariant-loop-self
invariant-loop-self l = (k : ℕ) → founders_in l.self k ≡ founders_in l.fn.self k

abbrev pub decreases-loop-self : goal.decreases-loop-self
decreases-loop-self l = l.room - vec_len l.self.entries
