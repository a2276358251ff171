-- The sources and sinks that stand in memory, as contracts see them.
use Rattle.std.specs.Prelude.{ℕ, ◌+◌, nat_le, List, ◌∷◌, ◌++◌, length, take, drop, if◌then◌else◌}

-- the calls that are to fail, numbered from 1, and how many calls and how many faults there were
pub record Tally : Type 0 where
  pub fails : List ℕ
  pub calls : ℕ
  pub faults : ℕ

-- the bytes that a source has left, and how many it gives a call
pub record RemainingSource : Type 0 where
  pub remaining : List ℕ
  pub piece : ℕ
  pub tally : Tally

-- the bytes that a sink took, how many it keeps, and how many it takes a call
pub record SinkState : Type 0 where
  pub contents : List ℕ
  pub room : ℕ
  pub piece : ℕ
  pub tally : Tally

-- the bytes, with these at this place
abbrev pub copied_at : List ℕ → ℕ → List ℕ → List ℕ
copied_at bytes at part = take at bytes ++ (part ++ drop (at + length part) bytes)

-- bytes that a sink was lent: the name of the borrow, what they were, what the sink took to their front, and how often it failed
pub record Lent : Type 0 where
  pub name : ℕ
  pub before : List ℕ
  pub taken : List ℕ
  pub faults : ℕ

-- what the bytes are now
abbrev pub lent_bytes : Lent → List ℕ
lent_bytes s = s.taken ++ drop (length s.taken) s.before

-- what clauses of sinks see: the name of the borrow, how many bytes there are and what they were, and behind these the bytes that were taken
abbrev pub lent_contents : Lent → List ℕ
lent_contents s = s.name ∷ length s.before ∷ s.before ++ s.taken

-- how often it failed as clauses of sinks count it: a sink that has room left did not fail
abbrev pub lent_faults : Lent → ℕ
lent_faults s = if nat_le (length s.before) (length s.taken) then s.faults else 0
