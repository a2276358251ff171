-- The calls of a page store that ask the host for memory, and so may be refused.
use Rattle.std.specs.Prelude.{ℕ}

pub data Request : Type 0 where
  Fill : (frames : ℕ) → Request
  Create : (count : ℕ) → Request
  Snapshot : (koid first seen count : ℕ) → Request
  Reserve : (pages : ℕ) → Request
