-- When a source or a sink fails, and what a sink took.
use Rattle.std.specs.Prelude.{◌≡◌, ℕ, ◌+◌, ◌-◌, ◌^◌, ◌<◌, ◌≤◌, ◌⊎◌, min, List, ◌++◌, length, take, Option, Result, OnErr}
use Rattle.std.specs.Io.KnownBytes.{Appends}

-- one more, up to the greatest number of 64 bits
abbrev pub next_count : ℕ → ℕ
next_count n = min (n + 1) (2 ^ 64 - 1)

-- an object has failed since, or its count of faults stands at its end
abbrev pub HasFailed : ℕ → ℕ → Type 0
HasFailed old new = (old < new) ⊎ (new ≡ 2 ^ 64 - 1)

-- the count of faults doesn't fall, and an error comes only with a fault
pub record HasCause {T E : Type 0} (old new : ℕ) (result : Result T E) : Type 0 where
  pub later : old ≤ new
  pub failed : OnErr result (HasFailed old new)

-- a front part of the bytes was taken, maybe none or all of them
pub record AppendsFront (old new : Option (List ℕ)) (bytes : List ℕ) : Type 0 where
  pub count : ℕ
  pub taken : Appends old new (take count bytes)

-- only a front part of the bytes was taken, and not all of them
pub record IsCutOff (old new : Option (List ℕ)) (bytes : List ℕ) : Type 0 where
  pub part : List ℕ
  pub rest : List ℕ
  pub whole : bytes ≡ part ++ rest
  pub left : 0 < length rest
  pub taken : Appends old new part
