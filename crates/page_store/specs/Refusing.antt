-- A store that refuses on demand, as contracts see it.
use Rattle.std.specs.Prelude.{ℕ, ◌+◌, ◌-◌, ◌^◌, min, List}

-- the calls that are refused, numbered from 1, and how many calls there were
pub record Refusals : Type 0 where
  pub refuse : List ℕ
  pub calls : ℕ

-- one more, up to the greatest number of 64 bits
abbrev pub next_call : ℕ → ℕ
next_call calls = min (calls + 1) (2 ^ 64 - 1)

-- the same refusals after one more call
abbrev pub counted : Refusals → Refusals
counted r = record r { calls = next_call r.calls }
