-- Maps from numbers, as functions: a number is a key if the function is not None there. Whether some entry passes a
-- test, and how many entries do, goes by the keys below a bound.
use Rattle.std.specs.Prelude.{ℕ, Bool, false, ◌==◌, if◌then◌else◌, Option, None, Some}
use Rattle.vm_base.specs.Search.{any_below, count_below}

-- the map with this value at the key k
unfoldable pub with_key : {A : Type 0} → (ℕ → Option A) → ℕ → A → ℕ → Option A
with_key map k a = λ n. if n == k then Some a else map n

-- the map without the key k
unfoldable pub without_key : {A : Type 0} → (ℕ → Option A) → ℕ → ℕ → Option A
without_key map k = λ n. if n == k then None else map n

-- there is a value, and it passes
unfoldable pub passes : {A : Type 0} → (A → Bool) → Option A → Bool
passes test None = false
passes test (Some a) = test a

-- some entry with a key below the bound passes
unfoldable pub any_entry : {A : Type 0} → ℕ → (A → Bool) → (ℕ → Option A) → Bool
any_entry bound test map = any_below bound (λ k. passes test (map k))

-- how many entries with a key below the bound pass
unfoldable pub entry_count : {A : Type 0} → ℕ → (A → Bool) → (ℕ → Option A) → ℕ
entry_count bound test map = count_below bound (λ k. passes test (map k))
