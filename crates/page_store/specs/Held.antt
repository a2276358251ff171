-- The held pages of a range of a VMO.
use Rattle.std.specs.Prelude.{ℕ, ◌+◌}
use Rattle.vm_base.specs.Search.{count_below}
use Rattle.vm_model.specs.Contents.Content.{Content, is_held}

-- how many of the n pages of v from page `first` on are held
unfoldable pub held_from : Content → ℕ → ℕ → ℕ → ℕ
held_from c v first n = count_below n (λ k. is_held c v (first + k))
