-- Where the words of a reply line part: at single spaces.
use Rattle.std.specs.Prelude.{ℕ, ◌==◌, Bool, true, List, [], ◌∷◌}
use Rattle.std.specs.Fmt.{decimal}
use Rattle.std.specs.List.{flat_map}

abbrev pub is_space : ℕ → Bool
is_space b = b == 32

-- a text has ended, or begins with a space
abbrev pub begins_space : List ℕ → Bool
begins_space [] = true
begins_space (b ∷ bs) = is_space b

-- a number behind a space, and numbers so
abbrev pub spaced_number : ℕ → List ℕ
spaced_number n = 32 ∷ decimal n

abbrev pub all_spaced : List ℕ → List ℕ
all_spaced numbers = flat_map spaced_number numbers
