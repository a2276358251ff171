-- By which word of the command line a program is meant.
use Rattle.std.specs.Prelude.{ℕ, Bool, false, List, [], ◌∷◌, map}
use Rattle.std.specs.String.{string_bytes}
use Rattle.std.specs.declared.string.String.{String}
use Rattle.std.specs.declared.alloc.Global.{Global}
use Rattle.line_server.specs.Words.{is_text}

-- the first word is this one
abbrev pub is_first : List ℕ → List (List ℕ) → Bool
is_first verb [] = false
is_first verb (first ∷ behind) = is_text first verb

abbrev pub has_verb : List ℕ → List (String Global) → Bool
has_verb verb words = is_first verb (map string_bytes words)
