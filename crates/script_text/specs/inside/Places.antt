-- Where words stand in a line.
use Rattle.std.specs.Prelude.{◌≡◌, ℕ, ◌<◌, ◌≤◌, List, ◌∷◌, ◌++◌, length, take, drop, slice_range}
use Rattle.vm_model.specs.Language.Reading.{words}

-- the first word at or behind a place of a line, from its first byte to the place behind its last
pub record IsWordFrom (line : List ℕ) (place start end : ℕ) : Type 0 where
  pub behind : place ≤ start
  pub some : start < end
  pub within : end ≤ length line
  pub first : words (drop place line) ≡ slice_range line start end ∷ words (drop end line)
  -- only blanks stand between
  pub front : words (take start line) ≡ words (take place line)
  -- the line may be cut behind the word
  pub apart : words line ≡ words (take end line) ++ words (drop end line)
