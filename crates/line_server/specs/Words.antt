-- The words of the command line that programs of lines share.
use Rattle.std.specs.Prelude.{ℕ, ◌&&◌, nat_le, Bool, List, [], ◌∷◌, length, map, codes, nat_eq, if◌then◌else◌, Option, None, Some}
use Rattle.std.specs.Cmp.Lexicographic.{pointwise}
use Rattle.std.specs.String.{string_bytes}
use Rattle.std.specs.declared.string.String.{String}
use Rattle.std.specs.declared.alloc.Global.{Global}
use Rattle.vm_base.specs.declared.limits.TheConstants.{DEFAULT_FRAMES, FRAMES}
use Rattle.vm_model.specs.Language.Reading.{is_hex, number, ◌>>=◌}

abbrev pub is_text : List ℕ → List ℕ → Bool
is_text = pointwise nat_eq

-- at most so many digits, and a number from least to most
abbrev pub within : (len least most : ℕ) → List ℕ → Option ℕ → Option ℕ
within len least most word o = do
  n ← o
  if nat_le (length word) len && (nat_le least n && nat_le n most) then Some n else None

-- such a number, which isn't written in hexadecimal
unfoldable pub decimal_of_word : (len least most : ℕ) → List ℕ → Option ℕ
decimal_of_word len least most word = if is_hex word then None else within len least most word (number word)

-- a number of frames: one to five digits, from 1 to FRAMES
abbrev pub frames_of_word : List ℕ → Option ℕ
frames_of_word = decimal_of_word 5 1 FRAMES

-- no more words, for DEFAULT_FRAMES frames, or `--frames N`
abbrev pub frames_in : List (List ℕ) → Option ℕ
frames_in [] = Some DEFAULT_FRAMES
frames_in (flag ∷ frames ∷ []) = if is_text flag (codes "--frames") then frames_of_word frames else None
frames_in _ = None

-- this verb, and behind it the frames
abbrev pub frames_behind : List ℕ → List (List ℕ) → Option ℕ
frames_behind verb [] = None
frames_behind verb (first ∷ behind) = if is_text first verb then frames_in behind else None

-- what words ask for that are a verb and the frames, None where they are outside the grammar
abbrev pub frames_asked : List ℕ → List (String Global) → Option ℕ
frames_asked verb words = frames_behind verb (map string_bytes words)
