-- How far a text was pushed.
use Rattle.std.specs.Prelude.{◌≡◌, ℕ, List, ◌++◌, Option}
use Rattle.std.specs.Io.KnownBytes.{Appends}

-- a front part of the text was pushed, and this is left of it
pub record IsPushed (sink_old sink_now : Option (List ℕ)) (text left : List ℕ) : Type 0 where
  pub part : List ℕ
  pub parts : text ≡ part ++ left
  pub taken : Appends sink_old sink_now part
