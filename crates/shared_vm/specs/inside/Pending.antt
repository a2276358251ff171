-- Text on its way to a sink, part of which waits in a buffer.
use Rattle.std.specs.Prelude.{◌≡◌, ℕ, List, ◌++◌, Option}
use Rattle.std.specs.Io.KnownBytes.{Appends}

-- Bytes were added behind those that waited. The sink took a front part of them all, and the rest waits.
pub record PassesOn (sink_old : Option (List ℕ)) (pending_old bytes : List ℕ) (sink_new : Option (List ℕ)) (pending_new : List ℕ) : Type 0 where
  pub part : List ℕ
  pub taken : Appends sink_old sink_new part
  pub whole : pending_old ++ bytes ≡ part ++ pending_new
