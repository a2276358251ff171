use Rattle.std.proofs.Common.{◌≡◌, ℕ, ◌-◌, ◌^◌, ◌<◌, None}
use Rattle.pair_map.specs.Maps.{extents_of}
use Rattle.mapping_set.specs.inside.Taken.{pieces_in}
use Rattle.mapping_set.proofs.taken.first_piece.Given as goal

-- no piece begins before `from`
abbrev pub invariant-search : goal.invariant-search
invariant-search l = record {
  passed : (p : ℕ) → p < l.from → pieces_in (extents_of l.taken) l.list p ≡ None;
}

abbrev pub decreases-search : goal.decreases-search
decreases-search l = 2 ^ 63 - l.from
