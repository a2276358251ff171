use Rattle.std.proofs.Common.{◌≡◌, ◌*◌, take, drop}
use Rattle.hex.specs.Hex.{decode_pairs}
use Rattle.hex.proofs.Pairs.{prepend}
use Rattle.hex_digits.proofs.decode_to_slice.Given as goal

abbrev pub invariant-pairs : goal.invariant-pairs
invariant-pairs l =
    decode_pairs 0 l.fn.text ≡ prepend (take l.i l.out) (decode_pairs (2 * l.i) (drop (2 * l.i) l.fn.text))
