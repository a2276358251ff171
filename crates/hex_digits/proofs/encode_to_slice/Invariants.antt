use Rattle.std.proofs.Common.{◌≡◌, ◌*◌, ◌++◌, take, drop}
use Rattle.hex.specs.Hex.{encode_with, lower_digits}
use Rattle.hex_digits.proofs.encode_to_slice.Given as goal

abbrev pub invariant-bytes : goal.invariant-bytes
invariant-bytes l =
    take (2 * l.i) l.out ++ encode_with lower_digits (drop l.i l.bytes) ≡ encode_with lower_digits l.bytes
