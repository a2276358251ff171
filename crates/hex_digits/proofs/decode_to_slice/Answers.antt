use Rattle.std.proofs.Common.{◌*◌, arith}
use Rattle.hex.proofs.Pairs.{decode_step, decode_done}
use Rattle.hex_digits.proofs.Values.{decode-refused}
use Rattle.hex_digits.proofs.decode_to_slice.Goals as goal

pub returns-then-value-gt255-clause-refused : goal.returns-then-value-gt255-clause-refused
returns-then-value-gt255-clause-refused c _ =
    decode-refused _ c.pairs.out c.pairs.i (omega arith) (c.pair-value.ensures.refused (2 * c.pairs.i) (omega arith)) c.pairs.invariant

pub pairs-preserved : goal.pairs-preserved
pairs-preserved c =
    decode_step _ _ c.pairs.i _ (omega arith) (omega arith) (c.pair-value.ensures.byte (2 * c.pairs.i) (omega arith)) c.pairs.invariant

pub returns-clause-decoded : goal.returns-clause-decoded
returns-clause-decoded c is = decode_done _ c.pairs.out c.pairs.i (omega arith) (omega arith) c.pairs.invariant
