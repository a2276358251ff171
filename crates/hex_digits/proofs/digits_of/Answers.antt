use Rattle.std.proofs.Common.{arith}
use Rattle.hex_digits.proofs.Values.{pairs-at}
use Rattle.hex_digits.proofs.digits_of.Goals as goal

pub returns-clause-high : goal.returns-clause-high
returns-clause-high c = (pairs-at c.args.byte (omega arith)).0

pub returns-clause-low : goal.returns-clause-low
returns-clause-low c = (pairs-at c.args.byte (omega arith)).1
