use Rattle.std.proofs.Common.{arith}
use Rattle.hex_digits.proofs.Values.{digit_value-bound, table-at}
use Rattle.hex_digits.proofs.value.Goals as goal

pub returns-clause-value : goal.returns-clause-value
returns-clause-value c = table-at c.args.digit (omega arith)

pub returns-clause-bound : goal.returns-clause-bound
returns-clause-bound c = rw (table-at c.args.digit (omega arith)) (digit_value-bound c.args.digit)
