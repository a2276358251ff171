use Rattle.std.proofs.Common.{arith, sym}
use Rattle.word_text.proofs.Decimal.{length-decimal}
use Rattle.word_text.proofs.parts.digit_count.Goals as goal

pub returns-in-0-to-9-clause-count : goal.returns-in-0-to-9-clause-count
returns-in-0-to-9-clause-count c =
    sym (length-decimal 0 c.args.number (omega arith) (omega (arith, c.in-0-to-9)) c.ranges.number.fits)

pub returns-in-10-to-99-clause-count : goal.returns-in-10-to-99-clause-count
returns-in-10-to-99-clause-count c =
    sym (length-decimal 1 c.args.number (omega (arith, c.in-10-to-99)) (omega (arith, c.in-10-to-99)) c.ranges.number.fits)

pub returns-in-100-to-999-clause-count : goal.returns-in-100-to-999-clause-count
returns-in-100-to-999-clause-count c =
    sym (length-decimal 2 c.args.number (omega (arith, c.in-100-to-999)) (omega (arith, c.in-100-to-999)) c.ranges.number.fits)

pub returns-in-1000-to-9999-clause-count : goal.returns-in-1000-to-9999-clause-count
returns-in-1000-to-9999-clause-count c =
    sym (length-decimal 3 c.args.number (omega (arith, c.in-1000-to-9999)) (omega (arith, c.in-1000-to-9999)) c.ranges.number.fits)

pub returns-in_default-clause-count : goal.returns-in_default-clause-count
returns-in_default-clause-count c =
    sym (length-decimal c.ilog10.result c.args.number (omega (arith, c.ilog10.ensures.power_le)) c.ilog10.ensures.next_power_gt c.ranges.number.fits)
