-- The digits of the number are those of its front, and its last digit.
use Rattle.std.proofs.Common.{arith}
use Rattle.std.proofs.lemmas.Grind.{common_steps}
use Rattle.reply_text.proofs.Hex.{hex_step, length-hex_step}
use Rattle.reply_text.proofs.parts.+put_hex.Goals as goal

pub put_hex-at-requires : goal.put_hex-at-requires
put_hex-at-requires t c =
    let n = c.args.number in
    let step = length-hex_step n c.if-number-lt16.false (omega arith) in
    grind arith

pub put-requires-2 : goal.put-requires-2
put-requires-2 t c =
    let n = c.args.number in
    omega (arith, length-hex_step n c.if-number-lt16.false (omega arith))

pub returns-clause-written : goal.returns-clause-written
returns-clause-written t c =
    let n = c.args.number in
    let step = hex_step n c.if-number-lt16.false (omega arith) in
    grind (arith, common_steps, step)

pub returns-clause-end : goal.returns-clause-end
returns-clause-end t c =
    let n = c.args.number in
    omega (arith, length-hex_step n c.if-number-lt16.false (omega arith))
