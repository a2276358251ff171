use Rattle.std.proofs.Common.{inl, inr, arith}
use Rattle.reply_text.proofs.DigitLaws.{some_appended, none_appended}
use Rattle.reply_text.proofs.reading.appended.Goals as goal
use Rattle.reply_text.proofs.reading.appended.Goals.{then-high-eq0-via-then-high-eq0, then-high-eq0-via-else-high-eq0+then-high-digit}

pub returns-then-high-eq0 : goal.returns-then-high-eq0
returns-then-high-eq0 c = λ n h more e.
    none_appended c.args.base c.args.high c.args.digit n c.requires.base (omega arith) c.requires.digit (elim c.then-high-eq0.branch [
      | then-high-eq0-via-then-high-eq0 w ↦ inl (omega arith)
      | then-high-eq0-via-else-high-eq0+then-high-digit w ↦ inr (omega (arith, w.if-high-digit))
    ]) h more e

pub returns : goal.returns
returns c = some_appended c.args.base c.args.high c.args.digit c.requires.base (omega (arith, c.if-high-eq0.false)) (omega (arith, c.if-high-digit.false)) c.requires.digit
