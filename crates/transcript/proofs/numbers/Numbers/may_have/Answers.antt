use Rattle.std.proofs.Common.{◌≡◌, ◌<◌, length, sym, is_none, ap, ◌∙◌, None, arith}
use Rattle.transcript.specs.Seen.{number_seen}
use Rattle.transcript.proofs.NumberLaws.{may_have-none, may_is, none_read}
use Rattle.transcript.proofs.numbers.Numbers.may_have.Goals as goal

pub returns-then-number-len : goal.returns-then-number-len
returns-then-number-len c =
    let told = c.self.inside.told.items in
    let frames = c.self.inside.frames.items in
    let none : number_seen told c.args.frame ≡ None = sym c.value_at.ensures ∙ c.in-None.is in
    let low : c.args.number < length told = omega (arith, c.if-number-len.true, c.len.ensures) in
    may_is _ _ c.args.frame c.args.number _ c.self.view_is
    (none_read _ _ (is_none (number_seen frames c.args.number)) (sym c.is_none.ensures) (ap is_none (sym c.value_at-then-number-len.ensures)) ∙ may_have-none told frames c.args.frame c.args.number c.self.invariant none low)
