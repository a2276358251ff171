use Rattle.std.proofs.Common.{subst, arith}
use Rattle.transcript.specs.declared.verdict.Verdict.{Verdict}
use Rattle.transcript.specs.Verdicts.{IsVerdict}
use Rattle.transcript.proofs.CheckLaws.{match_ok}
use Rattle.transcript.proofs.CountLaws.{asked_short, read_so, fine_more, illegal_more, malformed_more}
use Rattle.transcript.proofs.reports.Check.feed.Goals as goal

pub overflow_add-self-in-Fine : goal.overflow_add-self-in-Fine
overflow_add-self-in-Fine c =
    let w = c.requires.checked in
    omega (arith, asked_short w.0 c.args.self.now w.1 w.2 c.requires.none w.3, c.asks.ensures.few)

pub returns-in-Fine-clause-checked : goal.returns-in-Fine-clause-checked
returns-in-Fine-clause-checked c = λ frames lines checked.
    let read = read_so frames c.args.self.now lines checked c.requires.none in
    let said = match_ok c.feed.result c.in_ok-feed.field-0 _ _ c.in_ok-feed.was (c.feed.ensures.verdict frames lines read) in
    fine_more frames c.args.self.now c.feed.new.self c.asks.result lines c.args.line.now c.requires.none checked (said.1 c.in-Fine.is) c.asks.ensures.count

pub returns-in-Illegal-clause-checked : goal.returns-in-Illegal-clause-checked
returns-in-Illegal-clause-checked c = λ frames lines checked.
    let read = read_so frames c.args.self.now lines checked c.requires.none in
    let said = match_ok c.feed.result c.in_ok-feed.field-0 _ _ c.in_ok-feed.was (c.feed.ensures.verdict frames lines read) in
    illegal_more frames c.args.self.now c.feed.new.self lines c.args.line.now c.requires.none checked
    (subst (λ (v : Verdict). IsVerdict frames lines c.args.line.now v) c.in-Illegal.is said.0)

pub returns-in-Malformed-clause-checked : goal.returns-in-Malformed-clause-checked
returns-in-Malformed-clause-checked c = λ frames lines checked.
    let read = read_so frames c.args.self.now lines checked c.requires.none in
    let said = match_ok c.feed.result c.in_ok-feed.field-0 _ _ c.in_ok-feed.was (c.feed.ensures.verdict frames lines read) in
    malformed_more frames c.args.self.now c.feed.new.self lines c.args.line.now c.requires.none checked
    (subst (λ (v : Verdict). IsVerdict frames lines c.args.line.now v) c.in-Malformed.is said.0)
