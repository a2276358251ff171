use Rattle.std.proofs.Common.{◌++◌}
use Rattle.std.proofs.Math.Nat.{le_trans}
use Rattle.std.specs.Prelude.{codes}
use Rattle.moving_model.specs.Transcript.{Asked, Answered}
use Rattle.transcript.proofs.CheckLaws.{judged_verdict, judged_result, none_told, read_length, match_ok, malformed_not_fine}
use Rattle.transcript.proofs.checker.Checker.feed.Goals as goal

pub ask-requires-clause-short : goal.ask-requires-clause-short
ask-requires-clause-short c = le_trans c.in-Some.ensures.short c.requires.short

pub returns-in-Some : goal.returns-in-Some
returns-in-Some c = record {
  verdict = λ frames lines read.
      let begun = match_ok c.begin.result c.in_ok-begin.field-0 _ _ c.in_ok-begin.was (c.begin.ensures frames read.tells read.is_at) in
      judged_verdict frames c.ask.new.self lines c.args.line.now read.tells (Asked c.in-Some.script.now) c.ask.result read.told_are c.in-Some.ensures.told (c.ask.ensures frames read.tells begun.0);
}

pub hear-requires-clause-at : goal.hear-requires-clause-at
hear-requires-clause-at c =
    let r = c.requires.read in
    let begun = match_ok c.begin.result c.in_ok-begin.field-0 _ _ c.in_ok-begin.was (c.begin.ensures r.0 r.2.tells r.2.is_at) in
    (r.0, r.2.tells, begun.0, read_length r.1 r.2.tells r.2.told_are r.3)

pub returns-in-Some-reply_in : goal.returns-in-Some-reply_in
returns-in-Some-reply_in c = record {
  verdict = λ frames lines read.
      let begun = match_ok c.begin.result c.in_ok-begin.field-0 _ _ c.in_ok-begin.was (c.begin.ensures frames read.tells read.is_at) in
      judged_result frames c.hear.new.self lines c.args.line.now read.tells (Answered (c.in-Some-reply_in.reply.now ++ codes "\n")) c.hear.result read.told_are c.in-Some-reply_in.ensures (c.hear.ensures frames read.tells begun.0);
}

pub returns-in-None : goal.returns-in-None
returns-in-None c = record { verdict = λ frames lines read. (none_told c.args.line.now c.in_default.ensures.told c.in-None.ensures, λ e. malformed_not_fine e) }
