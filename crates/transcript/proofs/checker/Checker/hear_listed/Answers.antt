use Rattle.transcript.proofs.CheckLaws.{listed_never, listed_ends, listed_goes}
use Rattle.transcript.proofs.checker.Checker.hear_listed.Goals as goal

pub returns-then-not-is_line : goal.returns-then-not-is_line
returns-then-not-is_line c = λ frames tells is.
    listed_never frames c.args.self.now tells _ c.is_line.result is c.requires.filled c.requires.listing c.is_line.ensures.1 c.if-not-is_line.true

pub returns-then-self-lines : goal.returns-then-self-lines
returns-then-self-lines c = λ frames tells is.
    listed_ends frames c.args.self.now _ tells _ c.answer_line_count-lines.result is c.requires.filled c.requires.listing (c.is_line.ensures.0 c.if-not-is_line.false) c.answer_line_count-lines.ensures c.if-self-lines.true

pub returns-else-self-lines : goal.returns-else-self-lines
returns-else-self-lines c = λ frames tells is.
    listed_goes frames c.args.self.now _ tells _ c.answer_line_count-lines.result is c.requires.filled c.requires.listing (c.is_line.ensures.0 c.if-not-is_line.false) c.answer_line_count-lines.ensures c.if-self-lines.false
