use Rattle.std.proofs.Common.{arith}
use Rattle.script_text.proofs.Places.{IsPassed-start, IsPassed-next, IsPassed-found}
use Rattle.script_text.proofs.words.word_at.Goals as goal

pub loop-start-init : goal.loop-start-init
loop-start-init c = IsPassed-start c.args.line.now c.args.index

pub returns-then-left-eq0-clause-word : goal.returns-then-left-eq0-clause-word
returns-then-left-eq0-clause-word c =
    (IsPassed-found c.args.line.now c.args.index c.loop-start.left c.loop-start.passed c.in-Some.start c.in-Some.end
    c.loop-start.invariant c.in-Some.ensures (omega arith)).word

pub loop-start-preserved : goal.loop-start-preserved
loop-start-preserved c =
    IsPassed-next c.args.line.now c.args.index c.loop-start.left c.loop-start.passed c.in-Some.start c.in-Some.end
    c.loop-start.invariant c.in-Some.ensures (omega arith)
