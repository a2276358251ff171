use Rattle.std.proofs.Common.{refl}
use Rattle.transcript.proofs.LineLaws.{blank_none, blank_first}
use Rattle.transcript.proofs.lines.is_blank.Goals as goal

pub returns-in-Some : goal.returns-in-Some
returns-in-Some c = blank_first c.args.line.now c.in-Some.word.now _ c.is_comment.result c.requires c.in-Some.ensures.words c.is_comment.ensures

pub returns-in-None : goal.returns-in-None
returns-in-None c = (λ h. blank_none c.args.line.now c.requires c.in-None.ensures.words, λ h. refl)
