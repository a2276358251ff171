use Rattle.cow_jump.proofs.Words.{◌∙◌}
use Rattle.cow_jump.proofs.jumping.note_pair.Goals as goal

pub note_jump-requires-2-clause-further : goal.note_jump-requires-2-clause-further
note_jump-requires-2-clause-further c =
    let it = c.in-Some.ensures.0 in
    record { is = it.is; serial = c.note_jump.ensures.serials c.in-Some.further.to.0 ∙ it.serial }

pub returns : goal.returns
returns c = λ next are. c.note_jump-2.ensures.jumps next (c.note_jump.ensures.jumps next are)
