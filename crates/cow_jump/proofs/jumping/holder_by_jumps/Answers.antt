use Rattle.cow_jump.proofs.Words.{sym, ap, ◌∙◌, holder_of}
use Rattle.cow_arena.proofs.WalkLaws.{walk-row}
use Rattle.cow_jump.proofs.jumping.holder_by_jumps.Goals as goal

pub returns-in-Some : goal.returns-in-Some
returns-in-Some c =
    ap holder_of (sym (walk-row _ c.requires.forest _ _ _ (record { node = c.look.result.now; at = c.look.ensures; row = sym c.find.ensures ∙ c.in-Some.is })))
