use Rattle.cow_jump.proofs.Words.{subst, sym, tree_of, IsJump}
use Rattle.cow_jump.proofs.JumpLaws.{given-jumps, joined-new, some-jump}
use Rattle.cow_jump.proofs.jumping.note_jump.Goals as goal

pub joined-jump-requires-clause-next : goal.joined-jump-requires-clause-next
joined-jump-requires-clause-next c =
    subst (λ k. IsJump (tree_of c.args.arena.now c.args.lists.now) k c.args.further) (sym c.if-step-hidden.false) c.requires.further.is

pub returns-clause-jumps : goal.returns-clause-jumps
returns-clause-jumps c = λ next are.
    given-jumps (tree_of c.args.arena.now c.args.lists.now) next c.args.at.0 c.joined-jump.result c.args.jumps.now c.set.new.self are
    c.set.ensures.here c.set.ensures.others c.set.ensures.serials
    (some-jump (tree_of c.args.arena.now c.args.lists.now) c.args.jumps.now c.args.at.0 c.joined-jump.result
    (joined-new (tree_of c.args.arena.now c.args.lists.now) c.args.jumps.now c.args.at.0 c.args.further c.joined-jump.result c.joined-jump.ensures
    c.requires.further.serial c.requires.to))
