use Rattle.cow_jump.proofs.Words.{◌%◌, refl, sym, ap, ◌∙◌, bit_at}
use Rattle.cow_jump.proofs.JumpLaws.{turned-clear}
use Rattle.cow_jump.proofs.jumping.turned.Goals as goal

pub returns : goal.returns
returns c = λ p clear.
    turned-clear c.args.pages c.args.shift (c.args.shift % 64) refl p (ap (λ word. bit_at word (p % 64)) (sym c.rotate_right.ensures) ∙ clear)
