use Rattle.cow_forest.proofs.Words.{None, refl, ap, ◌∙◌, arith, slice_index_or}
use Rattle.cow_jump.proofs.JumpLaws.{place-pushed}
use Rattle.cow_forest.proofs.founders.FounderTable.grow.Goals as goal

pub loop-self-init : goal.loop-self-init
loop-self-init c = λ k. refl

pub loop-self-smaller : goal.loop-self-smaller
loop-self-smaller c = omega (arith, c.len.ensures, c.loop-self-test.true, c.in-Ok.ensures.len)

pub loop-self-preserved : goal.loop-self-preserved
loop-self-preserved c = λ k. place-pushed _ _ _ k c.in-Ok.ensures.items ∙ c.loop-self.invariant k

pub returns-in_default : goal.returns-in_default
returns-in_default c = λ k. ap (λ items. slice_index_or items k None) c.in_default.ensures.items ∙ c.loop-self.invariant k

pub returns : goal.returns
returns c = c.loop-self.invariant
