use Rattle.cow_jump.proofs.Words.{None, refl, ap, ◌∙◌, arith, slice_index_or}
use Rattle.cow_jump.proofs.JumpLaws.{place-pushed}
use Rattle.cow_jump.proofs.jumps.JumpTable.grow_entries.Goals as goal

pub loop-self-init : goal.loop-self-init
loop-self-init c = record { jumps = λ k. refl; serials = refl }

pub loop-self-smaller : goal.loop-self-smaller
loop-self-smaller c = omega (arith, c.len.ensures, c.loop-self-test.true, c.in-Ok.ensures.len)

pub loop-self-preserved : goal.loop-self-preserved
loop-self-preserved c = record {
  jumps = λ k. place-pushed _ _ _ k c.in-Ok.ensures.items ∙ c.loop-self.invariant.jumps k;
  serials = c.loop-self.invariant.serials;
}

pub returns-in_default-clause-jumps : goal.returns-in_default-clause-jumps
returns-in_default-clause-jumps c = λ k. ap (λ items. slice_index_or items k None) c.in_default.ensures.items ∙ c.loop-self.invariant.jumps k

pub returns-in_default-clause-serials : goal.returns-in_default-clause-serials
returns-in_default-clause-serials c = c.loop-self.invariant.serials

pub returns : goal.returns
returns c = record { jumps = c.loop-self.invariant.jumps; serials = c.loop-self.invariant.serials }
