use Rattle.cow_jump.proofs.Words.{refl, ap, ◌∙◌, arith, slice_index_or}
use Rattle.cow_jump.proofs.JumpLaws.{place-pushed}
use Rattle.cow_jump.proofs.jumps.JumpTable.grow_serials.Goals as goal

pub loop-self-init : goal.loop-self-init
loop-self-init c = record { entries = refl; serials = λ k. refl }

pub loop-self-smaller : goal.loop-self-smaller
loop-self-smaller c = omega (arith, c.len.ensures, c.loop-self-test.true, c.in-Ok.ensures.len)

pub loop-self-preserved : goal.loop-self-preserved
loop-self-preserved c = record {
  entries = c.loop-self.invariant.entries;
  serials = λ k. place-pushed _ _ _ k c.in-Ok.ensures.items ∙ c.loop-self.invariant.serials k;
}

pub returns-in_default-clause-entries : goal.returns-in_default-clause-entries
returns-in_default-clause-entries c = c.loop-self.invariant.entries

pub returns-in_default-clause-serials : goal.returns-in_default-clause-serials
returns-in_default-clause-serials c = λ k. ap (λ items. slice_index_or items k 0) c.in_default.ensures.items ∙ c.loop-self.invariant.serials k

pub returns : goal.returns
returns c = record { entries = c.loop-self.invariant.entries; serials = c.loop-self.invariant.serials }
