use Rattle.std.proofs.Common.{ℕ, Option, refl, ap}
use Rattle.slab.specs.Slab.{get}
use Rattle.fault.specs.Table.{Places, translation_at}
use Rattle.fault.proofs.LinkLaws.{AreLinkedInLists-none}
use Rattle.fault.proofs.translations.Translations.new.Goals as goal

pub invariant_of-result : goal.invariant_of-result
invariant_of-result c = AreLinkedInLists-none _ _ _ _ c.new.ensures c.new-2.ensures (λ x. rw c.new-3.ensures.empty refl)

pub returns : goal.returns
returns c = ap {B = Places} (λ (m : ℕ → ℕ → Option ℕ) root p. translation_at (get c.new-3.result) (m root p)) c.new.ensures
