use Rattle.page_store.proofs.VmoLaws.{content-new, IsFlat-new}
use Rattle.page_store.proofs.flat_store.FlatStore.new.Goals as goal

pub invariant_of-result : goal.invariant_of-result
invariant_of-result c = record { flat = IsFlat-new _ c.new-2.result c.new-3.result c.new-4.result c.new.ensures.frames c.new-2.ensures.values c.new-3.ensures.values c.new.ensures.taken c.new-4.ensures.values c.new-2.ensures.count }

pub returns-clause-content : goal.returns-clause-content
returns-clause-content c = content-new _ c.new-2.result c.new-3.result c.new-4.result c.new.ensures.frames c.new-2.ensures.values c.new-3.ensures.values
