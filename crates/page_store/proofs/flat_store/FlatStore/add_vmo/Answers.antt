use Rattle.page_store.specs.Flat.{flat_of}
use Rattle.page_store.proofs.VmoLaws.{content-created, IsFlat-created}
use Rattle.page_store.proofs.flat_store.FlatStore.add_vmo.Goals as goal

pub invariant_of-self : goal.invariant_of-self
invariant_of-self c = record { flat = IsFlat-created (flat_of c.self.inside) c.insert.new.self _ c.insert.ensures.values c.self.invariant.flat c.requires.count c.insert.ensures.count }

pub returns-clause-content : goal.returns-clause-content
returns-clause-content c = rw (← c.self.view_is) (content-created (flat_of c.self.inside) c.insert.new.self _ c.insert.ensures.values)
