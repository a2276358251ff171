use Rattle.page_store.proofs.RowLaws.{free_unused}
use Rattle.page_store.proofs.flat_store.FlatStorePageStore.free.Goals as goal

pub returns : goal.returns
returns c = rw (← c.self.view_is) (free_unused _ c.self.invariant.flat _ c.free.ensures)
