use Rattle.std.proofs.Common.{arith}
use Rattle.page_store.specs.Flat.{flat_of}
use Rattle.page_store.proofs.FrameLaws.{shown_taken, bytes_shown}
use Rattle.page_store.proofs.flat_store.FlatStorePageStore.read.Goals as goal

pub read-requires-clause-taken : goal.read-requires-clause-taken
read-requires-clause-taken c = shown_taken (flat_of c.self.inside) c.self.invariant.flat c.args.tag.0 (rw (← c.self.view_is) at c.requires.shown)

pub returns : goal.returns
returns c = rw (← c.self.view_is) (bytes_shown (flat_of c.self.inside) c.self.invariant.flat c.args.tag.0 c.args.at _ _ (omega arith) c.read.ensures)
