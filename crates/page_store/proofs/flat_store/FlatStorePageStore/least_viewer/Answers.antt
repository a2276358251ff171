use Rattle.page_store.specs.Flat.{flat_of}
use Rattle.page_store.proofs.FrameLaws.{some_viewer, least-is}
use Rattle.page_store.proofs.flat_store.FlatStorePageStore.least_viewer.Goals as goal

pub unreachable-requires : goal.unreachable-requires
unreachable-requires c = some_viewer (flat_of c.self.inside) c.self.invariant.flat c.args.tag.0 (rw (← c.self.view_is) at c.requires) c.in-None.ensures.next

pub returns : goal.returns
returns c = rw (← c.self.view_is) (least-is (flat_of c.self.inside) c.self.invariant.flat c.args.tag c.in-Some.koid c.in-Some.ensures.next)
