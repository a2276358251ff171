use Rattle.std.proofs.Common.{sym, ◌∙◌}
use Rattle.page_store.specs.Flat.{flat_of}
use Rattle.page_store.proofs.ChangeLaws.{zero_already}
use Rattle.page_store.proofs.flat_store.FlatStorePageStore.zero.Goals as goal

pub returns-else-is_some-clause-zero : goal.returns-else-is_some-clause-zero
returns-else-is_some-clause-zero c = rw (← c.self.view_is) (zero_already (flat_of c.self.inside) c.args.v.0 c.args.page c.find.result c.find.ensures (sym c.is_some.ensures ∙ c.if-is_some.false))
