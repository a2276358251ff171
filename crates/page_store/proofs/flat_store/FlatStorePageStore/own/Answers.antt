use Rattle.std.proofs.Common.{sym, ap, ◌∙◌}
use Rattle.std.specs.Option.{option_map}
use Rattle.page_store.specs.Flat.{flat_of, page_with_tag}
use Rattle.page_store.proofs.ChangeLaws.{own_room}
use Rattle.page_store.proofs.flat_store.FlatStorePageStore.own.Goals as goal

pub own_zero-requires-clause-room : goal.own_zero-requires-clause-room
own_zero-requires-clause-room c =
    rw (← c.self.view_is) (own_room (flat_of c.self.inside) c.args.v.0 c.args.page (ap (option_map (page_with_tag c.self.inside.pool)) (sym c.find.ensures ∙ c.in-None.is)) (rw (← c.self.view_is) at c.requires.room)).0

pub own_zero-requires-clause-frame : goal.own_zero-requires-clause-frame
own_zero-requires-clause-frame c =
    rw (← c.self.view_is) (own_room (flat_of c.self.inside) c.args.v.0 c.args.page (ap (option_map (page_with_tag c.self.inside.pool)) (sym c.find.ensures ∙ c.in-None.is)) (rw (← c.self.view_is) at c.requires.room)).1
