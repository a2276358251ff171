use Rattle.vmo_ops.proofs.ZeroLaws.{asks_for_all, asks_for_held}
use Rattle.vmo_ops.proofs.zeroing.rows_to_clear.Goals as goal

pub returns-then-count-le-UNSEEN_PAGES : goal.returns-then-count-le-UNSEEN_PAGES
returns-then-count-le-UNSEEN_PAGES g c =
    asks_for_all (g.P.PageStore.content c.args.store.now) c.args.v.0 c.args.offset c.args.len _ _ c.requires.touched.row c.if-count-le-UNSEEN_PAGES.true

pub returns : goal.returns
returns g c = rw c.cost_to_zero.ensures.held (asks_for_held (g.P.PageStore.content c.args.store.now) c.args.v.0 c.args.offset c.args.len)
