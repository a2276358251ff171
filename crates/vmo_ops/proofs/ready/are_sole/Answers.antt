use Rattle.std.proofs.Common.{◌-◌, arith}
use Rattle.vmo_ops.proofs.ModelLaws.{need_any}
use Rattle.vmo_ops.proofs.ready.are_sole.Goals as goal

pub returns-clause-err : goal.returns-clause-err
returns-clause-err g c =
    let pages = c.args.pages in
    need_any (g.P.PageStore.content c.args.store.now) c.args.v.0 pages.first (pages.end - pages.first) (omega (arith, c.need_of.ensures, c.if-need_of-eq0.false))
