use Rattle.std.proofs.Common.{◌-◌, inr, arith}
use Rattle.std.proofs.lemmas.List.FromFn.{length-range_with_len}
use Rattle.vmo_ops.proofs.NeedLaws.{need-most}
use Rattle.vmo_ops.proofs.ready.rows_to_own.Goals as goal

pub returns-then-are_ample-clause-some : goal.returns-then-are_ample-clause-some
returns-then-are_ample-clause-some g c =
    let pages = c.args.pages in (
      (inr (rw length-range_with_len (omega arith)), rw length-range_with_len (omega arith)),
      omega (
        arith,
        c.are_ample.ensures.free c.if-are_ample.true,
        need-most (g.P.PageStore.content c.args.store.now) c.args.v.0 pages.first (pages.end - pages.first),
      ),
    )
