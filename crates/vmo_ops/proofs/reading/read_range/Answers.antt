use Rattle.std.proofs.Common.{length, ◌∙◌, arith}
use Rattle.vmo_ops.proofs.PartLaws.{bytes_in-one}
use Rattle.vmo_ops.proofs.reading.read_range.Goals as goal

pub returns-then-end-first-eq1 : goal.returns-then-end-first-eq1
returns-then-end-first-eq1 g c =
    let pages = c.touched_pages-first in
    c.read_page.ensures
    ∙ bytes_in-one c.args.offset (length c.args.out.now) pages.result.0 pages.ensures.first
    (omega (arith, pages.ensures.first, pages.ensures.all, c.if-end-first-eq1.true))
    (g.P.PageStore.content c.args.store.now) c.args.v.0 c.requires.good
    (omega (arith, pages.ensures.end, pages.ensures.first, c.if-end-first-eq1.true))
