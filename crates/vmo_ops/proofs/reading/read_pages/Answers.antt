use Rattle.std.proofs.Common.{arith}
use Rattle.vmo_ops.proofs.ReadLaws.{read_start, read_step}
use Rattle.vmo_ops.proofs.reading.read_pages.Goals as goal

pub loop-page-init : goal.loop-page-init
loop-page-init g c = read_start _ _ _ _ _ c.touched_pages-first.ensures.first

pub loop-page-preserved : goal.loop-page-preserved
loop-page-preserved g c =
    let part = c.part_in_page-part.ensures in
    read_step _ _ _ c.requires.good (omega arith) (omega (arith, c.touched_pages-first.ensures.end)) part.at part.from
    part.until part.within c.loop-page.auto.out c.read_page.auto.out c.read_page.ensures c.loop-page.invariant
