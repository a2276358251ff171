use Rattle.vmo_ops.proofs.ranges.touched_by.Goals as goal

pub returns : goal.returns
returns c =
    let pages = c.touched_pages-first.ensures in
    record { first = pages.first; order = pages.order; end = pages.end; all = pages.all; row = pages.pages }
