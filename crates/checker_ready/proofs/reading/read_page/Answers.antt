use Rattle.page_store.specs.Flat.{flat_content}
use Rattle.checker_ready.specs.Notes.{rows_of}
use Rattle.checker_ready.proofs.NoteLaws.{no_change, rows_read, rows_left}
use Rattle.checker_ready.proofs.reading.read_page.Goals as goal

pub returns-then-page-clause-rows : goal.returns-then-page-clause-rows
returns-then-page-clause-rows c = λ table are is.
    rows_read (flat_content c.args.pages.now) table c.args.place.root.0 c.args.place.page c.args.page (rows_of c.args.ready.now) (rows_of c.set.new.self) are is c.if-page.true
    (c.set.ensures.rows (flat_content c.args.pages.now) table are is.shows
    (no_change (flat_content c.args.pages.now) table c.args.place.root.0 c.args.place.page c.args.page (rows_of c.args.ready.now) (rows_of c.set.new.self) are is))

pub returns-else-page-clause-rows : goal.returns-else-page-clause-rows
returns-else-page-clause-rows c = λ table are is.
    rows_left (flat_content c.args.pages.now) table c.args.place.root.0 c.args.place.page c.args.page (rows_of c.args.ready.now) (rows_of c.args.ready.now) are is c.if-page.false
