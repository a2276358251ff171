use Rattle.page_store.specs.Flat.{flat_content}
use Rattle.checker_ready.specs.Notes.{rows_of}
use Rattle.checker_ready.proofs.WriteLaws.{range_written, shows_written, rows_kept}
use Rattle.checker_ready.proofs.writing.write_page.Goals as goal

pub returns-then-page-clause-rows : goal.returns-then-page-clause-rows
returns-then-page-clause-rows c = λ table are is. c.set.ensures.rows (flat_content c.args.pages.now) table are
    (shows_written (flat_content c.args.pages.now) (flat_content c.write_page.new.store) table (rows_of c.args.ready.now) c.args.place.root.0 c.args.place.page c.args.place.at c.args.bytes.now
    c.args.page c.requires.good are is c.requires.range c.write_page.ensures.writes)
    (range_written (flat_content c.args.pages.now) (flat_content c.write_page.new.store) table (rows_of c.args.ready.now) c.args.place.root.0 c.args.place.page c.args.place.at c.args.bytes.now
    c.args.page c.requires.good are is c.requires.range c.write_page.ensures.writes)

pub returns-else-page-clause-rows : goal.returns-else-page-clause-rows
returns-else-page-clause-rows c = λ table are is.
    rows_kept (flat_content c.args.pages.now) (flat_content c.write_page.new.store) table (rows_of c.args.ready.now) c.args.place.root.0 c.args.place.page c.args.place.at c.args.bytes.now
    c.args.page c.requires.good are is c.requires.range c.write_page.ensures.writes (c.requires.may.alone c.if-page.false) c.if-page.false
