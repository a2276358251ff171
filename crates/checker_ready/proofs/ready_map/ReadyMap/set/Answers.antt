use Rattle.page_store.specs.Flat.{flat_content}
use Rattle.checker_ready.specs.Notes.{rows_of}
use Rattle.checker_ready.proofs.NoteLaws.{rows_replaced}
use Rattle.checker_ready.proofs.ready_map.ReadyMap.set.Goals as goal

pub returns-clause-rows : goal.returns-clause-rows
returns-clause-rows c = λ before table are shows change.
    rows_replaced before (flat_content c.args.pages.now) table c.args.root.0 c.args.page c.args.entry c.frame_at.result c.args.readiness (rows_of c.args.self.now) (rows_of c.clear.new.self) (rows_of c.note.new.self)
    c.frame_at.ensures c.clear.ensures.rows (c.note.ensures.rows (flat_content c.args.pages.now)) are shows change
