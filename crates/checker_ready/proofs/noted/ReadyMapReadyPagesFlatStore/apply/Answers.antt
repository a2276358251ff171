use Rattle.std.proofs.Common.{refl}
use Rattle.pin_table.specs.Table.{pins_of}
use Rattle.page_store.specs.Flat.{flat_content}
use Rattle.checker_ready.specs.Notes.{rows_of}
use Rattle.checker_ready.proofs.AppliedLaws.{applied_ready, applied_notes}
use Rattle.checker_ready.proofs.noted.ReadyMapReadyPagesFlatStore.apply.Goals as goal

pub returns-in-None-clause-left : goal.returns-in-None-clause-left
returns-in-None-clause-left c = applied_ready (flat_content c.args.pages.now) (pins_of c.args.pins.now) c.args.change (rows_of c.args.self.now) _ (rw c.in-None.is refl)

pub returns-in-None-clause-notes : goal.returns-in-None-clause-notes
returns-in-None-clause-notes c = applied_notes (flat_content c.args.pages.now) (pins_of c.args.pins.now) c.args.change (rows_of c.args.self.now) _ (rw c.in-None.is refl)

pub returns-in-Frames-clause-left : goal.returns-in-Frames-clause-left
returns-in-Frames-clause-left c = applied_ready (flat_content c.args.pages.now) (pins_of c.args.pins.now) c.args.change (rows_of c.args.self.now) _ (rw c.in-Frames.is c.settle.ensures.rows)

pub returns-in-Frames-clause-notes : goal.returns-in-Frames-clause-notes
returns-in-Frames-clause-notes c = applied_notes (flat_content c.args.pages.now) (pins_of c.args.pins.now) c.args.change (rows_of c.args.self.now) _ (rw c.in-Frames.is c.settle.ensures.rows)

pub returns-in-Past-clause-left : goal.returns-in-Past-clause-left
returns-in-Past-clause-left c = applied_ready (flat_content c.args.pages.now) (pins_of c.args.pins.now) c.args.change (rows_of c.args.self.now) _ (rw c.in-Past.is c.settle-in-Past.ensures.rows)

pub returns-in-Past-clause-notes : goal.returns-in-Past-clause-notes
returns-in-Past-clause-notes c = applied_notes (flat_content c.args.pages.now) (pins_of c.args.pins.now) c.args.change (rows_of c.args.self.now) _ (rw c.in-Past.is c.settle-in-Past.ensures.rows)

pub returns-in-Shared-clause-left : goal.returns-in-Shared-clause-left
returns-in-Shared-clause-left c = applied_ready (flat_content c.args.pages.now) (pins_of c.args.pins.now) c.args.change (rows_of c.args.self.now) _ (rw c.in-Shared.is c.restrict.ensures.rows)

pub returns-in-Shared-clause-notes : goal.returns-in-Shared-clause-notes
returns-in-Shared-clause-notes c = applied_notes (flat_content c.args.pages.now) (pins_of c.args.pins.now) c.args.change (rows_of c.args.self.now) _ (rw c.in-Shared.is c.restrict.ensures.rows)

pub returns-in-Mapped-clause-left : goal.returns-in-Mapped-clause-left
returns-in-Mapped-clause-left c = applied_ready (flat_content c.args.pages.now) (pins_of c.args.pins.now) c.args.change (rows_of c.args.self.now) _ (rw c.in-Mapped.is c.drop_range.ensures.rows)

pub returns-in-Mapped-clause-notes : goal.returns-in-Mapped-clause-notes
returns-in-Mapped-clause-notes c = applied_notes (flat_content c.args.pages.now) (pins_of c.args.pins.now) c.args.change (rows_of c.args.self.now) _ (rw c.in-Mapped.is c.drop_range.ensures.rows)
