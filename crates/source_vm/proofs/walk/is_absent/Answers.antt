use Rattle.std.proofs.Common.{◌∙◌, sym}
use Rattle.page_store.proofs.LookLaws.{zero_frame, held_frame}
use Rattle.source_model.proofs.FillingLaws.{absent-held}
use Rattle.source_vm.specs.Table.{backings_of}
use Rattle.source_vm.proofs.EndLaws.{absent-unheld}
use Rattle.source_vm.proofs.walk.is_absent.Goals as goal

pub returns-in-Some : goal.returns-in-Some
returns-in-Some c = λ content found.
    let held = held_frame _ _ (sym c.in-Some.is ∙ found) in sym (absent-held _ _ _ _ held.0 held.1)

pub returns-in-None : goal.returns-in-None
returns-in-None c = λ content found.
    c.is_sourced.ensures
    ∙ sym (absent-unheld content (backings_of c.args.table.now) c.args.at.place.koid.0 c.args.at.place.page (zero_frame _ (sym c.in-None.is ∙ found)))
