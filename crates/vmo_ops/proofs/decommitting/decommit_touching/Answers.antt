use Rattle.std.proofs.Common.{◌<◌, refl, sym}
use Rattle.vm_model.proofs.StepLaws.{Step-lacks}
use Rattle.vmo_ops.specs.Targets.{with_tables}
use Rattle.vmo_ops.specs.Costs.{held_touched}
use Rattle.vmo_ops.proofs.AskLaws.{Step-refused}
use Rattle.vmo_ops.proofs.NameLaws.{named_inside}
use Rattle.vmo_ops.proofs.StepRows.{decommit_done}
use Rattle.vmo_ops.proofs.ZeroLaws.{wants_held}
use Rattle.vmo_ops.proofs.decommitting.decommit_touching.Goals as goal

pub returns-in-Err-clause-step : goal.returns-in-Err-clause-step
returns-in-Err-clause-step g c = λ s name named. Step-refused (with_tables s (g.P.PageStore.content c.args.store.now) c.args.vmos.now c.args.pins.now) _ _ (c.in-Err.ensures s name named)

pub returns-in_default-clause-step : goal.returns-in_default-clause-step
returns-in_default-clause-step g c = λ rest name named.
    let s = with_tables rest (g.P.PageStore.content c.args.store.now) c.args.vmos.now c.args.pins.now in
    let some : 0 < held_touched s.content c.args.t.now.koid.0 c.in-Ok.at c.args.len = c.in_default.ensures.err in
    rw c.room_to_zero.ensures.same (Step-lacks s _ (sym (c.in-Ok.ensures.0 rest name named))
    (wants_held s name.0 c.args.offset c.args.len c.args.t.now c.in-Ok.at named c.in-Ok.ensures.1.place some))

pub returns-clause-step : goal.returns-clause-step
returns-clause-step g c = λ rest name named.
    let s = with_tables rest (g.P.PageStore.content c.args.store.now) c.args.vmos.now c.args.pins.now in
    decommit_done s name.0 c.args.t.now named name refl c.args.offset c.args.len c.in-Ok.at c.in-Ok.ensures.1 (sym (c.in-Ok.ensures.0 rest name named)) _ (rw c.room_to_zero.ensures.same at c.clear_pages.ensures)

pub rows_to_clear-rows-requires-clause-vmo : goal.rows_to_clear-rows-requires-clause-vmo
rows_to_clear-rows-requires-clause-vmo g c = (named_inside _ _ c.requires.parts.good c.requires.named).vmo

pub rows_to_clear-rows-requires-clause-inside : goal.rows_to_clear-rows-requires-clause-inside
rows_to_clear-rows-requires-clause-inside g c = c.in-Ok.ensures.1.inside

pub clear_pages-requires-clause-good : goal.clear_pages-requires-clause-good
clear_pages-requires-clause-good g c = rw c.room_to_zero.ensures.same c.requires.parts.good.content

pub clear_pages-requires-clause-vmo : goal.clear_pages-requires-clause-vmo
clear_pages-requires-clause-vmo g c = rw c.room_to_zero.ensures.same (named_inside _ _ c.requires.parts.good c.requires.named).vmo

pub clear_pages-requires-clause-inside : goal.clear_pages-requires-clause-inside
clear_pages-requires-clause-inside g c = rw c.room_to_zero.ensures.same c.in-Ok.ensures.1.inside

pub clear_pages-requires-clause-whole : goal.clear_pages-requires-clause-whole
clear_pages-requires-clause-whole g c = (c.in-Ok.ensures.2, c.in-Ok.ensures.3)

pub clear_pages-requires-clause-free : goal.clear_pages-requires-clause-free
clear_pages-requires-clause-free g c = c.in-Ok.ensures.4

pub clear_pages-requires-clause-room : goal.clear_pages-requires-clause-room
clear_pages-requires-clause-room g c = rw c.room_to_zero.ensures.same c.in-Ok-room_to_zero.ensures.rows

pub room_to_zero-requires-clause-vmo : goal.room_to_zero-requires-clause-vmo
room_to_zero-requires-clause-vmo g c = (named_inside _ _ c.requires.parts.good c.requires.named).vmo

pub room_to_zero-requires-clause-inside : goal.room_to_zero-requires-clause-inside
room_to_zero-requires-clause-inside g c = c.in-Ok.ensures.1.inside
