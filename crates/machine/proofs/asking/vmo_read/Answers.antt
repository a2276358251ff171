use Rattle.std.proofs.Common.{refl, sym}
use Rattle.machine.specs.inside.Fields.{state_in}
use Rattle.machine.proofs.HandleLaws.{inside_named}
use Rattle.machine.proofs.asking.vmo_read.Goals as goal

pub read_into-requires-clause-inside : goal.read_into-requires-clause-inside
read_into-requires-clause-inside g c = inside_named c.requires.sound c.args.range.name c.in-Some.ensures

pub returns-in-Ok : goal.returns-in-Ok
returns-in-Ok g c =
    let s = state_in (g.P.PageStore.content c.args.pages.now) c.args.tables.now in
    record { step = c.in-Ok.ensures s c.args.range.name (sym c.in-Some.ensures); changes = refl; counted = c.requires.sound.counted; name = tt }

pub returns-in-Err : goal.returns-in-Err
returns-in-Err g c =
    let s = state_in (g.P.PageStore.content c.args.pages.now) c.args.tables.now in
    record { step = c.in-Err.ensures s c.args.range.name (sym c.in-Some.ensures); changes = refl; counted = c.requires.sound.counted; name = tt }
