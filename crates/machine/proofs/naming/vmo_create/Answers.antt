use Rattle.std.proofs.Common.{refl, arith}
use Rattle.machine.specs.inside.Fields.{state_in}
use Rattle.machine.proofs.HandleLaws.{parts_in, kept_counted}
use Rattle.machine.proofs.naming.vmo_create.Goals as goal

pub create-requires-clause-parts : goal.create-requires-clause-parts
create-requires-clause-parts g c = parts_in c.requires.sound

pub returns-in-Ok : goal.returns-in-Ok
returns-in-Ok g c =
    let s = state_in (g.P.PageStore.content c.args.pages.now) c.args.tables.now in
    record { step = c.in-Ok.ensures.step s; changes = refl; counted = kept_counted c.requires.sound.counted c.in-Ok.ensures.keepers; name = omega arith }

pub returns-in-Err : goal.returns-in-Err
returns-in-Err g c =
    let s = state_in (g.P.PageStore.content c.args.pages.now) c.args.tables.now in
    record { step = c.in-Err.ensures.step s; changes = refl; counted = kept_counted c.requires.sound.counted c.in-Err.ensures.keepers; name = omega arith }
