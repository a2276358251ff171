use Rattle.std.proofs.Common.{refl}
use Rattle.machine.specs.inside.Fields.{state_in}
use Rattle.machine.proofs.HandleLaws.{well_in, kept_counted}
use Rattle.machine.proofs.naming.vmo_close.Goals as goal

pub close-requires-clause-parts : goal.close-requires-clause-parts
close-requires-clause-parts g c = (state_in (g.P.PageStore.content c.args.pages.now) c.args.tables.now, well_in c.requires)

pub returns : goal.returns
returns g c =
    let s = state_in (g.P.PageStore.content c.args.pages.now) c.args.tables.now in
    record { step = c.close.ensures.step s (well_in c.requires); changes = refl; counted = kept_counted c.requires.counted c.close.ensures.keepers; name = tt }
