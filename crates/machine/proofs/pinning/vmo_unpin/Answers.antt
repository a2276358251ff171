use Rattle.std.proofs.Common.{refl}
use Rattle.machine.specs.inside.Fields.{state_in}
use Rattle.machine.proofs.HandleLaws.{well_in}
use Rattle.machine.proofs.pinning.vmo_unpin.Goals as goal

pub unpin-requires-clause-parts : goal.unpin-requires-clause-parts
unpin-requires-clause-parts g c = (state_in (g.P.PageStore.content c.args.pages.now) c.args.tables.now, well_in c.requires)

pub returns : goal.returns
returns g c =
    let s = state_in (g.P.PageStore.content c.args.pages.now) c.args.tables.now in record {
      step = c.unpin.ensures.step s (well_in c.requires);
      changes = refl;
      counted = record { counted = c.unpin.ensures.counted s c.requires.counted.counted; noted = c.requires.counted.noted };
      name = tt;
    }
