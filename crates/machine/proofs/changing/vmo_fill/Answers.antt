use Rattle.std.proofs.Common.{refl, sym}
use Rattle.vm_model.specs.declared.command.Command.TheVariants.{VmoFill}
use Rattle.machine.specs.inside.Fields.{state_in}
use Rattle.machine.proofs.ChangeLaws.{handles_range}
use Rattle.machine.proofs.HandleLaws.{inside_named}
use Rattle.machine.proofs.changing.vmo_fill.Goals as goal

pub fill_touching-outcome-requires-clause-inside : goal.fill_touching-outcome-requires-clause-inside
fill_touching-outcome-requires-clause-inside g c = inside_named c.requires c.args.range.name c.in-Some.ensures

pub returns-in-Some : goal.returns-in-Some
returns-in-Some g c =
    rw c.changed.ensures.reply (handles_range c.args.range.name (VmoFill c.args.range.name c.args.range.offset c.args.range.len c.args.byte) c.args.range.offset c.args.range.len (λ s reply. refl) tt c.requires.counted c.in-Some.ensures c.fill_touching-outcome.result
    (c.fill_touching-outcome.ensures.step (state_in (g.P.PageStore.content c.args.pages.now) c.args.tables.now) c.args.range.name (sym c.in-Some.ensures)) c.fill_touching-outcome.ensures.touched c.changed.ensures.change)
