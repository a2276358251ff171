use Rattle.std.proofs.Common.{length, refl, sym}
use Rattle.vm_model.specs.declared.command.Command.TheVariants.{VmoWrite}
use Rattle.machine.specs.inside.Fields.{state_in}
use Rattle.machine.proofs.ChangeLaws.{handles_range}
use Rattle.machine.proofs.HandleLaws.{inside_named}
use Rattle.machine.proofs.changing.vmo_write.Goals as goal

pub write_touching-outcome-requires-clause-inside : goal.write_touching-outcome-requires-clause-inside
write_touching-outcome-requires-clause-inside g c = inside_named c.requires c.args.name c.in-Some.ensures

pub returns-in-Some : goal.returns-in-Some
returns-in-Some g c =
    rw c.changed.ensures.reply (handles_range c.args.name (VmoWrite c.args.name c.args.offset c.args.bytes.now) c.args.offset (length c.args.bytes.now) (λ s reply. refl) tt c.requires.counted c.in-Some.ensures c.write_touching-outcome.result
    (c.write_touching-outcome.ensures.step (state_in (g.P.PageStore.content c.args.pages.now) c.args.tables.now) c.args.name (sym c.in-Some.ensures)) c.write_touching-outcome.ensures.touched c.changed.ensures.change)
