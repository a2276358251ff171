use Rattle.std.proofs.Common.{refl, sym}
use Rattle.vm_model.specs.declared.command.Command.TheVariants.{VmoDecommit}
use Rattle.machine.specs.inside.Fields.{state_in}
use Rattle.machine.proofs.ChangeLaws.{handles_range}
use Rattle.machine.proofs.HandleLaws.{together_in}
use Rattle.machine.proofs.changing.vmo_decommit.Goals as goal

pub decommit_touching-outcome-requires-clause-parts : goal.decommit_touching-outcome-requires-clause-parts
decommit_touching-outcome-requires-clause-parts g c = together_in c.requires

pub returns-in-Some : goal.returns-in-Some
returns-in-Some g c =
    rw c.changed.ensures.reply (handles_range c.args.range.name (VmoDecommit c.args.range.name c.args.range.offset c.args.range.len) c.args.range.offset c.args.range.len (λ s reply. refl) tt c.requires.counted c.in-Some.ensures c.decommit_touching-outcome.result
    (c.decommit_touching-outcome.ensures.step (state_in (g.P.PageStore.content c.args.pages.now) c.args.tables.now) c.args.range.name (sym c.in-Some.ensures)) c.decommit_touching-outcome.ensures.touched c.changed.ensures.change)
