use Rattle.std.proofs.Common.{refl, sym}
use Rattle.vm_model.specs.declared.command.Command.TheVariants.{VmoCommit}
use Rattle.machine.specs.inside.Fields.{state_in}
use Rattle.machine.proofs.ChangeLaws.{handles_range}
use Rattle.machine.proofs.HandleLaws.{inside_named}
use Rattle.machine.proofs.changing.vmo_commit.Goals as goal

pub commit_touching-outcome-requires-clause-inside : goal.commit_touching-outcome-requires-clause-inside
commit_touching-outcome-requires-clause-inside g c = inside_named c.requires c.args.range.name c.in-Some.ensures

pub returns-in-Some : goal.returns-in-Some
returns-in-Some g c =
    rw c.changed.ensures.reply (handles_range c.args.range.name (VmoCommit c.args.range.name c.args.range.offset c.args.range.len) c.args.range.offset c.args.range.len (λ s reply. refl) tt c.requires.counted c.in-Some.ensures c.commit_touching-outcome.result
    (c.commit_touching-outcome.ensures.step (state_in (g.P.PageStore.content c.args.pages.now) c.args.tables.now) c.args.range.name (sym c.in-Some.ensures)) c.commit_touching-outcome.ensures.touched c.changed.ensures.change)
