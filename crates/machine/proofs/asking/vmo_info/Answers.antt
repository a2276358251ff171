use Rattle.machine.specs.inside.Fields.{state_in}
use Rattle.machine.proofs.AskingLaws.{info_named}
use Rattle.machine.proofs.HandleLaws.{parts_in}
use Rattle.machine.proofs.asking.vmo_info.Goals as goal

pub info-requires-clause-parts : goal.info-requires-clause-parts
info-requires-clause-parts g c = parts_in c.requires

pub returns-in-Some : goal.returns-in-Some
returns-in-Some g c = info_named c.args.name _ c.requires.counted c.in-Some.ensures c.info.result (c.info.ensures (state_in (g.P.PageStore.content c.args.pages.now) c.args.tables.now))
