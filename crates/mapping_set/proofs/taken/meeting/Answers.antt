use Rattle.mapping_set.proofs.TakenLaws.{meeting-at}
use Rattle.mapping_set.proofs.taken.meeting.Goals as goal

pub returns-in-Some : goal.returns-in-Some
returns-in-Some c = meeting-at _ c.args.first c.args.count c.requires.some _ _ c.in-Some.ensures
