use Rattle.cow_fork.proofs.BitLaws.{hidden-split}
use Rattle.cow_fork.proofs.sharing.split_rows.Goals as goal

pub returns-clause-slots : goal.returns-clause-slots
returns-clause-slots c = hidden-split _ _ _ _ _ _ _ c.requires.plain c.hide_rows.ensures.slots c.hide_rows-2.ensures.slots
