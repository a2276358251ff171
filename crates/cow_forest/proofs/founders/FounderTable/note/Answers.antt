use Rattle.cow_forest.proofs.Words.{◌∙◌}
use Rattle.cow_forest.proofs.founders.FounderTable.note.Goals as goal

pub returns : goal.returns
returns c = record { here = c.set.ensures.here; others = λ k apart. c.set.ensures.others k apart ∙ c.grow.ensures k }
