use Rattle.source_model.proofs.LinkLaws.{text-exists, text-only}
use Rattle.source_model.proofs.KeepLaws.{smaller_of}
use Rattle.source_model.proofs.laws.look_ups_find_the_text.Goals as goal

pub returns-clause-only : goal.returns-clause-only
returns-clause-only c = λ s good. text-only s good.text (smaller_of s good)

pub returns-clause-exists : goal.returns-clause-exists
returns-clause-exists c = text-exists
