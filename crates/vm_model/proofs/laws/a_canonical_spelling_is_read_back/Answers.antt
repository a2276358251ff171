use Rattle.vm_model.proofs.SpellingLaws.{spelling-read}
use Rattle.vm_model.proofs.laws.a_canonical_spelling_is_read_back.Goals as goal

pub returns : goal.returns
returns c = spelling-read
